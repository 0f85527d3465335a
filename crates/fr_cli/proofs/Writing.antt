-- The line of a failure, as far as it was written.
use Rattle.std.proofs.Common.{ℕ, ◌≤◌, List, Option, Result, Ok, Err, OnOk, OnErr, IsErr, inl, inr, refl, arith}
use Rattle.std.specs.Io.KnownBytes.{Appends}
use Rattle.fr_io.specs.Faults.{Counts}
use Rattle.fr_io.specs.Files.{AppendsSome}
use Rattle.fr_cli.specs.Lines.{WritesLine}

pub writes_line : {T E : Type 0} (r : Result T E) (line : List ℕ) (x y : Option (List ℕ)) (before now : ℕ)
    → OnOk r (Appends x y line) → OnErr r (AppendsSome x y line) → Counts (IsErr r) before now → WritesLine line x y before now
writes_line (Ok t) line x y before now ok err counts = inl (ok, counts.stays (λ e. cc))
writes_line (Err e) line x y before now ok err counts = inr (err, counts.falls_not, counts.rises refl)

-- the count didn't fall
pub line_counts : (line : List ℕ) (x y : Option (List ℕ)) (before now : ℕ) → WritesLine line x y before now → before ≤ now
line_counts line x y before now (inl h) = omega (arith, h.1)
line_counts line x y before now (inr h) = h.1
