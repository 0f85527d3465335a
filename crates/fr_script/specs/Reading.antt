-- The one datum that a text reads as.
use Rattle.std.specs.Prelude.{ℕ, ◌⊎◌, List, Option, Some, None}
use Rattle.std.proofs.Common.{inl, inr}
use Rattle.fr_value.specs.declared.value.Datum.{Datum}
use Rattle.fr_value.specs.Grammar.{ReadsOne}
use Rattle.fr_reader.proofs.Decided.{decided}

-- a text reads as one datum, or as none
abbrev pub OneOrNone : List ℕ → Type 0
OneOrNone text = ((d : Datum) × ReadsOne text d) ⊎ ((d : Datum) → ReadsOne text d → ⊥)

-- the datum, where there is one
abbrev pub one_in : (text : List ℕ) → OneOrNone text → Option Datum
one_in text (inl d) = Some d.0
one_in text (inr none) = None

-- the datum that a text reads as, or none where it doesn't read as one; `decided` is the proof that there is one or none
unfoldable pub reading : List ℕ → Option Datum
reading text = one_in text (decided text)
