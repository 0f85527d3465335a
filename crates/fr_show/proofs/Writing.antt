-- What was appended, piece by piece.
use Rattle.std.proofs.Common.{ℕ, ◌+◌, ◌≤◌, List, ◌++◌, length, take, sym, subst, arith, length-append}
use Rattle.std.proofs.Math.Seq.{take-append-add}
use Rattle.std.proofs.lemmas.List.{take-append-le}
use Rattle.std.specs.declared.option.Option.{Option}
use Rattle.std.specs.Io.KnownBytes.{Appends}
use Rattle.fr_io.specs.Files.{AppendsSome}
use Rattle.fr_io.proofs.Appending.{appends_more}

-- some first bytes of the front are some first bytes of the whole
pub some_front : (x y : Option (List ℕ)) (xs ys : List ℕ) → AppendsSome x y xs → AppendsSome x y (xs ++ ys)
some_front x y xs ys (n, lt, w) =
    (n, omega (arith, length-append xs ys), subst (λ (z : List ℕ). Appends x y z) (sym (take-append-le n xs ys (let at_most : n ≤ length xs = omega arith in at_most))) w)

-- some first bytes behind a piece that was written whole
pub some_behind : (x y z : Option (List ℕ)) (xs ys : List ℕ) → Appends x y xs → AppendsSome y z ys → AppendsSome x z (xs ++ ys)
some_behind x y z xs ys h (n, lt, w) =
    (length xs + n, omega (arith, length-append xs ys), subst (λ (l : List ℕ). Appends x z l) (sym (take-append-add xs ys n)) (appends_more x y z xs (take n ys) h w))
