-- Marks that are taken from functions one after another.
use Rattle.std.proofs.Common.{ℕ, zero, suc, ◌≡◌, ◌+◌, ◌==◌, Bool, true, false, not, ◌&&◌, cond, List, [], ◌∷◌, length, set, refl, arith, length-append}
use Rattle.std.proofs.lemmas.Bool.Decides.{nat_tests}
use Rattle.std.proofs.lemmas.List.Folds.{list_any-append}
use Rattle.fr_purity.specs.Marks.{set_of}
use Rattle.fr_purity.specs.Removal.{has, without, marked_among}

-- the number of marks
abbrev pub marks_in : List Bool → ℕ
marks_in [] = 0
marks_in (b ∷ bs) = cond b 1 0 + marks_in bs

set_of-set : (marks : List Bool) (n f : ℕ) → set_of (set marks n false) f ≡ set_of marks f && not (n == f)
set_of-set [] n f = refl
set_of-set (b ∷ bs) zero zero = and_false b
  where
    and_false : (x : Bool) → false ≡ x && false
    and_false true = refl
    and_false false = refl
set_of-set (b ∷ bs) zero (suc f) = grind (arith, nat_tests)
set_of-set (b ∷ bs) (suc n) zero = grind (arith, nat_tests)
set_of-set (b ∷ bs) (suc n) (suc f) = grind (arith, nat_tests, set_of-set bs n f)

-- the functions that keep their mark are the others
pub set_of-without : (marks : List Bool) (ns : List ℕ) (f : ℕ) → set_of (without marks ns) f ≡ set_of marks f && not (has ns f)
set_of-without marks [] f = grind arith
set_of-without marks (n ∷ ns) f = grind (arith, set_of-without (set marks n false) ns f, set_of-set marks n f)

-- the functions whose mark is taken are those of them that have one
pub has-marked_among : (marks : List Bool) (ns : List ℕ) (f : ℕ) → has (marked_among marks ns) f ≡ set_of marks f && has ns f
has-marked_among marks [] f = grind arith
has-marked_among marks (n ∷ ns) f = grind (arith, nat_tests, list_any-append {X = ℕ}, has-marked_among (set marks n false) ns f, set_of-set marks n f)

one_taken : (marks : List Bool) (n : ℕ) → cond (set_of marks n) 1 0 + marks_in (set marks n false) ≡ marks_in marks
one_taken [] n = refl
one_taken (b ∷ bs) zero = omega arith
one_taken (b ∷ bs) (suc n) = omega (arith, one_taken bs n)

length_if : (b : Bool) (n : ℕ) → length (cond b (n ∷ []) []) ≡ cond b 1 0
length_if true n = refl
length_if false n = refl

-- each function whose mark is taken is one mark less
pub marks_in-without : (marks : List Bool) (ns : List ℕ) → length (marked_among marks ns) + marks_in (without marks ns) ≡ marks_in marks
marks_in-without marks [] = omega arith
marks_in-without marks (n ∷ ns) =
    omega (arith, marks_in-without (set marks n false) ns, one_taken marks n, length_if (set_of marks n) n, length-append (cond (set_of marks n) (n ∷ []) []) (marked_among (set marks n false) ns))
