-- Integers and their test.
use Rattle.std.specs.Prelude.{ℕ, true, false, ◌^◌, ◌<◌, ◌≡◌, nat_lt, length, ℤ, pos, negsuc, List, FitsSigned, Result, Ok, Err, MatchOption}
use Rattle.std.proofs.Common.{arith, refl}
use Rattle.std.specs.Int.{w64}
use Rattle.std.specs.Result.{result_ok}
use Rattle.std.specs.Str.{all_ascii_digits}
use Rattle.std.specs.Str.Parse.{IsNumeral, digits_value, without_leading_sign, signed_digits_value, ParsesSigned}
use Rattle.std.proofs.lemmas.Bool.{and_parts, false_from_ne_true}
use Rattle.std.proofs.lemmas.Bool.Decides.{nat_tests}
use Rattle.std.proofs.lemmas.Str.Parse.{IsNumeralModel, numerals_by_value, tells_all_ascii_digits}
use Rattle.fr_value.specs.Valid.{fits}
use Rattle.fr_value.specs.Grammar.{is_numeral, is_integer}

-- std's test of digits
own : IsNumeralModel (λ ds. all_ascii_digits ds ≡ true) (digits_value 10)
own = numerals_by_value _ tells_all_ascii_digits

numeral_of : (ds : List ℕ) → is_numeral ds ≡ true → IsNumeral 10 ds
numeral_of ds h =
    let p : (nat_lt 0 (length ds) ≡ true) × (all_ascii_digits ds ≡ true) = and_parts _ _ h in
    (grind (arith, nat_tests), own.to ds p.1)

pub numeral_from : (ds : List ℕ) → IsNumeral 10 ds → is_numeral ds ≡ true
numeral_from ds h =
    let p : all_ascii_digits ds ≡ true = own.from ds h.1 in
    let q : nat_lt 0 (length ds) ≡ true = grind (arith, nat_tests) in
    rw (p, q) refl

pub fits_of : (z : ℤ) → fits z ≡ true → FitsSigned w64 z
fits_of (pos n) h = record { sfits = grind (arith, nat_tests) }
fits_of (negsuc n) h = record { sfits = grind (arith, nat_tests) }

fits_from : (z : ℤ) → FitsSigned w64 z → fits z ≡ true
fits_from (pos n) h = let l : n < 2 ^ 63 = h.sfits in grind (arith, nat_tests)
fits_from (negsuc n) h = let l : n < 2 ^ 63 = h.sfits in grind (arith, nat_tests)

pub integer_of : (a : List ℕ) → is_integer a ≡ true → IsNumeral 10 (without_leading_sign a) × FitsSigned w64 (signed_digits_value 10 a)
integer_of a h =
    let p : (is_numeral (without_leading_sign a) ≡ true) × (fits (signed_digits_value 10 a) ≡ true) = and_parts _ _ h in
    (numeral_of _ p.0, fits_of _ p.1)

integer_from : (a : List ℕ) → IsNumeral 10 (without_leading_sign a) → FitsSigned w64 (signed_digits_value 10 a) → is_integer a ≡ true
integer_from a n f = rw (numeral_from _ n, fits_from _ f) refl

not_integer : (a : List ℕ) → ¬ (IsNumeral 10 (without_leading_sign a) × FitsSigned w64 (signed_digits_value 10 a)) → is_integer a ≡ false
not_integer a h = false_from_ne_true (is_integer a) (λ e. h (integer_of a e))

-- what parses passes the test, and nothing else does
pub parsed : {E : Type 0} (a : List ℕ) (r : Result ℤ E) → ParsesSigned w64 10 a r
    → MatchOption (result_ok r) (is_integer a ≡ false) (λ n. (is_integer a ≡ true) × (n ≡ signed_digits_value 10 a))
parsed a (Ok n) h = (integer_from a h.0.0 h.0.1, h.1)
parsed a (Err e) h = not_integer a h
