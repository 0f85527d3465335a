-- The number that digits write, kept to 64 bits.
use Rattle.std.specs.Prelude.{ℕ, ◌+◌, ◌-◌, ◌*◌, ◌≤◌, ◌≡◌, min, List, ◌∷◌}
use Rattle.std.specs.Char.{digit_value}
use Rattle.std.specs.Str.Parse.{digits_value, digits_value_after}
use Rattle.std.proofs.Common.{refl, arith}
use Rattle.std.proofs.lemmas.Str.{digit_value_digit}
use Rattle.fr_script.specs.Limits.{greatest_number}

-- the number so far, kept to 64 bits, with the digits that are left is that of all digits
pub record IsSum (value : ℕ) (rest all : List ℕ) : Type 0 where
  pub exact : ℕ
  pub value_is : value ≡ min exact greatest_number
  pub all_is : digits_value_after 10 exact rest ≡ digits_value 10 all

pub none_yet : (all : List ℕ) → IsSum 0 all all
none_yet all = record { exact = 0; value_is = refl; all_is = refl }

pub next_digit : (value b : ℕ) (rest all : List ℕ) → 48 ≤ b → b ≤ 57 → IsSum value (b ∷ rest) all → IsSum (min (min (value * 10) greatest_number + (b - 48)) greatest_number) rest all
next_digit value b rest all h k s =
    let d : digit_value b + 48 ≡ b = digit_value_digit b (h, k) in
    record {
      exact = s.exact * 10 + digit_value b;
      value_is = omega (arith, s.value_is);
      all_is = s.all_is;
    }
