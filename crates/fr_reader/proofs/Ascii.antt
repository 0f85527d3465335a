-- Integers are text.
use Rattle.std.specs.Prelude.{ℕ, suc, zero, false, ◌<◌, ◌≡◌, List, [], ◌∷◌}
use Rattle.std.proofs.Common.{inl, inr, arith}
use Rattle.std.specs.Str.{IsUtf8, IsAscii}
use Rattle.std.specs.Str.Parse.{without_leading_sign}
use Rattle.std.proofs.lemmas.Fmt.{IsAscii-from_digits}
use Rattle.std.proofs.lemmas.Bool.{false_from_ne_true}
use Rattle.std.proofs.lemmas.Bool.Decides.{eqb_tells}
use Rattle.std.proofs.lemmas.Str.{IsUtf8-from_ascii}
use Rattle.fr_value.specs.Grammar.{is_integer}
use Rattle.fr_reader.proofs.Numerals.{integer_of}

nil_ascii : IsAscii []
nil_ascii i = omega arith

from_tail : (b : ℕ) (bs : List ℕ) → b < 128 → IsAscii bs → IsAscii (b ∷ bs)
from_tail b bs h k zero = h
from_tail b bs h k (suc i) = k i

integer_ascii : (bs : List ℕ) → IsAscii (without_leading_sign bs) → IsAscii bs
integer_ascii [] h = nil_ascii
integer_ascii (b ∷ bs) h = elim (eqb_tells b 45) as (λ _. IsAscii (b ∷ bs)) [
  | inl p ↦ from_tail b bs (omega (arith, p.1)) (rw p.0 at h)
  | inr p ↦ elim (eqb_tells b 43) as (λ _. IsAscii (b ∷ bs)) [
    | inl q ↦ from_tail b bs (omega (arith, q.1)) (rw (p.0, q.0) at h)
    | inr q ↦ rw (p.0, q.0) at h
  ]
]

-- what isn't text is no integer
pub no_integer : (bs : List ℕ) → (IsUtf8 bs → ⊥) → is_integer bs ≡ false
no_integer bs h = false_from_ne_true (is_integer bs) (λ k. h (IsUtf8-from_ascii bs (integer_ascii bs (IsAscii-from_digits (without_leading_sign bs) (integer_of bs k).0.1))))
