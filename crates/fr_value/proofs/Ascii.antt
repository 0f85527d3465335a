-- Symbols are ASCII text.
use Rattle.std.specs.Prelude.{ℕ, suc, zero, true, false, ◌<◌, ◌≡◌, List, [], ◌∷◌}
use Rattle.std.proofs.Common.{arith}
use Rattle.std.specs.Str.{IsUtf8, IsAscii}
use Rattle.std.proofs.lemmas.Bool.{and_parts, false_from_ne_true}
use Rattle.std.proofs.lemmas.Str.{IsUtf8-from_ascii}
use Rattle.fr_value.specs.Bytes.{is_name, is_symbol_byte, are_symbol_bytes}

symbol_small : (b : ℕ) → is_symbol_byte b ≡ true → b < 128
symbol_small b h = grind (arith, h)

symbols_ascii : (bs : List ℕ) → are_symbol_bytes bs ≡ true → IsAscii bs
symbols_ascii [] h i = omega arith
symbols_ascii (b ∷ bs) h zero = symbol_small b (and_parts (is_symbol_byte b) (are_symbol_bytes bs) h).0
symbols_ascii (b ∷ bs) h (suc i) = symbols_ascii bs (and_parts (is_symbol_byte b) (are_symbol_bytes bs) h).1 i

name_ascii : (bs : List ℕ) → is_name bs ≡ true → IsAscii bs
name_ascii [] h i = omega arith
name_ascii (b ∷ bs) h i = symbols_ascii (b ∷ bs) (and_parts _ _ (and_parts _ _ h).0).0 i

-- what isn't text is no symbol
pub no_name : (bs : List ℕ) → (IsUtf8 bs → ⊥) → is_name bs ≡ false
no_name bs h = false_from_ne_true (is_name bs) (λ k. h (IsUtf8-from_ascii bs (name_ascii bs k)))
