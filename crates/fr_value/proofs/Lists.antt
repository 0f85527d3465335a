-- The size and depth of the first items of a list.
use Rattle.std.proofs.Common.{◌≡◌, ℕ, true, ◌&&◌, ◌+◌, ◌≤◌, ◌<◌, List, [], ◌∷◌, length, drop, get_or, map, max, refl, ap, sym, ◌∙◌, arith, zero, suc, drop-cons, add-one, ◌⊎◌, inl, inr}
use Rattle.std.proofs.lemmas.List.{drop_all}
use Rattle.fr_value.specs.declared.value.Value.{Value}
use Rattle.fr_value.specs.declared.value.Datum.{Datum}
use Rattle.fr_value.specs.Valid.{is_valid, are_valid}
use Rattle.fr_value.specs.Data.{data_of, data_size, data_depth, datum_of, datum_size, datum_depth, value_size, value_depth, size-of, depth-of, total, greatest, AreFew}
use Rattle.fr_value.specs.Limits.{most_size, most_depth}

abbrev pub rest_of : List Value → ℕ → List Datum
rest_of vs i = data_of (drop i vs)

-- size and depth so far, and those of the rest, are those of all, and all are valid where the rest is
pub record Split (vs : List Value) (i size depth : ℕ) : Type 0 where
  pub sized : size + total (map datum_size (rest_of vs i)) ≡ data_size (data_of vs)
  pub one : 1 ≤ depth
  pub deep : max depth (1 + greatest (map datum_depth (rest_of vs i))) ≡ data_depth (data_of vs)
  pub valid : are_valid (data_of vs) ≡ are_valid (rest_of vs i)

pub at_front : (vs : List Value) (i : ℕ) (v : Value) → i < length vs → v ≡ get_or vs i v → rest_of vs i ≡ datum_of v ∷ rest_of vs (i + 1)
at_front vs i v h e = rw (add-one, drop-cons vs i v h) (ap (λ w. datum_of w ∷ data_of (drop (suc i) vs)) (sym e))

pub step : (vs : List Value) (i size depth : ℕ) → i < length vs → Split vs i size depth → (v : Value) → v ≡ get_or vs i v → is_valid (datum_of v) ≡ true → Split vs (i + 1) (size + value_size v) (max depth (value_depth v + 1))
step vs i size depth h s v e w =
    let front = at_front vs i v h e in
    let sized = rw front at s.sized in
    let deep = rw front at s.deep in
    record { sized = omega (arith, size-of v, sized); one = omega (arith, s.one); deep = omega (arith, depth-of v, deep); valid = s.valid ∙ ap are_valid front ∙ ap (λ b. b && are_valid (rest_of vs (i + 1))) w }

-- the next item is too large, or too deep
pub too_big : (vs : List Value) (i size depth : ℕ) → i < length vs → Split vs i size depth → (v : Value) → v ≡ get_or vs i v
    → is_valid (datum_of v) ≡ true → (most_size < size + value_size v) ⊎ (most_depth < value_depth v + 1) → AreFew (data_of vs) → ⊥
too_big vs i size depth h s v e w (inl big) few = let t = step vs i size depth h s v e w in omega (arith, t.sized, few.0)
too_big vs i size depth h s v e w (inr big) few = let t = step vs i size depth h s v e w in omega (arith, t.deep, few.1)

pub done : (vs : List Value) (i size depth : ℕ) → length vs ≤ i → Split vs i size depth → (size ≡ data_size (data_of vs)) × (depth ≡ data_depth (data_of vs)) × (are_valid (data_of vs) ≡ true)
done vs i size depth h s =
    let e : rest_of vs i ≡ [] = rw (drop_all i vs h) refl in
    (omega (arith, rw e at s.sized), omega (arith, s.one, rw e at s.deep), s.valid ∙ ap are_valid e)

-- an item is smaller than its list
pub item_smaller : (vs : List Value) (i : ℕ) (v : Value) → i < length vs → v ≡ get_or vs i v → value_size v + 1 ≤ data_size (data_of vs)
item_smaller [] i v h e = absurd (omega (arith, h))
item_smaller (w ∷ vs) zero v h e = omega (arith, ap value_size e, size-of w)
item_smaller (w ∷ vs) (suc i) v h e = omega (arith, item_smaller vs i v (omega (arith, h)) e)
