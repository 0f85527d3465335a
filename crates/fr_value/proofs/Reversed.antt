-- Lists from the last item to the first.
use Rattle.std.specs.Prelude.{ℕ, ◌+◌, ◌≡◌, List, [], ◌∷◌, ◌++◌, map, max, reverse, length, take, drop}
use mathlib.Core.List.{reverse_aux}
use Rattle.std.proofs.Common.{refl, sym, ◌∙◌, ap, subst, arith}
use Rattle.std.proofs.lemmas.List.{reverse-append, take-append-drop, take_all}
use Rattle.fr_value.specs.declared.value.Datum.{Datum}
use Rattle.fr_value.specs.declared.value.Value.{Value}
use Rattle.fr_value.specs.Data.{data_of, datum_of, datum_size, datum_depth, total, greatest, AreFew, IsRun}
use Rattle.fr_value.proofs.Measured.{few_parts}
use Rattle.fr_value.proofs.Runs.{take_run}

map_onto : (vs ws : List Value) → data_of (reverse_aux vs ws) ≡ reverse_aux (data_of vs) (data_of ws)
map_onto [] ws = refl
map_onto (v ∷ vs) ws = map_onto vs (v ∷ ws)

data_of-reverse : (vs : List Value) → data_of (reverse vs) ≡ reverse (data_of vs)
data_of-reverse vs = map_onto vs []

size_onto : (ds es : List Datum) → total (map datum_size (reverse_aux ds es)) ≡ total (map datum_size ds) + total (map datum_size es)
size_onto [] es = omega arith
size_onto (d ∷ ds) es = size_onto ds (d ∷ es) ∙ omega arith

depth_onto : (ds es : List Datum) → greatest (map datum_depth (reverse_aux ds es)) ≡ max (greatest (map datum_depth ds)) (greatest (map datum_depth es))
depth_onto [] es = omega arith
depth_onto (d ∷ ds) es = depth_onto ds (d ∷ es) ∙ omega arith

few_reversed : (ds : List Datum) → AreFew ds → AreFew (reverse ds)
few_reversed ds h = (omega (arith, size_onto ds [], h.0), omega (arith, depth_onto ds [], h.1))

-- the first items of a list within the limits are within them, from the last to the first
pub few_turned : (ds xs : List Datum) (n : ℕ) → xs ≡ reverse (take n ds) → AreFew ds → AreFew xs
few_turned ds xs n e f = subst AreFew (sym e) (few_reversed (take n ds) (few_parts (take n ds) (drop n ds) (subst AreFew (sym (take-append-drop n ds)) f)).0)

-- a run's items, from the last to the first, in front of those before it
pub turned_more : (ds more : List Datum) (front : List Value) (at n : ℕ) (v : Value) (vs : List Value)
    → more ≡ reverse (take at ds) → front ≡ reverse (v ∷ vs) → IsRun ds at v vs → n ≡ at + (1 + length vs) → data_of front ++ more ≡ reverse (take n ds)
turned_more ds more front at n v vs m f r k =
    let all : take (length vs) vs ≡ vs = take_all (length vs) vs (omega arith) in
    let taken : take n ds ≡ take at ds ++ data_of (v ∷ vs) = ap (λ m. take m ds) k ∙ take_run ds at v vs (length vs) r (omega arith) ∙ ap (λ x. take at ds ++ (datum_of v ∷ data_of x)) all in
    ap (λ x. data_of x ++ more) f ∙ ap (λ x. x ++ more) (data_of-reverse (v ∷ vs)) ∙ ap (λ x. reverse (data_of (v ∷ vs)) ++ x) m ∙ sym (ap reverse taken ∙ reverse-append (take at ds) (data_of (v ∷ vs)))
