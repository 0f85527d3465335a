-- The values of parts, one after the other.
use Rattle.std.proofs.Common.{◌≡◌, ◌⊎◌, inl, inr, ℕ, zero, suc, ◌+◌, ◌<◌, ◌≤◌, List, [], ◌∷◌, ◌++◌, map, take, length, slice_get, slice_index_or, Some, Ok, refl, ap, subst, sym, ◌∙◌, arith}
use Rattle.std.proofs.lemmas.List.{map-append}
use Rattle.fr_value.specs.declared.now.Held.{Held}
use Rattle.fr_value.specs.declared.now.Now.{Now}
use Rattle.fr_meaning.specs.Words.{Seen}
use Rattle.fr_graph.specs.Graph.{Part, steady, signal, Graph, part_value, part_values}
use Rattle.fr_graph.specs.Known.{Reads}
use Rattle.fr_way.specs.Way.{Way}
use Rattle.fr_nodes.specs.Kinds.{part_of, parts_of}
use Rattle.fr_nodes.specs.Makes.{AreThere}

reads_first : (q : Part) (qs : List Part) (j : ℕ) → Reads j (q ∷ []) → Reads j (q ∷ qs)
reads_first (steady v) qs j r = absurd r
reads_first (signal m) qs j r = elim r [ inl e ↦ inl e | inr o ↦ absurd o ]

reads_behind : (q : Part) (qs : List Part) (j : ℕ) → Reads j qs → Reads j (q ∷ qs)
reads_behind (steady v) qs j r = r
reads_behind (signal m) qs j r = inr r

-- a part among those that are there is there
pub part_there : (at : Way) (ps : List Held) (i : ℕ) (p : Held) → slice_get ps i ≡ Some p → AreThere at (parts_of ps) → AreThere at (part_of p ∷ [])
part_there at [] i p found there = absurd cc
part_there at (q ∷ ps) zero p found there = let same : q ≡ p = cc in λ j r. there j (reads_first (part_of q) (parts_of ps) j (subst (λ (h : Held). Reads j (part_of h ∷ [])) (sym same) r))
part_there at (q ∷ ps) (suc i) p found there = part_there at ps i p found (λ j r. there j (reads_behind (part_of q) (parts_of ps) j r))

take_next : (ps : List Held) (i : ℕ) (p : Held) → slice_get ps i ≡ Some p → take (i + 1) ps ≡ take i ps ++ p ∷ []
take_next ps i p found = let one : i + 1 ≡ suc i = omega arith in ap (λ (k : ℕ). take k ps) one ∙ by_suc ps i found
  where
    by_suc : (qs : List Held) (k : ℕ) → slice_get qs k ≡ Some p → take (suc k) qs ≡ take k qs ++ p ∷ []
    by_suc [] k found = absurd cc
    by_suc (q ∷ qs) zero found = let same : q ≡ p = cc in ap (λ (h : Held). h ∷ []) same
    by_suc (q ∷ qs) (suc k) found = ap (λ (l : List Held). q ∷ l) (by_suc qs k found)

-- one value more
pub value_next : (g : Graph) (ps : List Held) (i : ℕ) (p : Held) (vs more : List Now) (v : Now) → slice_get ps i ≡ Some p → map (λ (n : Now). let s : Seen = Ok n in s) vs ≡ part_values g (parts_of (take i ps))
    → more ≡ vs ++ v ∷ [] → part_value g (part_of p) ≡ Ok v → map (λ (n : Now). let s : Seen = Ok n in s) more ≡ part_values g (parts_of (take (i + 1) ps))
value_next g ps i p vs more v found had same value =
    let seen = λ (n : Now). let s : Seen = Ok n in s in
    ap (map seen) same ∙ map-append seen vs (v ∷ []) ∙ ap (λ (l : List Seen). l ++ Ok v ∷ []) had ∙ ap (λ (s : Seen). part_values g (parts_of (take i ps)) ++ s ∷ []) (sym value)
    ∙ sym (map-append (part_value g) (parts_of (take i ps)) (part_of p ∷ [])) ∙ ap (part_values g) (sym (map-append part_of (take i ps) (p ∷ [])))
    ∙ ap (λ (l : List Held). part_values g (parts_of l)) (sym (take_next ps i p found))

pub take_every : (ps : List Held) (i : ℕ) → length ps ≤ i → take i ps ≡ ps
take_every [] zero le = refl
take_every [] (suc i) le = refl
take_every (p ∷ ps) zero le = absurd (omega arith)
take_every (p ∷ ps) (suc i) le = let less : length ps ≤ i = omega arith in ap (λ (l : List Held). p ∷ l) (take_every ps i less)

pub item_at : (ps : List Held) (i : ℕ) (d : Held) → i < length ps → slice_get ps i ≡ Some (slice_index_or ps i d)
item_at [] i d lt = absurd (omega arith)
item_at (p ∷ ps) zero d lt = refl
item_at (p ∷ ps) (suc i) d lt = let less : i < length ps = omega arith in item_at ps i d less
