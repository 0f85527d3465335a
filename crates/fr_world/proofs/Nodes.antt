-- The nodes of a store in which one more was put.
use Rattle.std.proofs.Common.{◌≡◌, ◌≢◌, ℕ, ◌+◌, ◌-◌, ◌≤◌, List, length, replicate, ◌++◌, inl, inr, Option, Some, None, refl, sym, ap, ◌∙◌, subst, arith, get_or-set_same, get_or-set_other, length-append, length-set}
use Rattle.std.proofs.lemmas.List.{get_or-append_right, get_or-replicate, get_or_append_left, get_or_past, length-replicate}
use Rattle.fr_store.specs.declared.node.Node.{Node}
use Rattle.fr_store.specs.Nodes.{Makes, Stored, node_at, node_in, placed}
use Rattle.fr_store.proofs.Lists.{by_bound}

with_none : (nodes : List (Option Node)) (k j : ℕ) → node_in (nodes ++ replicate k None) j ≡ node_in nodes j
with_none nodes k j = elim (by_bound j (length nodes)) [
  | inl lt ↦ get_or_append_left nodes (replicate k None) None j lt
  | inr le ↦ get_or-append_right nodes (replicate k None) (length nodes) j None refl le ∙ empty k (j - length nodes) ∙ sym (get_or_past nodes j None le)
]
  where
    empty : (n i : ℕ) → node_in (replicate n None) i ≡ None
    empty n i = elim (by_bound i n) [
      | inl lt ↦ get_or-replicate n i None None lt
      | inr le ↦ get_or_past (replicate n None) i None (subst (λ (m : ℕ). m ≤ i) (sym (length-replicate n None)) le)
    ]

none_long : (nodes : List (Option Node)) (k : ℕ) → length (nodes ++ replicate k None) ≡ length nodes + k
none_long nodes k = length-append nodes (replicate k None) ∙ ap (λ (n : ℕ). length nodes + n) (length-replicate k None)

placed_here : (nodes : List (Option Node)) (i : ℕ) (n : Node) → node_in (placed nodes i n) i ≡ Some n
placed_here nodes i n =
    let long = none_long nodes (i + 1 - length nodes) in
    get_or-set_same (nodes ++ replicate (i + 1 - length nodes) None) i (Some n) None (omega arith)

placed_other : (nodes : List (Option Node)) (i : ℕ) (n : Node) (j : ℕ) → j ≢ i → node_in (placed nodes i n) j ≡ node_in nodes j
placed_other nodes i n j ne =
    get_or-set_other (nodes ++ replicate (i + 1 - length nodes) None) i j (Some n) None ne ∙ with_none nodes (i + 1 - length nodes) j

-- the node that was put in is at its number
pub made_here : (s t : Stored) (m : ℕ) (n : Node) → Makes s t m n → node_at t m ≡ Some n
made_here s t m n made = ap (λ (nodes : List (Option Node)). node_in nodes m) made.nodes ∙ placed_here s.nodes m n

-- every other number has what it had
pub made_other : (s t : Stored) (m : ℕ) (n : Node) → Makes s t m n → (j : ℕ) → j ≢ m → node_at t j ≡ node_at s j
made_other s t m n made j ne = ap (λ (nodes : List (Option Node)). node_in nodes j) made.nodes ∙ placed_other s.nodes m n j ne

-- where the number is the first past the others, there is one more
pub made_long : (s t : Stored) (m : ℕ) (n : Node) → Makes s t m n → length s.nodes ≤ m → length t.nodes ≡ m + 1
made_long s t m n made past =
    let long = none_long s.nodes (m + 1 - length s.nodes) in
    let set = length-set (s.nodes ++ replicate (m + 1 - length s.nodes) None) m (Some n) in
    let near = made.near in
    ap (λ (nodes : List (Option Node)). length nodes) made.nodes ∙ set ∙ long ∙ (let e : length s.nodes + (m + 1 - length s.nodes) ≡ m + 1 = omega arith in e)
