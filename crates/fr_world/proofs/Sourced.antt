-- The making of the nodes of sources.
use Rattle.std.proofs.Common.{◌≡◌, ◌≢◌, ℕ, suc, ◌+◌, ◌-◌, ◌<◌, ◌≤◌, List, [], ◌∷◌, ◌++◌, length, inl, inr, ◌⊎◌, Option, Some, is_some, Bool, true, false, nat_eq, refl, sym, ap, ◌∙◌, subst, arith}
use Rattle.fr_value.specs.declared.ids.EraId.{EraId}
use Rattle.fr_links.specs.Lists.{has_item}
use Rattle.fr_links.proofs.Has.{by_number, cons_absent, has_append_left, has_append_right, here, true_false}
use Rattle.fr_queue.specs.Queue.{Queued}
use Rattle.fr_store.specs.declared.node.Node.{Node}
use Rattle.fr_store.specs.declared.node.NodeKind.{NodeKind}
use Rattle.fr_store.specs.Nodes.{Stored, height_in, least_height, new_node, node_at}
use Rattle.fr_store.proofs.Lists.{by_bound}
use Rattle.fr_eras.specs.Heights.{height_at}
use Rattle.fr_eras.specs.Lives.{Lives, is_era, members}
use Rattle.fr_meaning.specs.Evaluation.{most_levels}
use Rattle.fr_graph.specs.Graph.{source}
use Rattle.fr_way.specs.Way.{Way}
use Rattle.fr_nodes.specs.Kinds.{Sites, kind_of}
use Rattle.fr_nodes.specs.Makes.{Makes}
use Rattle.fr_world.specs.Calls.{Adds, HasSources, Sourced}
use Rattle.fr_world.specs.World.{way_by, way_of}
use Rattle.fr_world.proofs.Made.{makes}
use Rattle.fr_world.proofs.Nodes.{made_here, made_long}
use Rattle.fr_world.proofs.Whole.{in_neither, one, some_sites}

unwrap : (b : Bool) (at : Way) (n : ℕ) → b ≡ true → HasSources (way_by b at) n → HasSources at n
unwrap true at n e h = h
unwrap false at n e h = cc

pub sourced_none : (s : Stored) (l : Lives) (q : Queued) (i : ℕ) (b : Bool) → b ≡ true → ((sites : Sites) → HasSources (way_by b (way_of sites s l q i)) 0) → s.nodes ≡ []
    → ((x : ℕ) → is_era l x ≡ nat_eq x 0) → Sourced s l q i b 0
sourced_none s l q i b e h none eras = record { has = λ sites. unwrap b (way_of sites s l q i) 0 e (h sites); long = ap (λ (nodes : List (Option Node)). length nodes) none; eras = eras; whole_is = e }

pub sourced_all : (s : Stored) (l : Lives) (q : Queued) (i many : ℕ) (b : Bool) → Sourced s l q i b many → (sites : Sites) → HasSources (way_by b (way_of sites s l q i)) many
sourced_all s l q i many b h sites = one (λ at. HasSources at many) b (way_of sites s l q i) h.whole_is (h.has sites)

-- one more source
pub sourced_more : (s t : Stored) (l k : Lives) (q r : Queued) (i j many m : ℕ) (b c : Bool) (kind : NodeKind) (era : EraId) → Sourced s l q i b many
    → Adds s t l k q r m era.0 (new_node kind [] era (least_height s.nodes 0 []) 0 i) → era.0 ≡ 0 → j ≡ i → ((x : ℕ) → is_era k x ≡ is_era l x) → c ≡ true
    → ((sites : Sites) (v : ℕ) → kind_of sites v kind ≡ source v) → Sourced t k r j c (many + 1)
sourced_more s t l k q r i j many m b c kind era h a zero same eras whole is = record {
  has = λ sites. subst (λ (z : ℕ). HasSources (way_of sites t k r z) (many + 1)) (sym same) (has sites);
  long = made_long s t m (new_node kind [] era (least_height s.nodes 0 []) 0 i) a.makes (subst (λ (v : ℕ). length s.nodes ≤ v) (sym at) (let e = h.long in omega arith)) ∙ ap (λ (v : ℕ). v + 1) at;
  eras = λ x. eras x ∙ h.eras x;
  whole_is = whole;
}
  where
    taken_there : (sites : Sites) → m < many → is_some (node_at s m) ≡ true
    taken_there sites lt = (h.has sites).taken m lt

    at : m ≡ many
    at = elim (by_bound m many) [
      | inl lt ↦ true_false (is_some (node_at s m)) (taken_there some_sites lt) (ap is_some a.makes.free)
      | inr le ↦ let near = a.makes.near in let long = h.long in omega arith
    ]

    low : height_at t m ≡ 0
    low = ap height_in (made_here s t m (new_node kind [] era (least_height s.nodes 0 []) 0 i) a.makes)

    no_owner : {B : Type 0} (w : ℕ) → era.0 ≡ suc w → B
    no_owner w e = let f : 0 ≡ suc w = sym zero ∙ e in absurd (omega arith)

    made : (sites : Sites) → Makes (way_of sites s l q i) (way_of sites t k r i) m era.0 (most_levels - 0) (kind_of sites m kind) []
    made sites = makes sites s t l k q r i m 0 0 kind [] era a (λ v e. cc) (λ w e. no_owner w e) (λ w e. no_owner w e)

    has : (sites : Sites) → HasSources (way_of sites t k r i) (many + 1)
    has sites = record {
      live = λ v lt. elim (split v lt) [ inl old ↦ (mk.still v (hs.taken v old)).live ∙ hs.live v old | inr e ↦ ap (way_of sites t k r i).graph.live e ∙ mk.made.live ];
      taken = λ v lt. elim (split v lt) [ inl old ↦ (mk.still v (hs.taken v old)).taken | inr e ↦ ap (way_of sites t k r i).taken e ∙ mk.made.taken ];
      kind = λ v lt. elim (split v lt) [
        | inl old ↦ (mk.still v (hs.taken v old)).same.kind ∙ hs.kind v old
        | inr e ↦ ap (way_of sites t k r i).graph.kind e ∙ mk.made.kind ∙ is sites m ∙ ap source (sym e)
      ];
      inputs = λ v lt. elim (split v lt) [ inl old ↦ (mk.still v (hs.taken v old)).same.inputs ∙ hs.inputs v old | inr e ↦ ap (way_of sites t k r i).graph.inputs e ∙ mk.made.reads ];
      later = λ v lt. elim (split v lt) [ inl old ↦ (mk.still v (hs.taken v old)).same.later ∙ hs.later v old | inr e ↦ ap (way_of sites t k r i).graph.later e ∙ mk.made.later ];
      cell = λ v lt. elim (split v lt) [ inl old ↦ (mk.still v (hs.taken v old)).same.cell ∙ hs.cell v old | inr e ↦ ap (way_of sites t k r i).graph.cell e ∙ mk.made.cell ];
      era = λ v lt. elim (split v lt) [ inl old ↦ (mk.still v (hs.taken v old)).same.era ∙ hs.era v old | inr e ↦ ap (way_of sites t k r i).graph.era e ∙ mk.made.era ∙ zero ];
      height = λ v lt. elim (split v lt) [ inl old ↦ (mk.still v (hs.taken v old)).height ∙ hs.height v old | inr e ↦ ap (height_at t) e ∙ low ];
      done = λ v lt. elim (split v lt) [ inl old ↦ (mk.still v (hs.taken v old)).same.done ∙ hs.done v old | inr e ↦ ap (way_of sites t k r i).done e ∙ mk.made.done ];
      queued = λ v lt. elim (split v lt) [ inl old ↦ (mk.still v (hs.taken v old)).queued ∙ hs.queued v old | inr e ↦ ap r e ∙ mk.made.queued ∙ ap Some low ];
      member = λ v lt. ap (λ (xs : List ℕ). has_item xs v) in_program ∙ elim (split v lt) [
        | inl old ↦ has_append_left (members l 0) (m ∷ []) v (hs.member v old)
        | inr e ↦ has_append_right (members l 0) (m ∷ []) v (ap (has_item (m ∷ [])) e ∙ here m [])
      ];
      no_other = λ v le. (
          let ne : v ≢ m = λ e. absurd (let f : v ≡ many = e ∙ at in omega arith) in
          let was = hs.no_other v (let b : many ≤ v = omega arith in b) in
          let free = mk.free v was.1 ne in (
            free.live,
            free.taken,
            free.queued ∙ was.2,
            ap (λ (xs : List ℕ). has_item xs v) in_program ∙ in_neither (members l 0) (m ∷ []) v was.3 (cons_absent m [] v (λ e. ne (sym e)) refl),
          ));
      eras = λ x ne. mk.others x (λ e. ne (e ∙ zero)) ∙ hs.eras x ne;
    }
      where
        hs : HasSources (way_of sites s l q i) many
        hs = h.has sites

        mk : Makes (way_of sites s l q i) (way_of sites t k r i) m era.0 (most_levels - 0) (kind_of sites m kind) []
        mk = made sites

        split : (v : ℕ) → v < many + 1 → (v < many) ⊎ (v ≡ m)
        split v lt = elim (by_number v m) [
          | inl e ↦ inr e
          | inr ne ↦ inl (let other : v ≢ many = λ e. ne (e ∙ sym at) in omega arith)
        ]

        in_program : members k 0 ≡ members l 0 ++ m ∷ []
        in_program = subst (λ (x : ℕ). members k x ≡ members l x ++ m ∷ []) zero a.joins.here
