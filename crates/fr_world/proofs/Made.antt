-- What the adding of a node to a store, to eras and to an agenda does to the graph under way.
use Rattle.std.proofs.Common.{◌≡◌, ◌≢◌, ℕ, suc, ◌+◌, ◌-◌, ◌<◌, List, [], ◌∷◌, ◌++◌, length, inl, inr, ◌⊎◌, Option, Some, None, IsSome, Result, Ok, Err, IfOk, OnOk, is_some, Bool, true, false, not, ◌&&◌, cond, nat_eq, refl, sym, ap, ◌∙◌, subst, arith}
use Rattle.std.proofs.lemmas.List.{get_or_past}
use Rattle.fr_value.specs.declared.ids.EraId.{EraId}
use Rattle.fr_value.specs.declared.ids.NodeId.{NodeId}
use Rattle.fr_value.specs.declared.now.Held.{Held}
use Rattle.fr_links.specs.Lists.{has_item}
use Rattle.fr_links.proofs.Has.{by_number}
use Rattle.fr_queue.specs.Queue.{Queued}
use Rattle.fr_store.specs.declared.node.Node.{Node}
use Rattle.fr_store.specs.declared.node.NodeKind.{NodeKind}
use Rattle.fr_store.specs.Nodes.{AreLive, Stored, height_in, least_height, new_node, node_at}
use Rattle.fr_eras.specs.Heights.{height_at}
use Rattle.fr_eras.specs.Lives.{Lives, grave, members}
use Rattle.fr_meaning.specs.Evaluation.{most_levels}
use Rattle.fr_graph.specs.Graph.{source, result}
use Rattle.fr_nodes.specs.Kinds.{Sites, kind_of, parts_of}
use Rattle.fr_nodes.specs.Makes.{IsFree, IsMade, IsStill, Makes}
use Rattle.fr_world.specs.Calls.{Adds}
use Rattle.fr_world.specs.World.{cell_at, done_at, era_at, inputs_at, kind_at, later_at, level_at, next_in, value_at, way_by, way_of}
use Rattle.fr_world.proofs.Heights.{over_floor, over_input, reads_of}
use Rattle.fr_world.proofs.Nodes.{made_here, made_other}
use Rattle.fr_world.proofs.Whole.{both, no_node}
use Rattle.fr_world.proofs.Added.{same_height}

-- the member behind one stays it where another comes last, and with another number for none
pub next_appended : (o u : ℕ) (xs : List ℕ) (m j : ℕ) → (next_in o xs j ≡ o) ⊎ (next_in u (xs ++ m ∷ []) j ≡ next_in o xs j)
next_appended o u [] m j = inl refl
next_appended o u (x ∷ []) m j = inl refl
next_appended o u (x ∷ y ∷ xs) m j = by (nat_eq x j) (next_appended o u (y ∷ xs) m j)
  where
    by : (b : Bool) → (next_in o (y ∷ xs) j ≡ o) ⊎ (next_in u ((y ∷ xs) ++ m ∷ []) j ≡ next_in o (y ∷ xs) j)
        → (cond b y (next_in o (y ∷ xs) j) ≡ o) ⊎ (cond b y (next_in u ((y ∷ xs) ++ m ∷ []) j) ≡ cond b y (next_in o (y ∷ xs) j))
    by true h = inr refl
    by false h = h

pub next_same : (o u : ℕ) (xs : List ℕ) (j : ℕ) → (next_in o xs j ≡ o) ⊎ (next_in u xs j ≡ next_in o xs j)
next_same o u [] j = inl refl
next_same o u (x ∷ []) j = inl refl
next_same o u (x ∷ y ∷ xs) j = by (nat_eq x j) (next_same o u (y ∷ xs) j)
  where
    by : (b : Bool) → (next_in o (y ∷ xs) j ≡ o) ⊎ (next_in u (y ∷ xs) j ≡ next_in o (y ∷ xs) j)
        → (cond b y (next_in o (y ∷ xs) j) ≡ o) ⊎ (cond b y (next_in u (y ∷ xs) j) ≡ cond b y (next_in o (y ∷ xs) j))
    by true h = inr refl
    by false h = h

-- no result stands behind the last number
no_result : {B : Type 0} (sites : Sites) (s : Stored) (v : ℕ) → v ≡ length s.nodes → kind_at sites v (node_at s v) ≡ result → B
no_result sites s v e res =
    let P : ℕ → Type 0 = λ u. kind_at sites u (node_at s u) ≡ result in
    let h = subst P e res in
    let f : source (length s.nodes) ≡ result = sym (ap (kind_at sites (length s.nodes)) (get_or_past s.nodes (length s.nodes) None (omega arith))) ∙ h in
    cc

module _ (sites : Sites) (s t : Stored) (l k : Lives) (q r : Queued) (i m x : ℕ) (n : Node) (a : Adds s t l k q r m x n) where
  differs : (j : ℕ) → IsSome (node_at s j) → j ≢ m
  differs j h e = no_node (node_at s m) a.makes.free (let P : ℕ → Type 0 = λ v. IsSome (node_at s v) in subst P e h)

  same_live : (j : ℕ) → j ≢ m → (way_of sites t k r i).graph.live j ≡ (way_of sites s l q i).graph.live j
  same_live j ne =
      ap (λ (o : Option Node). is_some o && not (has_item (grave k) j)) (made_other s t m n a.makes j ne)
      ∙ ap (λ (xs : List ℕ). is_some (node_at s j) && not (has_item xs j)) a.joins.buried

  same_next : (y j : ℕ) → (next_in (length s.nodes) (members l y) j ≡ length s.nodes) ⊎ (next_in (length t.nodes) (members k y) j ≡ next_in (length s.nodes) (members l y) j)
  same_next y j = elim (by_number y x) [
    | inl e ↦
        let P : ℕ → Type 0 = λ z. (next_in (length s.nodes) (members l z) j ≡ length s.nodes) ⊎ (next_in (length t.nodes) (members k z) j ≡ next_in (length s.nodes) (members l z) j) in
        let Q : List ℕ → Type 0 = λ xs. (next_in (length s.nodes) (members l x) j ≡ length s.nodes) ⊎ (next_in (length t.nodes) xs j ≡ next_in (length s.nodes) (members l x) j) in
        subst P (sym e) (subst Q (sym a.joins.here) (next_appended (length s.nodes) (length t.nodes) (members l x) m j))
    | inr ne ↦
        let Q : List ℕ → Type 0 = λ xs. (next_in (length s.nodes) (members l y) j ≡ length s.nodes) ⊎ (next_in (length t.nodes) xs j ≡ next_in (length s.nodes) (members l y) j) in
        subst Q (sym (a.joins.each y ne)) (next_same (length s.nodes) (length t.nodes) (members l y) j)
  ]

  same_result : (j : ℕ) → j ≢ m → kind_at sites ((way_of sites s l q i).graph.result_of j) (node_at s ((way_of sites s l q i).graph.result_of j)) ≡ result
      → (way_of sites t k r i).graph.result_of j ≡ (way_of sites s l q i).graph.result_of j
  same_result j ne res = elim (same_next (era_at (node_at s j)) j) [
    | inl none ↦ no_result sites s ((way_of sites s l q i).graph.result_of j) none res
    | inr e ↦ ap (λ (o : Option Node). next_in (length t.nodes) (members k (era_at o)) j) (made_other s t m n a.makes j ne) ∙ e
  ]

  -- what is in use is as it was
  pub is_still : (j : ℕ) → (way_of sites s l q i).taken j ≡ true → IsStill (way_of sites s l q i) (way_of sites t k r i) j
  is_still j h =
      let ne = differs j h in
      let e = made_other s t m n a.makes j ne in
      record {
        live = same_live j ne;
        taken = ap is_some e ∙ h;
        same = record {
          kind = ap (kind_at sites j) e;
          inputs = ap inputs_at e;
          later = ap later_at e;
          value = ap value_at e;
          cell = ap cell_at e;
          level = ap level_at e;
          era = ap era_at e;
          done = ap (done_at i) e;
        };
        height = ap height_in e;
        queued = a.queues.other j ne;
        result_of = λ watches res. same_result j ne res;
      }

  -- what is free stays free
  pub is_free : (j : ℕ) → (way_of sites s l q i).taken j ≡ false → j ≢ m → IsFree (way_of sites s l q i) (way_of sites t k r i) j
  is_free j h ne = record {
    live = same_live j ne ∙ ap (λ (b : Bool). b && not (has_item (grave l) j)) h;
    taken = ap is_some (made_other s t m n a.makes j ne) ∙ h;
    queued = a.queues.other j ne;
  }

module _ (sites : Sites) (s t : Stored) (l k : Lives) (q r : Queued) (i m floor nest : ℕ) (kind : NodeKind) (inputs : List Held) (era : EraId)
    (a : Adds s t l k q r m era.0 (new_node kind inputs era (least_height s.nodes floor inputs) nest i)) where
  -- a node that was added is made in the graph under way
  pub is_made : AreLive s inputs → ((w : ℕ) → era.0 ≡ suc w → IsSome (node_at s w)) → ((w : ℕ) → era.0 ≡ suc w → height_at s w < floor)
      → IsMade (way_of sites s l q i) (way_of sites t k r i) m era.0 (most_levels - nest) (kind_of sites m kind) (parts_of inputs)
  is_made live owner above =
      let n = new_node kind inputs era (least_height s.nodes floor inputs) nest i in
      let here = made_here s t m n a.makes in
      let high : height_at t m ≡ least_height s.nodes floor inputs = ap height_in here in
      record {
        fresh = ap is_some a.makes.free;
        absent = ap (λ (o : Option Node). is_some o && not (has_item (grave l) m)) a.makes.free;
        live = ap (λ (o : Option Node). is_some o && not (has_item (grave k) m)) here ∙ ap not (ap (λ (xs : List ℕ). has_item xs m) a.joins.buried ∙ a.alone.no_grave);
        taken = ap is_some here;
        kind = ap (kind_at sites m) here;
        reads = ap inputs_at here;
        later = ap later_at here;
        cell = ap cell_at here;
        level = ap level_at here;
        era = ap era_at here;
        done = ap (done_at i) here;
        queued = a.queues.here ∙ ap Some (sym high);
        above_inputs = λ j h.
            let low = over_input s.nodes inputs floor j h in
            let same = same_height s t m n a.makes j (live j (reads_of inputs j h)) in
            omega arith;
        above_owner = λ w e.
            let low = above w e in
            let same = same_height s t m n a.makes w (owner w e) in
            let over = over_floor s.nodes inputs floor in
            omega arith;
      }

  -- and it alone
  pub makes : AreLive s inputs → ((w : ℕ) → era.0 ≡ suc w → IsSome (node_at s w)) → ((w : ℕ) → era.0 ≡ suc w → height_at s w < floor)
      → Makes (way_of sites s l q i) (way_of sites t k r i) m era.0 (most_levels - nest) (kind_of sites m kind) (parts_of inputs)
  makes live owner above = record {
    made = is_made live owner above;
    still = λ j h. is_still sites s t l k q r i m era.0 (new_node kind inputs era (least_height s.nodes floor inputs) nest i) a j h;
    free = λ j h ne. is_free sites s t l k q r i m era.0 (new_node kind inputs era (least_height s.nodes floor inputs) nest i) a j h ne;
    members = a.joins.here;
    others = a.joins.each;
  }

-- the same of the answer of a call
pub makes_if : {E : Type 0} (s t : Stored) (l k : Lives) (q r : Queued) (i u floor nest : ℕ) (kind : NodeKind) (inputs : List Held) (era : EraId) (a b : Bool) (o : Result NodeId E)
    → IfOk o (λ id. Adds s t l k q r id.0 era.0 (new_node kind inputs era (least_height s.nodes floor inputs) nest i)) → u ≡ i → a ≡ true → OnOk o (b ≡ true)
    → AreLive s inputs → ((w : ℕ) → era.0 ≡ suc w → IsSome (node_at s w)) → ((w : ℕ) → era.0 ≡ suc w → floor ≡ height_at s w + 1)
    → IfOk o (λ id. (sites : Sites) → Makes (way_by a (way_of sites s l q i)) (way_by b (way_of sites t k r u)) id.0 era.0 (most_levels - nest) (kind_of sites id.0 kind) (parts_of inputs))
makes_if s t l k q r i u floor nest kind inputs era a b (Ok id) adds e f g live owner above = λ sites.
    let P : ℕ → Type 0 = λ v. Makes (way_of sites s l q i) (way_of sites t k r v) id.0 era.0 (most_levels - nest) (kind_of sites id.0 kind) (parts_of inputs) in
    both (λ at new. Makes at new id.0 era.0 (most_levels - nest) (kind_of sites id.0 kind) (parts_of inputs)) a b (way_of sites s l q i) (way_of sites t k r u) f g
    (subst P (sym e) (makes sites s t l k q r i id.0 floor nest kind inputs era adds live owner (λ w is. let f = above w is in omega arith)))
makes_if s t l k q r i u floor nest kind inputs era a b (Err x) adds e f g live owner above = adds
