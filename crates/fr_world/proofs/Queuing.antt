-- The queuing of what reads a node.
use Rattle.std.proofs.Common.{◌≡◌, ◌≢◌, ℕ, zero, suc, ◌+◌, ◌<◌, List, [], ◌∷◌, take, inl, inr, ◌⊎◌, Option, Some, None, IsSome, Bool, true, false, not, ◌||◌, nat_eq, slice_get, refl, sym, ap, ◌∙◌, subst, arith}
use Rattle.fr_links.specs.Lists.{has_item}
use Rattle.fr_links.proofs.Has.{by_number, by_truth, eq_is, eq_self, or_case, or_none, true_false}
use Rattle.fr_queue.specs.Queue.{Queued}
use Rattle.fr_store.specs.declared.node.Node.{Node}
use Rattle.fr_store.specs.Nodes.{AreDependents, Edge, StandsAt, Stored, dependents_at, edge_number, has_reader, node_at}
use Rattle.fr_store.proofs.Tables.{some_of}
use Rattle.fr_eras.specs.Heights.{height_at}
use Rattle.fr_eras.specs.Lives.{Lives, grave}
use Rattle.fr_eras.proofs.Readers.{edge_there, edges_left, edges_less, stands_reader}
use Rattle.fr_graph.specs.Known.{Reads}
use Rattle.fr_nodes.specs.Kinds.{Sites}
use Rattle.fr_nodes.specs.Signals.{QueuesReaders}
use Rattle.fr_world.specs.Calls.{QueuesAll, QueuesOne, Queuing}
use Rattle.fr_world.specs.World.{AreQueued, inputs_at, is_live, way_of}
use Rattle.fr_world.proofs.Changes.{queue_kept}
use Rattle.fr_world.proofs.Heights.{of_reads, reads_of}
use Rattle.fr_world.proofs.Whole.{live_there}

or_false : (b : Bool) → (b || false) ≡ b
or_false true = refl
or_false false = refl

or_group : (a b c : Bool) → (a || (b || c)) ≡ ((a || b) || c)
or_group true b c = refl
or_group false b c = refl

taken_more : (es : List Edge) (place : ℕ) (e : Edge) → slice_get es place ≡ Some e → (j : ℕ) → has_reader (take (suc place) es) j ≡ (has_reader (take place es) j || nat_eq e.node j)
taken_more [] place e s j = cc
taken_more (x ∷ es) zero e s j = let same : x ≡ e = cc in or_false (nat_eq x.node j) ∙ ap (λ (v : Edge). nat_eq v.node j) same
taken_more (x ∷ es) (suc place) e s j =
    ap (λ (b : Bool). nat_eq x.node j || b) (taken_more es place e s j) ∙ or_group (nat_eq x.node j) (has_reader (take place es) j) (nat_eq e.node j)

all_taken : (es : List Edge) (place : ℕ) → None ≡ edge_number es place → take place es ≡ es
all_taken [] zero e = refl
all_taken [] (suc place) e = refl
all_taken (x ∷ es) zero e = cc
all_taken (x ∷ es) (suc place) e = ap (λ (rest : List Edge). x ∷ rest) (all_taken es place e)

-- the agenda stays right where readers are queued
pub all_kept : (s : Stored) (l : Lives) (q r : Queued) (es : List Edge) → AreQueued s l q → QueuesAll s l q r es → AreQueued s l r
all_kept s l q r es a all = queue_kept s l q r a (λ j. elim (by_truth (is_live s l j)) [
  | inl lives ↦ elim (by_truth (has_reader es j)) [
    | inl reader ↦ inr (inr (lives, all.readers j lives reader))
    | inr other ↦ inl (all.others j (inr other))
  ]
  | inr dead ↦ inl (all.others j (inl dead))
])

pub one_kept : (s : Stored) (l : Lives) (q r : Queued) (m : ℕ) → AreQueued s l q → is_live s l m ≡ true → QueuesOne s l q r m → AreQueued s l r
one_kept s l q r m a lives one = queue_kept s l q r a (λ j. elim (by_number j m) [
  | inl same ↦ inr (inr (ap (is_live s l) same ∙ lives, ap r same ∙ one.here lives ∙ ap (λ (v : ℕ). Some (height_at s v)) (sym same)))
  | inr ne ↦ inl (one.others j (inl ne))
])

module _ (s : Stored) (l : Lives) (m : ℕ) (exact : AreDependents s m (dependents_at s m)) where
  pub queuing_begins : (q : Queued) (at : Option ℕ) → at ≡ edge_number (dependents_at s m) 0 → Queuing s l q q m at
  queuing_begins q at e = record { place = 0; at_is = e; queues = record { readers = λ j lives never. cc; others = λ j h. refl } }

  module _ (q r : Queued) (at : Option ℕ) (edge : ℕ) (inv : Queuing s l q r m at) (is : at ≡ Some edge) where
    pub found : (e : Edge) × (slice_get (dependents_at s m) inv.place ≡ Some e) × (e.number ≡ edge)
    found = edge_there (dependents_at s m) inv.place edge (sym is ∙ inv.at_is)

    pub stands_at : StandsAt s edge m inv.place found.0
    stands_at = record { here = found.1; same = found.2 }

    pub reader_there : (reader : ℕ) → ((i place : ℕ) (e : Edge) → StandsAt s edge i place e → reader ≡ e.node) → IsSome (node_at s reader)
    reader_there reader named = subst (λ (v : ℕ). IsSome (node_at s v)) (sym (named m inv.place found.0 stands_at)) (exact.live found.0.node (stands_reader (dependents_at s m) inv.place found.0 found.1))

    pub queuing_goes_on : (reader : ℕ) → ((i place : ℕ) (e : Edge) → StandsAt s edge i place e → reader ≡ e.node) → (r' : Queued) → QueuesOne s l r r' reader
        → (at' : Option ℕ) → ((i place : ℕ) (e : Edge) → StandsAt s edge i place e → at' ≡ edge_number (dependents_at s i) (place + 1)) → Queuing s l q r' m at'
    queuing_goes_on reader named r' one at' next = record {
      place = suc inv.place;
      at_is = next m inv.place found.0 stands_at ∙ ap (edge_number (dependents_at s m)) (let up : inv.place + 1 ≡ suc inv.place = omega arith in up);
      queues = record {
        readers = λ j lives h. or_case (has_reader (take inv.place (dependents_at s m)) j) (nat_eq found.0.node j) (sym (taken_more (dependents_at s m) inv.place found.0 found.1 j) ∙ h)
            (λ old. elim (by_number j reader) [
              | inl same ↦ here j lives same
              | inr ne ↦ one.others j (inl ne) ∙ inv.queues.readers j lives old
            ])
            (λ new. here j lives (sym (eq_is found.0.node j new) ∙ sym (named m inv.place found.0 stands_at)));
        others = λ j h. others j h;
      };
    }
      where
        here : (j : ℕ) → is_live s l j ≡ true → j ≡ reader → r' j ≡ Some (height_at s j)
        here j lives same = ap r' same ∙ one.here (ap (is_live s l) (sym same) ∙ lives) ∙ ap (λ (v : ℕ). Some (height_at s v)) (sym same)

        others : (j : ℕ) → (is_live s l j ≡ false) ⊎ (has_reader (take (suc inv.place) (dependents_at s m)) j ≡ false) → r' j ≡ q j
        others j (inl dead) = one.others j (inr dead) ∙ inv.queues.others j (inl dead)
        others j (inr h) =
            let p = or_none (has_reader (take inv.place (dependents_at s m)) j) (nat_eq found.0.node j) (sym (taken_more (dependents_at s m) inv.place found.0 found.1 j) ∙ h) in
            let ne : j ≢ reader = λ same. true_false (nat_eq found.0.node j) (ap (nat_eq found.0.node) (same ∙ named m inv.place found.0 stands_at) ∙ eq_self found.0.node) p.1 in
            one.others j (inl ne) ∙ inv.queues.others j (inr p.0)

    pub queuing_nearer : (at' : Option ℕ) → ((i place : ℕ) (e : Edge) → StandsAt s edge i place e → at' ≡ edge_number (dependents_at s i) (place + 1))
        → edges_left (dependents_at s m) at' < edges_left (dependents_at s m) at
    queuing_nearer at' next =
        subst (λ (o : Option ℕ). edges_left (dependents_at s m) at' < edges_left (dependents_at s m) o) (ap (λ (n : ℕ). Some n) found.2 ∙ sym is)
        (edges_less (dependents_at s m) inv.place found.0 at' found.1 (λ place e h n. next m place e (record { here = h; same = n ∙ found.2 })))

  pub queuing_ends : (q r : Queued) (at : Option ℕ) → Queuing s l q r m at → at ≡ None → QueuesAll s l q r (dependents_at s m)
  queuing_ends q r at inv none = subst (QueuesAll s l q r) (all_taken (dependents_at s m) inv.place (sym none ∙ inv.at_is)) inv.queues

  -- in the graph each live reader is queued
  pub queues_readers : (sites : Sites) (q r : Queued) (i : ℕ) → QueuesAll s l q r (dependents_at s m) → QueuesReaders (way_of sites s l q i) (way_of sites s l r i) m
  queues_readers sites q r i all = record {
    same = record { graph = refl; taken = λ j. refl; heights = λ j. refl; done = λ j. refl };
    readers = λ j lives h. all.readers j lives (reader j lives h);
    others = others;
  }
    where
      reader : (j : ℕ) → is_live s l j ≡ true → Reads m (inputs_at (node_at s j)) → has_reader (dependents_at s m) j ≡ true
      reader j lives h =
          let n = some_of (node_at s j) (live_there (node_at s j) (not (has_item (grave l) j)) lives) in
          exact.readers j n.0 n.1 ∙ reads_of n.0.inputs m (subst (λ (o : Option Node). Reads m (inputs_at o)) n.1 h)

      none_reads : (j : ℕ) → is_live s l j ≡ true → (Reads m (inputs_at (node_at s j)) → ⊥) → has_reader (dependents_at s m) j ≡ false
      none_reads j lives never = elim (by_truth (has_reader (dependents_at s m) j)) [
        | inl h ↦
            (let n = some_of (node_at s j) (live_there (node_at s j) (not (has_item (grave l) j)) lives) in
            absurd (never (subst (λ (o : Option Node). Reads m (inputs_at o)) (sym n.1) (of_reads n.0.inputs m (sym (exact.readers j n.0 n.1) ∙ h)))))
        | inr h ↦ h
      ]

      others : (j : ℕ) → (is_live s l j ≡ false) ⊎ (Reads m (inputs_at (node_at s j)) → ⊥) → r j ≡ q j
      others j (inl dead) = all.others j (inl dead)
      others j (inr never) = elim (by_truth (is_live s l j)) [
        | inl lives ↦ all.others j (inr (none_reads j lives never))
        | inr dead ↦ all.others j (inl dead)
      ]
