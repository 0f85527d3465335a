-- The readers of a node, one after another.
use Rattle.std.proofs.Common.{◌≡◌, ℕ, ◌+◌, ◌<◌, List, [], drop, ◌⊎◌, inl, inr, Option, Some, None, IsSome, true, slice_get, slice_index_or, sym, ap, ◌∙◌, subst}
use Rattle.fr_links.proofs.Has.{true_false}
use Rattle.fr_queue.specs.Queue.{Queued, Room}
use Rattle.fr_store.specs.declared.node.Node.{Node}
use Rattle.fr_store.specs.Nodes.{AreDependents, Edge, IsEdge, StandsAt, Stored, dependents_at, edge_number, has_reader, lifted, node_at, reads}
use Rattle.fr_eras.specs.Raise.{Lifts}
use Rattle.fr_eras.specs.Heights.{AreQueuedRight, IsAbove, IsKept, OnlyHeights, QueueFollows, height_at}
use Rattle.fr_eras.specs.Rising.{Advances, KeepsAll, Reading, Rest, WantsNone, readers_left}
use Rattle.fr_eras.specs.Work.{Working}
use Rattle.fr_eras.proofs.Only.{only_back, only_live, only_node, some_node}
use Rattle.fr_eras.proofs.Readers.{all_dropped, dropped, edge_there, edges_left, edges_less, first_reader, stands_reader}
use Rattle.fr_eras.proofs.Rising.{advance_more, advance_none, advance_rest, keeps_itself, keeps_then, reader_on, wants_one, wants_then}

-- edges lead on in a store with the same edges
pub next_on : (cur new : Stored) (number : ℕ) (at : Option ℕ) → new.dependents ≡ cur.dependents
    → ((i place : ℕ) (e : Edge) → StandsAt new number i place e → at ≡ edge_number (dependents_at new i) (place + 1))
    → (i place : ℕ) (e : Edge) → StandsAt cur number i place e → at ≡ edge_number (dependents_at cur i) (place + 1)
next_on cur new number at same next i place e s =
    next i place e (record { here = ap (λ (ds : List (List Edge)). slice_get (slice_index_or ds i []) place) same ∙ s.here; same = s.same })
    ∙ ap (λ (ds : List (List Edge)). edge_number (slice_index_or ds i []) (place + 1)) same

module _ (members : ℕ → List ℕ) (x : ℕ) (old : Stored) (exact : AreDependents old x (dependents_at old x)) where
  abbrev all_above : Rest
  all_above base = IsAbove base members x

  -- a reader at first is among the edges
  among : (base : Stored) → OnlyHeights base old → (b : ℕ) → IsAbove base members x b → readers_left members x (dependents_at old x) base b
  among base only b above = elim above [
    | inl reader ↦
        let r = reader_on base old x b only reader in
        inl (exact.readers b r.node r.here ∙ r.does)
    | inr kept ↦ inr kept
  ]

  pub reading_begins : (queue : Queued) (room : Room) (work : Working) (at : Option ℕ) → AreQueuedRight queue old → at ≡ edge_number (dependents_at old x) 0
      → Reading members x old old queue queue room room work work at
  reading_begins queue room work at right is = record {
    place = 0;
    at_is = is;
    keeps = keeps_itself old room work;
    advances =
        advance_rest members x (λ base. IsAbove base members x) (λ base. IsAbove base members x) (readers_left members x (drop 0 (dependents_at old x))) old old queue queue
        work.nodes work.nodes among (advance_none members x (λ base. IsAbove base members x) old queue work.nodes right);
  }

  module _ (cur : Stored) (queue queue' : Queued) (room room' : Room) (work work' : Working) (at : Option ℕ) (number : ℕ)
      (r : Reading members x old cur queue queue' room room' work work' at) (is : at ≡ Some number) where
    pub found : (e : Edge) × (slice_get (dependents_at old x) r.place ≡ Some e) × (e.number ≡ number)
    found = edge_there (dependents_at old x) r.place number (sym is ∙ r.at_is)

    pub reader : ℕ
    reader = found.0.node

    pub stands_at : StandsAt cur number x r.place found.0
    stands_at = record {
      here = ap (λ (ds : List (List Edge)). slice_get (slice_index_or ds x []) r.place) r.keeps.only.dependents ∙ found.1;
      same = found.2;
    }

    pub is_edge : IsEdge cur number
    is_edge = (x, r.place, found.0, stands_at)

    pub next_edge : (at' : Option ℕ) → ((i place : ℕ) (e : Edge) → StandsAt cur number i place e → at' ≡ edge_number (dependents_at cur i) (place + 1))
        → at' ≡ edge_number (dependents_at old x) (r.place + 1)
    next_edge at' next =
        next x r.place found.0 stands_at ∙ ap (λ (ds : List (List Edge)). edge_number (slice_index_or ds x []) (r.place + 1)) r.keeps.only.dependents

    among_readers : has_reader (dependents_at old x) found.0.node ≡ true
    among_readers = stands_reader (dependents_at old x) r.place found.0 found.1

    there_before : IsSome (node_at old found.0.node)
    there_before = exact.live found.0.node among_readers

    module _ (upper : ℕ) (named : upper ≡ found.0.node) where
      pub upper_there : IsSome (node_at cur upper)
      upper_there = subst (λ (j : ℕ). IsSome (node_at cur j)) (sym named) (only_live old cur found.0.node r.keeps.only there_before)

      pub upper_above : (base : Stored) → OnlyHeights base old → IsAbove base members x upper
      upper_above base only =
          let n = some_node (node_at old found.0.node) there_before in
          let m = only_back base old found.0.node n.0 only n.1 in
          let does : reads x n.0.inputs ≡ true = sym (exact.readers found.0.node n.0 n.1) ∙ among_readers in
          subst (λ (j : ℕ). IsAbove base members x j) (sym named)
          (inl (record { node = m.0; here = m.1; does = subst (λ (k : Node). reads x k.inputs ≡ true) m.2 does }))

      head : (base : Stored) (b : ℕ) → readers_left members x (drop r.place (dependents_at old x)) base b
          → (b ≡ upper) ⊎ readers_left members x (drop (r.place + 1) (dependents_at old x)) base b
      head base b left = elim left [
        | inl among_left ↦ elim
            (first_reader found.0 (drop (r.place + 1) (dependents_at old x)) b
            (subst (λ (es : List Edge). has_reader es b ≡ true) (dropped (dependents_at old x) r.place found.0 found.1) among_left)) [
              | inl it ↦ inl (it ∙ sym named)
              | inr more ↦ inr (inl more)
            ]
        | inr kept ↦ inr (inr kept)
      ]

      pub reading_goes_on : (new : Stored) (queue'' : Queued) (room'' : Room) (work'' : Working) (at' : Option ℕ)
          → at' ≡ edge_number (dependents_at old x) (r.place + 1) → KeepsAll cur new room' room'' work' work''
          → Lifts (height_at cur) (height_at new) x upper work'.nodes work''.nodes → QueueFollows queue' queue'' new
          → Reading members x old new queue queue'' room room'' work work'' at'
      reading_goes_on new queue'' room'' work'' at' next keeps lifts follows = record {
        place = r.place + 1;
        at_is = next;
        keeps = keeps_then old cur new room room' room'' work work' work'' r.keeps keeps;
        advances =
            advance_more members x (λ base. IsAbove base members x) (readers_left members x (drop r.place (dependents_at old x)))
            (readers_left members x (drop (r.place + 1) (dependents_at old x))) old cur new queue queue' queue'' work.nodes work'.nodes work''.nodes upper
            r.keeps.only keeps.only upper_there upper_above (λ base only b. head base b) r.advances lifts follows;
      }

      pub reading_wants : (fine : Type 0) → (room' upper (height_at cur x + 1) ≡ true → upper < work'.room → fine) → WantsNone members old room work x (λ base. IsAbove base members x) fine
      reading_wants fine one =
          wants_then members x (λ base. IsAbove base members x) (readers_left members x (drop r.place (dependents_at old x))) old cur queue queue' room room' work work'
          fine r.keeps r.advances
          (wants_one members x (readers_left members x (drop r.place (dependents_at old x))) cur room' work' upper fine (λ base only. above_now base only) upper_there one)
        where
          above_now : (base : Stored) → OnlyHeights base cur → IsAbove base members x upper
          above_now base only =
              let n = some_node (node_at old found.0.node) there_before in
              let m = only_back base cur found.0.node (lifted n.0 (height_at cur found.0.node)) only (only_node old cur found.0.node n.0 r.keeps.only n.1) in
              let does : reads x (lifted n.0 (height_at cur found.0.node)).inputs ≡ true = sym (exact.readers found.0.node n.0 n.1) ∙ among_readers in
              subst (λ (j : ℕ). IsAbove base members x j) (sym named)
              (inl (record { node = m.0; here = m.1; does = subst (λ (k : Node). reads x k.inputs ≡ true) m.2 does }))

    pub reading_nearer : (at' : Option ℕ) → ((i place : ℕ) (e : Edge) → StandsAt cur number i place e → at' ≡ edge_number (dependents_at cur i) (place + 1))
        → edges_left (dependents_at old x) at' < edges_left (dependents_at old x) at
    reading_nearer at' next =
        subst (λ (o : Option ℕ). edges_left (dependents_at old x) at' < edges_left (dependents_at old x) o) (ap (λ (n : ℕ). Some n) found.2 ∙ sym is)
        (edges_less (dependents_at old x) r.place found.0 at' found.1
        (λ place e s n. (
        let same : dependents_at cur x ≡ dependents_at old x = ap (λ (ds : List (List Edge)). slice_index_or ds x []) r.keeps.only.dependents in
        next x place e (record { here = ap (λ (es : List Edge). slice_get es place) same ∙ s; same = n ∙ found.2 }) ∙ ap (λ (es : List Edge). edge_number es (place + 1)) same
        )))

  pub reading_ends : (cur : Stored) (queue queue' : Queued) (room room' : Room) (work work' : Working) (at : Option ℕ)
      → Reading members x old cur queue queue' room room' work work' at → at ≡ None
      → Advances members x (λ base. IsAbove base members x) (λ base. IsKept base members x) old cur queue queue' work.nodes work'.nodes
  reading_ends cur queue queue' room room' work work' at r is =
      advance_rest members x (λ base. IsAbove base members x) (readers_left members x (drop r.place (dependents_at old x))) (λ base. IsKept base members x) old cur queue queue'
      work.nodes work'.nodes (λ base only b left. rest base b left) r.advances
    where
      rest : (base : Stored) (b : ℕ) → readers_left members x (drop r.place (dependents_at old x)) base b → IsKept base members x b
      rest base b left = elim left [
        | inl among_left ↦ true_false (has_reader (drop r.place (dependents_at old x)) b) among_left
            (ap (λ (es : List Edge). has_reader es b) (all_dropped (dependents_at old x) r.place (sym is ∙ r.at_is)))
        | inr kept ↦ kept
      ]
