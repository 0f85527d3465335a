-- A whole raising, one node of the work after another.
use Rattle.std.proofs.Common.{◌≡◌, ℕ, ◌+◌, ◌^◌, ◌<◌, ◌≤◌, List, [], ◌∷◌, length, inl, inr, IsSome, true, sym, ap, ◌∙◌, subst, arith}
use Rattle.std.specs.Option.{is_some}
use Rattle.std.specs.List.{count_by}
use Rattle.fr_links.specs.Lists.{has_item}
use Rattle.fr_links.proofs.Has.{there}
use Rattle.fr_queue.specs.Queue.{Queued, Room}
use Rattle.fr_store.specs.Nodes.{Stored, node_at}
use Rattle.fr_eras.specs.Raise.{AreRaised, CanRaise, Raising, rise_left}
use Rattle.fr_eras.specs.Heights.{AreLevelledBut, AreMild, AreQueuedRight, HasRoomFor, IsAbove, RisesAlong, height_at, top_height}
use Rattle.fr_eras.specs.Rising.{Advances, GoesOn, IsRaising, KeepsAll, Risen, WantsNone, nothing}
use Rattle.fr_eras.specs.Work.{Working}
use Rattle.fr_eras.proofs.Moves.{alone_is}
use Rattle.fr_eras.proofs.Only.{follows_itself, follows_then, is_node, only_itself, only_then, only_was_live}
use Rattle.fr_eras.proofs.Places.{has_place}
use Rattle.fr_eras.proofs.Raises.{raising_begins, raising_ends, raising_takes}
use Rattle.fr_eras.proofs.Ranks.{can_raise, counted, top_mild}

pub few_nodes : (s : Stored) (n : ℕ) → n ≡ count_by is_some s.nodes → n ≤ s.limit → s.limit ≤ 4194304 → count_by is_some s.nodes ≤ 4194304
few_nodes s n e a b = omega arith

pub risen_begins : (members : ℕ → List ℕ) (id : ℕ) (old : Stored) (queue : Queued) (room : Room) (work work' : Working) → AreQueuedRight queue old
    → IsSome (node_at old id) → work'.nodes ≡ id ∷ [] → work.room ≤ work'.room → Risen members id old old queue queue room room work work'
risen_begins members id old queue room work work' right here is more = record {
  keeps = record { only = only_itself old; stays = λ n h e. e; more = more };
  queue = follows_itself old queue right;
  live = λ i h.
      subst (λ (j : ℕ). IsSome (node_at old j)) (sym (alone_is id i (subst (λ (xs : List ℕ). has_item xs i ≡ true) is h))) here;
  raising = λ rank many top can. (
    id,
    subst (λ (w : List ℕ). Raising (IsAbove old members) rank (height_at old) (height_at old) top id w id (nothing old)) (sym is)
        (raising_begins (IsAbove old members) rank (height_at old) (length old.nodes) many top id can),
  );
}

module _ (members : ℕ → List ℕ) (id : ℕ) (old : Stored)
    (live : (era member : ℕ) → has_item (members era) member ≡ true → IsSome (node_at old member)) (mild : AreMild old)
    (few : count_by is_some old.nodes ≤ 4194304) (levelled : AreLevelledBut (IsAbove old members) (height_at old) id)
    (ordered : (rank : ℕ → ℕ) × RisesAlong (IsAbove old members) rank) where
  edge_there : (a b : ℕ) → IsAbove old members a b → IsSome (node_at old b)
  edge_there a b e = elim e [
    | inl r ↦ is_node (node_at old b) r.node r.here
    | inr k ↦ elim k [
      | inl h ↦ live (a + 1) b h
      | inr r ↦ live r.era b (has_place (members r.era) (r.place + 1) b r.next)
    ]
  ]

  can : CanRaise (IsAbove old members) (counted old.nodes ordered.0) (height_at old) (length old.nodes) (count_by is_some old.nodes) (top_height old.nodes) id
  can = can_raise old (IsAbove old members) id ordered.0 edge_there ordered.1 levelled

  small : top_height old.nodes + count_by is_some old.nodes < 2 ^ 120
  small = let a : top_height old.nodes ≤ 2 ^ 100 = top_mild old.nodes (2 ^ 100) mild in omega arith

  module _ (cur : Stored) (queue queue' : Queued) (room room' : Room) (work work' : Working) (r : Risen members id old cur queue queue' room room' work work') where
    pub risen_ends : work'.nodes ≡ [] → AreRaised (IsAbove old members) (height_at old) (height_at cur) (top_height old.nodes + count_by is_some old.nodes) id
    risen_ends is =
        let s = r.raising (counted old.nodes ordered.0) (count_by is_some old.nodes) (top_height old.nodes) can in
        raising_ends (IsAbove old members) (counted old.nodes ordered.0) (height_at old) (height_at cur) (length old.nodes) (count_by is_some old.nodes)
        (top_height old.nodes) id s.0 can
        (subst (λ (w : List ℕ). Raising (IsAbove old members) (counted old.nodes ordered.0) (height_at old) (height_at cur) (top_height old.nodes) id w s.0 (nothing old)) is s.1)

    module _ (item : ℕ) (rest : Working) (is : work'.nodes ≡ item ∷ rest.nodes) (same : rest.room ≡ work'.room) where
      taken : (rank : ℕ → ℕ) (many top : ℕ) → CanRaise (IsAbove old members) rank (height_at old) (length old.nodes) many top id
          → Raising (IsAbove old members) rank (height_at old) (height_at cur) top id rest.nodes item (IsAbove old members item)
      taken rank many top c =
          let s = r.raising rank many top c in
          raising_takes (IsAbove old members) rank (height_at old) (height_at cur) top id s.0 item rest.nodes
          (subst (λ (w : List ℕ). Raising (IsAbove old members) rank (height_at old) (height_at cur) top id w s.0 (nothing old)) is s.1)

      abbrev raising_here : IsRaising (IsAbove old members) (length old.nodes) (height_at cur) rest.nodes item (IsAbove old members item)
      raising_here = record {
        rank = counted old.nodes ordered.0;
        old = height_at old;
        many = count_by is_some old.nodes;
        top = top_height old.nodes;
        id = id;
        can = can;
        raising = taken (counted old.nodes ordered.0) (count_by is_some old.nodes) (top_height old.nodes) can;
        small = small;
      }

      pub risen_takes : GoesOn members cur rest.nodes item (λ base. IsAbove base members item)
      risen_takes = record { base = old; only = r.keeps.only; raising = raising_here }

      -- where there is room for the whole raising, there is room for what is above one node
      pub risen_wants : (fine : Type 0) → WantsNone members cur room' rest item (λ base. IsAbove base members item) fine
          → HasRoomFor room work.room old (top_height old.nodes + count_by is_some old.nodes) → fine
      risen_wants fine wants has =
          wants old r.keeps.only raising_here
          (record {
            queue = λ i h there_is le. r.keeps.stays i h (has.queue i h there_is le);
            list = λ i there_is.
                let lt : i < work.room = has.list i there_is in
                let le : work.room ≤ work'.room = r.keeps.more in
                omega arith;
          })

      module _ (new : Stored) (queue'' : Queued) (room'' : Room) (rest' : Working) (keeps : KeepsAll cur new room' room'' rest rest')
          (a : Advances members item (λ base. IsAbove base members item) nothing cur new queue' queue'' rest.nodes rest'.nodes) where
        pub risen_less : rise_left (length old.nodes) (top_height old.nodes + count_by is_some old.nodes) (height_at new) + length rest'.nodes
            < rise_left (length old.nodes) (top_height old.nodes + count_by is_some old.nodes) (height_at cur) + length work'.nodes
        risen_less =
            let le : rise_left (length old.nodes) (top_height old.nodes + count_by is_some old.nodes) (height_at new) + length rest'.nodes
            ≤ rise_left (length old.nodes) (top_height old.nodes + count_by is_some old.nodes) (height_at cur) + length rest.nodes =
            (a.steps old r.keeps.only).less (counted old.nodes ordered.0) (height_at old) (count_by is_some old.nodes) (top_height old.nodes) id can
            (taken (counted old.nodes ordered.0) (count_by is_some old.nodes) (top_height old.nodes) can) in
            let e : length work'.nodes ≡ length rest.nodes + 1 = ap length is ∙ one_more rest.nodes item in
            omega arith
          where
            one_more : (xs : List ℕ) (x : ℕ) → length (x ∷ xs) ≡ length xs + 1
            one_more xs x = omega arith

        pub risen_goes_on : Risen members id old new queue queue'' room room'' work rest'
        risen_goes_on = record {
          keeps = record {
            only = only_then old cur new r.keeps.only keeps.only;
            stays = λ n h e. keeps.stays n h (r.keeps.stays n h e);
            more = (let p : work.room ≤ work'.room = r.keeps.more in let q : rest.room ≤ rest'.room = keeps.more in omega arith);
          };
          queue = follows_then cur new queue queue' queue'' r.queue a.queue;
          live = λ i h. elim (a.noted i h) [
            | inl before ↦ r.live i (subst (λ (w : List ℕ). has_item w i ≡ true) (sym is) (there item i rest.nodes before))
            | inr now ↦ only_was_live old new i (only_then old cur new r.keeps.only keeps.only) now
          ];
          raising = λ rank many top c. (item, (a.steps old r.keeps.only).goes_on rank (height_at old) many top id c (taken rank many top c));
        }
