-- The members of an era, one after another.
use Rattle.std.proofs.Common.{◌≡◌, ℕ, suc, ◌+◌, ◌<◌, List, [], ◌∷◌, length, ◌⊎◌, inl, inr, Option, Some, None, IsSome, true, slice_get, sym, ap, ◌∙◌, subst, arith}
use Rattle.fr_links.specs.Lists.{has_item}
use Rattle.fr_links.specs.Rings.{AllDifferent}
use Rattle.fr_links.proofs.Has.{has_append_cases, true_false}
use Rattle.fr_queue.specs.Queue.{Queued, Room}
use Rattle.fr_store.specs.Nodes.{Stored, node_at}
use Rattle.fr_eras.specs.Order.{from_here}
use Rattle.fr_eras.specs.Raise.{Lifts}
use Rattle.fr_eras.specs.Heights.{AreQueuedRight, IsKept, IsResult, QueueFollows, height_at}
use Rattle.fr_eras.specs.Rising.{Advances, Joining, KeepsAll, Rest, WantsNone}
use Rattle.fr_eras.specs.Work.{Working}
use Rattle.fr_eras.proofs.Moves.{alone_is}
use Rattle.fr_eras.proofs.Only.{only_live}
use Rattle.fr_eras.proofs.Places.{first_stands, from_first, goes_over, next_stands}
use Rattle.fr_eras.proofs.Rising.{advance_more, advance_none, advance_rest, keeps_itself, keeps_then, wants_one, wants_then}

module _ (members : ℕ → List ℕ) (x : ℕ) (old : Stored) where
  abbrev kept : Rest
  kept base = IsKept base members x

  abbrev rest_at : Option ℕ → Rest
  rest_at at base upper = (has_item (from_here (members (x + 1)) at) upper ≡ true) ⊎ IsResult base members x upper

  pub joining_begins : (queue : Queued) (room : Room) (work : Working) (at : Option ℕ) → AreQueuedRight queue old → at ≡ slice_get (members (x + 1)) 0
      → Joining members x old old queue queue room room work work at
  joining_begins queue room work at right is = record {
    stands = λ item e. first_stands (members (x + 1)) at is item e;
    keeps = keeps_itself old room work;
    advances =
        advance_rest members x (λ base. IsKept base members x) (λ base. IsKept base members x) (rest_at at) old old queue queue work.nodes work.nodes
        (λ base only b left. elim left [
          | inl has ↦ inl (subst (λ (xs : List ℕ). has_item xs b ≡ true) (sym (ap (from_here (members (x + 1))) is ∙ from_first (members (x + 1)))) has)
          | inr result_ ↦ inr result_
        ])
        (advance_none members x (λ base. IsKept base members x) old queue work.nodes right);
  }

  module _ (cur : Stored) (queue queue' : Queued) (room room' : Room) (work work' : Working) (at : Option ℕ) (item : ℕ)
      (j : Joining members x old cur queue queue' room room' work work' at) (is : at ≡ Some item)
      (live : (member : ℕ) → has_item (members (x + 1)) member ≡ true → IsSome (node_at old member)) where
    pub item_stands : has_item (members (x + 1)) item ≡ true
    item_stands = j.stands item is

    pub item_there : IsSome (node_at cur item)
    item_there = only_live old cur item j.keeps.only (live item item_stands)

    pub joining_wants : (fine : Type 0) → (room' item (height_at cur x + 1) ≡ true → item < work'.room → fine) → WantsNone members old room work x (λ base. IsKept base members x) fine
    joining_wants fine one =
        wants_then members x (λ base. IsKept base members x) (rest_at at) old cur queue queue' room room' work work' fine j.keeps j.advances
        (wants_one members x (rest_at at) cur room' work' item fine (λ base only. inr (inl item_stands)) item_there one)

    module _ (different : AllDifferent (members (x + 1))) (at' : Option ℕ)
        (next : (place : ℕ) → slice_get (members (x + 1)) place ≡ Some item → at' ≡ slice_get (members (x + 1)) (place + 1)) where
      over : from_here (members (x + 1)) at ≡ item ∷ from_here (members (x + 1)) at'
      over = ap (from_here (members (x + 1))) is ∙ goes_over (members (x + 1)) item at' different item_stands next

      pub joining_nearer : length (from_here (members (x + 1)) at') < length (from_here (members (x + 1)) at)
      joining_nearer = let e : length (from_here (members (x + 1)) at) ≡ suc (length (from_here (members (x + 1)) at')) = ap length over in omega arith

      pub joining_goes_on : (new : Stored) (queue'' : Queued) (room'' : Room) (work'' : Working) → KeepsAll cur new room' room'' work' work''
          → Lifts (height_at cur) (height_at new) x item work'.nodes work''.nodes → QueueFollows queue' queue'' new
          → Joining members x old new queue queue'' room room'' work work'' at'
      joining_goes_on new queue'' room'' work'' keeps lifts follows = record {
        stands = λ other e. next_stands (members (x + 1)) item at' item_stands next other e;
        keeps = keeps_then old cur new room room' room'' work work' work'' j.keeps keeps;
        advances =
            advance_more members x (λ base. IsKept base members x) (rest_at at) (rest_at at') old cur new queue queue' queue'' work.nodes work'.nodes work''.nodes item
            j.keeps.only keeps.only item_there (λ base only. inr (inl item_stands))
            (λ base only b left. elim left [
              | inl has ↦ elim (has_append_cases (item ∷ []) (from_here (members (x + 1)) at') b (subst (λ (xs : List ℕ). has_item xs b ≡ true) over has)) [
                | inl it ↦ inl (alone_is item b it)
                | inr later ↦ inr (inl later)
              ]
              | inr result_ ↦ inr (inr result_)
            ])
            j.advances lifts follows;
      }

  pub joining_ends : (cur : Stored) (queue queue' : Queued) (room room' : Room) (work work' : Working) (at : Option ℕ)
      → Joining members x old cur queue queue' room room' work work' at → at ≡ None
      → Advances members x (λ base. IsKept base members x) (λ base. IsResult base members x) old cur queue queue' work.nodes work'.nodes
  joining_ends cur queue queue' room room' work work' at j is =
      advance_rest members x (λ base. IsKept base members x) (rest_at at) (λ base. IsResult base members x) old cur queue queue' work.nodes work'.nodes
      (λ base only b left. elim left [
        | inl has ↦ true_false (has_item (from_here (members (x + 1)) at) b) has (ap (λ (o : Option ℕ). has_item (from_here (members (x + 1)) o) b) is)
        | inr result_ ↦ result_
      ])
      j.advances
