-- The result of a watch, by the lists.
use Rattle.std.proofs.Common.{◌≡◌, ◌≢◌, ℕ, ◌+◌, ◌-◌, ◌^◌, ◌<◌, List, ◌∷◌, ◌++◌, inl, inr, length, Option, Some, None, IsSome, true, false, slice_get, refl, sym, ap, ◌∙◌, subst, arith}
use Rattle.fr_links.specs.Lists.{has_item, list_at, list_of}
use Rattle.fr_links.proofs.Has.{true_false}
use Rattle.fr_links.proofs.Others.{split_at}
use Rattle.fr_queue.specs.Queue.{Queued, Room}
use Rattle.fr_store.specs.declared.node.Node.{Node}
use Rattle.fr_store.specs.Nodes.{Stored, is_watch, node_at}
use Rattle.fr_eras.specs.Lives.{eras_in}
use Rattle.fr_eras.specs.Kept.{AreApart}
use Rattle.fr_eras.specs.Raise.{Lifts}
use Rattle.fr_eras.specs.Heights.{AreQueuedRight, IsAbove, IsResult, OnlyHeights, QueueFollows, height_at}
use Rattle.fr_eras.specs.Rising.{Advances, WantsNone, nothing}
use Rattle.fr_eras.specs.Work.{Working}
use Rattle.fr_eras.proofs.Lookups.{from_this_list}
use Rattle.fr_eras.proofs.Only.{only_itself}
use Rattle.fr_eras.proofs.Places.{at_seam, has_place, next_stands}
use Rattle.fr_eras.proofs.Rising.{advance_more, advance_none, advance_rest, result_back, result_on, wants_one}

-- what links answer for the item behind another
abbrev pub NextIs : List (List ℕ) → ℕ → Option ℕ → Type 0
NextIs lists item at = (list place : ℕ) → slice_get (list_at lists list) place ≡ Some item → at ≡ slice_get (list_at lists list) (place + 1)

module _ (lists : List (List ℕ)) (store : Stored) (node : ℕ) where
  pub no_watch : (n : Node) → node_at store node ≡ Some n → is_watch n.kind ≡ false → (other : ℕ) → IsResult store (eras_in lists) node other → ⊥
  no_watch n is off other r =
      let same : r.node ≡ n = one r.node n (sym r.here ∙ is) in
      true_false (is_watch n.kind) (subst (λ (m : Node). is_watch m.kind ≡ true) same r.watches) off
    where
      one : (m n : Node) → Some m ≡ Some n → m ≡ n
      one m n e = cc

  pub stands_in : (other : ℕ) → (r : IsResult store (eras_in lists) node other) → has_item (list_at lists (r.era + 1)) node ≡ true
  stands_in other r = has_place (list_at lists (r.era + 1)) r.place node r.stands

  pub in_no_list : (o : Option ℕ) → o ≡ None → ((l : ℕ) → has_item (list_at lists l) node ≡ true → o ≡ Some l) → (other : ℕ)
      → IsResult store (eras_in lists) node other → ⊥
  in_no_list o none only other r = clash (o) none (r.era + 1) (only (r.era + 1) (stands_in other r))
    where
      clash : (o : Option ℕ) → o ≡ None → (l : ℕ) → o ≡ Some l → ⊥
      clash o e l f = cc

  pub in_the_grave : (list : ℕ) → list ≡ 0 → ((l : ℕ) → has_item (list_at lists l) node ≡ true → Some list ≡ Some l) → (other : ℕ)
      → IsResult store (eras_in lists) node other → ⊥
  in_the_grave list zero_ only other r =
      let e : list ≡ r.era + 1 = number list (r.era + 1) (only (r.era + 1) (stands_in other r)) in
      absurd (omega arith)
    where
      number : (l m : ℕ) → Some l ≡ Some m → l ≡ m
      number l m e = cc

  pub is_next : (at : Option ℕ) → NextIs lists node at → (other : ℕ) → IsResult store (eras_in lists) node other → at ≡ Some other
  is_next at next other r = next (r.era + 1) r.place r.stands ∙ r.next

  pub is_last : (at : Option ℕ) → at ≡ None → NextIs lists node at → (other : ℕ) → IsResult store (eras_in lists) node other → ⊥
  is_last at none next other r = clash at none other (is_next at next other r)
    where
      clash : (o : Option ℕ) → o ≡ None → (l : ℕ) → o ≡ Some l → ⊥
      clash o e l f = cc

  pub is_only : (upper : ℕ) → NextIs lists node (Some upper) → (other : ℕ) → IsResult store (eras_in lists) node other → other ≡ upper
  is_only upper next other r = number other upper (sym (is_next (Some upper) next other r))
    where
      number : (l m : ℕ) → Some l ≡ Some m → l ≡ m
      number l m e = cc

  module _ (list upper : ℕ) (at : list_of lists node ≡ Some list) (next : NextIs lists node (Some upper)) where
    pub upper_small : AreApart lists → upper < 2 ^ 32
    upper_small apart =
        apart.small list upper (next_stands (list_at lists list) node (Some upper) (from_this_list lists node list at) (next list) upper refl)

    abbrev s : (ps : List ℕ) × (qs : List ℕ) × (list_at lists list ≡ ps ++ node ∷ qs)
    s = split_at (list_at lists list) node (from_this_list lists node list at)

    pub result_is : (n : Node) → node_at store node ≡ Some n → is_watch n.kind ≡ true → list ≢ 0 → IsResult store (eras_in lists) node upper
    result_is n is on no_grave = record {
      node = n;
      here = is;
      watches = on;
      era = list - 1;
      place = length s.0;
      stands = subst (λ (l : ℕ). slice_get (list_at lists l) (length s.0) ≡ Some node) back stands;
      next = subst (λ (l : ℕ). slice_get (list_at lists l) (length s.0 + 1) ≡ Some upper) back (sym (next list (length s.0) stands));
    }
      where
        stands : slice_get (list_at lists list) (length s.0) ≡ Some node
        stands = ap (λ (xs : List ℕ). slice_get xs (length s.0)) s.2 ∙ at_seam s.0 node s.1

        back : list ≡ list - 1 + 1
        back = omega arith

pub result_there : (lists : List (List ℕ)) (store : Stored) (node upper : ℕ)
    → ((era member : ℕ) → has_item (eras_in lists era) member ≡ true → IsSome (node_at store member))
    → IsResult store (eras_in lists) node upper → IsSome (node_at store upper)
result_there lists store node upper live r = live r.era upper (has_place (eras_in lists r.era) (r.place + 1) upper r.next)

-- the result is the last that is raised
module _ (members : ℕ → List ℕ) (x : ℕ) (old : Stored) where
  pub result_none : (queue : Queued) (work : List ℕ) → AreQueuedRight queue old → ((other : ℕ) → IsResult old members x other → ⊥)
      → Advances members x (λ base. IsResult base members x) nothing old old queue queue work work
  result_none queue work right none =
      advance_rest members x (λ base. IsResult base members x) (λ base. IsResult base members x) nothing old old queue queue work work
      (λ base only b r. none b (result_on base old members x b only r))
      (advance_none members x (λ base. IsResult base members x) old queue work right)

  module _ (upper : ℕ) (is : IsResult old members x upper) (there : IsSome (node_at old upper)) where
    edge : (base : Stored) → OnlyHeights base old → IsAbove base members x upper
    edge base only = inr (inr (result_back base old members x upper only is))

    pub result_raised : (new : Stored) (queue queue' : Queued) (work work' : List ℕ) → AreQueuedRight queue old → OnlyHeights old new
        → ((other : ℕ) → IsResult old members x other → other ≡ upper) → Lifts (height_at old) (height_at new) x upper work work' → QueueFollows queue queue' new
        → Advances members x (λ base. IsResult base members x) nothing old new queue queue' work work'
    result_raised new queue queue' work work' right only one lifts follows =
        advance_more members x (λ base. IsResult base members x) (λ base. IsResult base members x) nothing old old new queue queue queue' work work work' upper
        (only_itself old) only there edge (λ base heights b r. inl (one b (result_on base old members x b heights r)))
        (advance_none members x (λ base. IsResult base members x) old queue work right) lifts follows

    pub result_wants : (room : Room) (work : Working) (fine : Type 0) → (room upper (height_at old x + 1) ≡ true → upper < work.room → fine)
        → WantsNone members old room work x (λ base. IsResult base members x) fine
    result_wants room work fine one = wants_one members x (λ base. IsResult base members x) old room work upper fine edge there one
