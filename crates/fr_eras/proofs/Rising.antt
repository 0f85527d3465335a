-- The steps of a raising, put together.
use Rattle.std.proofs.Common.{◌≡◌, ℕ, ◌+◌, ◌^◌, ◌<◌, ◌≤◌, List, length, ◌⊎◌, inl, inr, IsSome, true, sym, subst, arith}
use Rattle.fr_links.specs.Lists.{has_item}
use Rattle.fr_queue.specs.Queue.{Queued, Room}
use Rattle.fr_store.specs.declared.node.Node.{Node}
use Rattle.fr_store.specs.Nodes.{Stored, is_watch, lifted, node_at, reads}
use Rattle.fr_eras.specs.Raise.{Edges, Lifts, Steps}
use Rattle.fr_eras.specs.Heights.{AreQueuedRight, IsAbove, IsReader, IsResult, OnlyHeights, QueueFollows, height_at}
use Rattle.fr_eras.specs.Rising.{Advances, GoesOn, IsRaising, KeepsAll, Rest, WantsNone}
use Rattle.fr_eras.specs.Work.{Working}
use Rattle.fr_eras.proofs.Only.{follows_itself, follows_then, only_back, only_itself, only_live, only_node, only_then, only_was_live}
use Rattle.fr_eras.proofs.Raises.{no_steps, noted_is, steps_more, steps_rest, steps_then}

pub keeps_itself : (s : Stored) (room : Room) (work : Working) → KeepsAll s s room room work work
keeps_itself s room work = record { only = only_itself s; stays = λ n h e. e; more = omega arith }

pub keeps_then : (a b c : Stored) (p q r : Room) (u v w : Working) → KeepsAll a b p q u v → KeepsAll b c q r v w → KeepsAll a c p r u w
keeps_then a b c p q r u v w k l = record {
  only = only_then a b c k.only l.only;
  stays = λ n h e. l.stays n h (k.stays n h e);
  more = (let x : u.room ≤ v.room = k.more in let y : v.room ≤ w.room = l.more in omega arith);
}

-- a raising where its next step has come to
abbrev pub raising_on : (edge : Edges) (numbers : ℕ) (h0 : ℕ → ℕ) (w0 : List ℕ) (x : ℕ) (left : ℕ → Type 0) (h1 : ℕ → ℕ) (w1 : List ℕ) (rest : ℕ → Type 0)
    → IsRaising edge numbers h0 w0 x left → Steps edge numbers x h0 w0 left h1 w1 rest → IsRaising edge numbers h1 w1 x rest
raising_on edge numbers h0 w0 x left h1 w1 rest r s = record {
  rank = r.rank;
  old = r.old;
  many = r.many;
  top = r.top;
  id = r.id;
  can = r.can;
  raising = s.goes_on r.rank r.old r.many r.top r.id r.can r.raising;
  small = r.small;
}

pub is_low : (edge : Edges) (numbers : ℕ) (h : ℕ → ℕ) (w : List ℕ) (x : ℕ) (left : ℕ → Type 0) → IsRaising edge numbers h w x left → h x < 2 ^ 120
is_low edge numbers h w x left r =
    let a : h x ≤ r.top + r.rank x = r.raising.bounded x in
    let b : r.rank x ≤ r.many = r.can.few x in
    let c : r.top + r.many < 2 ^ 120 = r.small in
    omega arith

pub fits_above : (edge : Edges) (numbers : ℕ) (h : ℕ → ℕ) (w : List ℕ) (x : ℕ) (left : ℕ → Type 0) (y : ℕ) (r : IsRaising edge numbers h w x left) → edge x y
    → h x + 1 ≤ r.top + r.many
fits_above edge numbers h w x left y r e =
    let a : h x ≤ r.top + r.rank x = r.raising.bounded x in
    let b : r.rank x < r.rank y = r.can.rises x y e in
    let c : r.rank y ≤ r.many = r.can.few y in
    omega arith

module _ (members : ℕ → List ℕ) (x : ℕ) where
  pub advance_none : (left : Rest) (s : Stored) (queue : Queued) (w : List ℕ) → AreQueuedRight queue s → Advances members x left left s s queue queue w w
  advance_none left s queue w right = record {
    queue = follows_itself s queue right;
    steps = λ base only. no_steps (IsAbove base members) (length base.nodes) x (height_at s) w (left base);
    noted = λ i h. inl h;
  }

  pub advance_rest : (left rest next : Rest) (old new : Stored) (p q : Queued) (w v : List ℕ)
      → ((base : Stored) → OnlyHeights base old → (b : ℕ) → rest base b → next base b)
      → Advances members x left rest old new p q w v → Advances members x left next old new p q w v
  advance_rest left rest next old new p q w v goes a = record {
    queue = a.queue;
    steps = λ base only.
        steps_rest (IsAbove base members) (length base.nodes) x (height_at old) w (left base) (height_at new) v (rest base) (next base) (goes base only) (a.steps base only);
    noted = a.noted;
  }

  pub advance_more : (left rest next : Rest) (old cur new : Stored) (p q r : Queued) (u v w : List ℕ) (y : ℕ) → OnlyHeights old cur → OnlyHeights cur new
      → IsSome (node_at cur y) → ((base : Stored) → OnlyHeights base old → IsAbove base members x y)
      → ((base : Stored) → OnlyHeights base old → (b : ℕ) → rest base b → (b ≡ y) ⊎ next base b)
      → Advances members x left rest old cur p q u v → Lifts (height_at cur) (height_at new) x y v w → QueueFollows q r new
      → Advances members x left next old new p r u w
  advance_more left rest next old cur new p q r u v w y only_cur only_new there edge head a l follows = record {
    queue = follows_then cur new p q r a.queue follows;
    steps = λ base only.
        steps_more (IsAbove base members) (length base.nodes) x y (height_at old) (height_at cur) (height_at new) u v w (left base) (rest base) (next base)
        (head base only) (edge base only) (a.steps base only) l;
    noted = λ i h. elim l.how [
      | inl s ↦ still i (a.noted i (subst (λ (l : List ℕ). has_item l i ≡ true) s.2 h))
      | inr s ↦ elim (noted_is v y i (subst (λ (l : List ℕ). has_item l i ≡ true) s.2 h)) [
        | inl before ↦ still i (a.noted i before)
        | inr e ↦ inr (only_live cur new i only_new (subst (λ (j : ℕ). IsSome (node_at cur j)) (sym e) there))
      ]
    ];
  }
    where
      still : (i : ℕ) → (has_item u i ≡ true) ⊎ IsSome (node_at cur i) → (has_item u i ≡ true) ⊎ IsSome (node_at new i)
      still i h = elim h [ inl s ↦ inl s | inr t ↦ inr (only_live cur new i only_new t) ]

  pub advance_then : (left rest next : Rest) (old mid new : Stored) (p q r : Queued) (u v w : List ℕ) → OnlyHeights old mid → OnlyHeights mid new
      → Advances members x left rest old mid p q u v → Advances members x rest next mid new q r v w → Advances members x left next old new p r u w
  advance_then left rest next old mid new p q r u v w only_mid only_new a b = record {
    queue = follows_then mid new p q r a.queue b.queue;
    steps = λ base only.
        steps_then (IsAbove base members) (length base.nodes) x (height_at old) (height_at mid) (height_at new) u v w (left base) (rest base) (next base)
        (a.steps base only) (b.steps base (only_then base old mid only only_mid));
    noted = λ i h. elim (b.noted i h) [
      | inl s ↦ elim (a.noted i s) [ inl t ↦ inl t | inr t ↦ inr (only_live mid new i only_new t) ]
      | inr t ↦ inr t
    ];
  }

  pub goes_on_then : (left rest : Rest) (old new : Stored) (p q : Queued) (w v : List ℕ) → GoesOn members old w x left → OnlyHeights old new
      → Advances members x left rest old new p q w v → GoesOn members new v x rest
  goes_on_then left rest old new p q w v g only a = record {
    base = g.base;
    only = only_then g.base old new g.only only;
    raising = raising_on (IsAbove g.base members) (length g.base.nodes) (height_at old) w x (left g.base) (height_at new) v (rest g.base) g.raising (a.steps g.base g.only);
  }

  pub low_here : (left : Rest) (store : Stored) (w : List ℕ) → GoesOn members store w x left → height_at store x < 2 ^ 120
  low_here left store w g = is_low (IsAbove g.base members) (length g.base.nodes) (height_at store) w x (left g.base) g.raising

  -- where there is room at first, there is room behind a part too
  pub wants_then : (left rest : Rest) (old new : Stored) (p q : Queued) (room room' : Room) (work work' : Working) (fine : Type 0) → KeepsAll old new room room' work work'
      → Advances members x left rest old new p q work.nodes work'.nodes → WantsNone members new room' work' x rest fine → WantsNone members old room work x left fine
  wants_then left rest old new p q room room' work work' fine keeps a wants base only r has =
      wants base (only_then base old new only keeps.only)
      (raising_on (IsAbove base members) (length base.nodes) (height_at old) work.nodes x (left base) (height_at new) work'.nodes (rest base) r (a.steps base only))
      (record {
        queue = λ i h there le. keeps.stays i h (has.queue i h there le);
        list = λ i there. let lt : i < work.room = has.list i there in let le : work.room ≤ work'.room = keeps.more in omega arith;
      })

  -- one lifting finds room
  pub wants_one : (left : Rest) (store : Stored) (room : Room) (work : Working) (y : ℕ) (fine : Type 0) → ((base : Stored) → OnlyHeights base store → IsAbove base members x y)
      → IsSome (node_at store y) → (room y (height_at store x + 1) ≡ true → y < work.room → fine) → WantsNone members store room work x left fine
  wants_one left store room work y fine edge there one base only r has =
      one
      (has.queue y (height_at store x + 1) (only_was_live base store y only there)
      (fits_above (IsAbove base members) (length base.nodes) (height_at store) work.nodes x (left base) y r (edge base only)))
      (has.list y (only_was_live base store y only there))

-- reads and kinds are the same in a store with other heights
pub reader_back : (base store : Stored) (x y : ℕ) → OnlyHeights base store → IsReader store x y → IsReader base x y
reader_back base store x y only r =
    let n = only_back base store y r.node only r.here in
    record { node = n.0; here = n.1; does = subst (λ (m : Node). reads x m.inputs ≡ true) n.2 r.does }

pub reader_on : (base store : Stored) (x y : ℕ) → OnlyHeights base store → IsReader base x y → IsReader store x y
reader_on base store x y only r = record { node = lifted r.node (height_at store y); here = only_node base store y r.node only r.here; does = r.does }

pub result_back : (base store : Stored) (members : ℕ → List ℕ) (x y : ℕ) → OnlyHeights base store → IsResult store members x y → IsResult base members x y
result_back base store members x y only r =
    let n = only_back base store x r.node only r.here in
    record {
      node = n.0;
      here = n.1;
      watches = subst (λ (m : Node). is_watch m.kind ≡ true) n.2 r.watches;
      era = r.era;
      place = r.place;
      stands = r.stands;
      next = r.next;
    }

pub result_on : (base store : Stored) (members : ℕ → List ℕ) (x y : ℕ) → OnlyHeights base store → IsResult base members x y → IsResult store members x y
result_on base store members x y only r = record {
  node = lifted r.node (height_at store x);
  here = only_node base store x r.node only r.here;
  watches = r.watches;
  era = r.era;
  place = r.place;
  stands = r.stands;
  next = r.next;
}
