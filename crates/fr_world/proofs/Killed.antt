-- A world in which an era has ended with all eras inside.
use Rattle.std.proofs.Common.{◌≡◌, ◌≢◌, ℕ, suc, ◌+◌, ◌-◌, List, [], inl, inr, ◌⊎◌, Some, IsSome, is_some, Bool, true, false, not, ◌&&◌, refl, sym, ap, ◌∙◌, subst, arith}
use Rattle.std.proofs.lemmas.List.{append-nil}
use Rattle.fr_links.specs.Lists.{has_item}
use Rattle.fr_links.proofs.Has.{by_number, by_truth, has_append_cases, has_append_left, has_append_right, true_false}
use Rattle.fr_queue.specs.Queue.{Queued}
use Rattle.fr_store.specs.Nodes.{Stored, node_at}
use Rattle.fr_eras.specs.Lives.{EndsWith, Here, Deeper, Killed, LeavesQueue, Lives, Under, grave, is_era, members}
use Rattle.fr_eras.specs.Heights.{height_at}
use Rattle.fr_eras.proofs.Theres.{there_killed}
use Rattle.fr_way.specs.Frame.{Inside, here, deeper}
use Rattle.fr_way.specs.Turns.{Kills}
use Rattle.fr_nodes.specs.Kinds.{Sites}
use Rattle.fr_world.specs.Calls.{Ends}
use Rattle.fr_world.specs.World.{AreJoined, AreQueued, are_different, era_at, graph_of, is_live, next_in, way_of}
use Rattle.fr_world.proofs.Whole.{in_neither, live_apart, live_by, live_there, member_live, no_number}
use Rattle.std.proofs.Common.{length}

one_more : (w : ℕ) → suc w ≡ w + 1
one_more w = omega arith

module _ (s : Stored) (l : Lives) (j : AreJoined s l) where
  -- what stands in an era lives inside, and the other way round
  pub inside_under : (sites : Sites) (x m : ℕ) → Inside (graph_of sites s l) x m → Under l x m
  inside_under sites x _ (here m lives at) = Here m (subst (λ (y : ℕ). has_item (members l y) m ≡ true) at (j.listed m lives))
  inside_under sites x _ (deeper m w lives at inner) =
      Deeper m w (subst (λ (y : ℕ). has_item (members l y) m ≡ true) (at ∙ one_more w) (j.listed m lives)) (inside_under sites x w inner)

  pub under_inside : (sites : Sites) (x m : ℕ) → Under l x m → Inside (graph_of sites s l) x m
  under_inside sites x _ (Here m h) = here m (member_live s l j x m h) (j.era x m h)
  under_inside sites x _ (Deeper m w h u) = deeper m w (member_live s l j (w + 1) m h) (j.era (w + 1) m h ∙ sym (one_more w)) (under_inside sites x w u)

  under_where : (x m y : ℕ) → Under l x m → has_item (members l y) m ≡ true → EndsWith (Under l x) x y
  under_where x _ y (Here m h) g = inl (sym (j.era y m g) ∙ j.era x m h)
  under_where x _ y (Deeper m w h u) g = inr (w, u, sym (j.era y m g) ∙ j.era (w + 1) m h)

  where_under : (x m y : ℕ) → has_item (members l y) m ≡ true → EndsWith (Under l x) x y → Under l x m
  where_under x m y h (inl e) = Here m (subst (λ (z : ℕ). has_item (members l z) m ≡ true) e h)
  where_under x m y h (inr (w, u, e)) = Deeper m w (subst (λ (z : ℕ). has_item (members l z) m ≡ true) e h) u

  -- where there was no era, nothing is in it
  none_under : (x : ℕ) → members l x ≡ [] → (m : ℕ) → Under l x m → ⊥
  none_under x e _ (Here m h) = true_false (has_item (members l x) m) h (ap (λ (xs : List ℕ). has_item xs m) e)
  none_under x e _ (Deeper m w h u) = none_under x e w u

  pub ends_killed : (k : Lives) (q r : Queued) (x : ℕ) → Ends l k q r x → Killed l k x × LeavesQueue (Under l x) q r
  ends_killed k q r x (inl p) = (p.1, p.2)
  ends_killed k q r x (inr p) =
      let none : (m : ℕ) → Under l x m → ⊥ = none_under x (j.hollow x p.0) in
      let P : Lives → Type 0 = λ v. Killed l v x in
      let kills : Killed l l x = record {
        moved = [];
        buried = sym (append-nil (grave l));
        only = λ m h. cc;
        all = λ m u. absurd (none m u);
        ended = λ y e. no_era y p.0 e none;
        stay = λ y ne out. (refl, refl);
      } in
      let leaves : LeavesQueue (Under l x) q r = record { out = λ m u. absurd (none m u); others = λ m out. p.2 m } in
      (subst P (sym p.1) kills, leaves)
    where
      no_era : (y : ℕ) → is_era l x ≡ false → EndsWith (Under l x) x y → ((m : ℕ) → Under l x m → ⊥) → (members l y ≡ []) × (is_era l y ≡ false)
      no_era y e (inl same) none = (ap (members l) same ∙ j.hollow x e, ap (is_era l) same ∙ e)
      no_era y e (inr (w, u, at)) none = absurd (none w u)

  module _ (k : Lives) (x : ℕ) (kills : Killed l k x) where
    ended_or : (y : ℕ) → EndsWith (Under l x) x y ⊎ ((y ≢ x) × ((v : ℕ) → y ≡ v + 1 → has_item kills.moved v ≡ false))
    ended_or y = elim (by_number y x) [
      | inl e ↦ inl (inl e)
      | inr apart ↦ elim (by_number y 0) [
        | inl z ↦ inr (apart, λ v e. absurd (omega arith))
        | inr some ↦ elim (by_truth (has_item kills.moved (y - 1))) [
          | inl moved ↦ inl (inr (y - 1, kills.only (y - 1) moved, omega arith))
          | inr out ↦ inr (apart, λ v e. (let same : y - 1 ≡ v = omega arith in subst (λ (i : ℕ). has_item kills.moved i ≡ false) same out))
        ]
      ]
    ]

    empty_has : {B : Type 0} (y m : ℕ) → members k y ≡ [] → has_item (members k y) m ≡ true → B
    empty_has y m e h = true_false (has_item (members k y) m) h (ap (λ (xs : List ℕ). has_item xs m) e)

    was_member : (y m : ℕ) → has_item (members k y) m ≡ true → (has_item (members l y) m ≡ true) × (y ≢ x) × ((v : ℕ) → y ≡ v + 1 → has_item kills.moved v ≡ false)
    was_member y m h = elim (ended_or y) [
      | inl e ↦ empty_has y m (kills.ended y e).0 h
      | inr p ↦ (ap (λ (xs : List ℕ). has_item xs m) (sym (kills.stay y p.0 p.1).0) ∙ h, p.0, p.1)
    ]

    not_both : {B : Type 0} (y : ℕ) → EndsWith (Under l x) x y → y ≢ x → ((v : ℕ) → y ≡ v + 1 → has_item kills.moved v ≡ false) → B
    not_both y (inl e) ne out = absurd (ne e)
    not_both y (inr (w, u, e)) ne out = true_false (has_item kills.moved w) (kills.all w u) (out w e)

    in_grave : (m : ℕ) → has_item (grave k) m ≡ true → (has_item (grave l) m ≡ true) ⊎ (has_item kills.moved m ≡ true)
    in_grave m h = has_append_cases (grave l) kills.moved m (ap (λ (xs : List ℕ). has_item xs m) (sym kills.buried) ∙ h)

    moved_grave : (m : ℕ) → has_item kills.moved m ≡ true → has_item (grave k) m ≡ true
    moved_grave m h = ap (λ (xs : List ℕ). has_item xs m) kills.buried ∙ has_append_right (grave l) kills.moved m h

    not_grave : (m : ℕ) → has_item (grave l) m ≡ false → has_item kills.moved m ≡ false → has_item (grave k) m ≡ false
    not_grave m a b = ap (λ (xs : List ℕ). has_item xs m) kills.buried ∙ in_neither (grave l) kills.moved m a b

    -- what lived and didn't move lives
    pub still_live : (m : ℕ) → is_live s l m ≡ true → has_item kills.moved m ≡ false → is_live s k m ≡ true
    still_live m h out =
        live_by (node_at s m) (has_item (grave k) m) (live_there (node_at s m) (not (has_item (grave l) m)) h) (not_grave m (live_apart (node_at s m) (has_item (grave l) m) h) out)

    -- what lives lived and didn't move
    was_live : (m : ℕ) → is_live s k m ≡ true → (is_live s l m ≡ true) × (has_item kills.moved m ≡ false)
    was_live m h = by (has_item kills.moved m) (has_item (grave l) m) (by_truth (has_item kills.moved m)) (by_truth (has_item (grave l) m))
      where
        dug : has_item (grave k) m ≡ false
        dug = live_apart (node_at s m) (has_item (grave k) m) h

        by : (b c : Bool) → (has_item kills.moved m ≡ true) ⊎ (has_item kills.moved m ≡ false) → (has_item (grave l) m ≡ true) ⊎ (has_item (grave l) m ≡ false)
            → (is_live s l m ≡ true) × (has_item kills.moved m ≡ false)
        by b c (inl moved) g = true_false (has_item (grave k) m) (moved_grave m moved) dug
        by b c (inr out) (inl g) = true_false (has_item (grave k) m) (ap (λ (xs : List ℕ). has_item xs m) kills.buried ∙ has_append_left (grave l) kills.moved m g) dug
        by b c (inr out) (inr g) = (live_by (node_at s m) (has_item (grave l) m) (live_there (node_at s m) (not (has_item (grave k) m)) h) g, out)

    -- the era of what lives stays
    era_stays : (m : ℕ) → is_live s k m ≡ true → (era_at (node_at s m) ≢ x) × ((v : ℕ) → era_at (node_at s m) ≡ v + 1 → has_item kills.moved v ≡ false)
    era_stays m h =
        let was = was_live m h in
        elim (ended_or (era_at (node_at s m))) [
          | inl e ↦ true_false (has_item kills.moved m) (kills.all m (where_under x m (era_at (node_at s m)) (j.listed m was.0) e)) was.1
          | inr p ↦ p
        ]

    members_stay : (m : ℕ) → is_live s k m ≡ true → members k (era_at (node_at s m)) ≡ members l (era_at (node_at s m))
    members_stay m h = let p = era_stays m h in (kills.stay (era_at (node_at s m)) p.0 p.1).0

    pub joined_killed : AreJoined s k
    joined_killed = record {
      there = there_killed l k s x j.there kills;
      once = λ y. elim (ended_or y) [
        | inl e ↦ ap are_different (kills.ended y e).0
        | inr p ↦ ap are_different (kills.stay y p.0 p.1).0 ∙ j.once y
      ];
      apart = λ y m h. (let was = was_member y m h in
          not_grave m (j.apart y m was.0) (elim (by_truth (has_item kills.moved m)) [
            | inl moved ↦ not_both y (under_where x m y (kills.only m moved) was.0) was.1 was.2
            | inr out ↦ out
          ]));
      era = λ y m h. j.era y m (was_member y m h).0;
      listed = λ m h. ap (λ (xs : List ℕ). has_item xs m) (members_stay m h) ∙ j.listed m (was_live m h).0;
      hollow = λ y e. elim (ended_or y) [
        | inl en ↦ (kills.ended y en).0
        | inr p ↦ (kills.stay y p.0 p.1).0 ∙ j.hollow y (sym (kills.stay y p.0 p.1).1 ∙ e)
      ];
      owners = λ w e. elim (ended_or (w + 1)) [
        | inl en ↦ true_false (is_era k (w + 1)) e (kills.ended (w + 1) en).1
        | inr p ↦ still_live w (j.owners w (sym (kills.stay (w + 1) p.0 p.1).1 ∙ e)) (p.1 w refl)
      ];
    }

    pub queued_killed : (q r : Queued) → AreQueued s l q → LeavesQueue (Under l x) q r → AreQueued s k r
    queued_killed q r a leaves = record { live = live; right = right }
      where
        -- what is queued didn't move, and was queued
        was : (m : ℕ) → IsSome (r m) → (has_item kills.moved m ≡ false) × (r m ≡ q m)
        was m h = elim (by_truth (has_item kills.moved m)) [
          | inl moved ↦ no_number (r m) (leaves.out m (kills.only m moved)) h
          | inr out ↦ (out, leaves.others m (λ u. true_false (has_item kills.moved m) (kills.all m u) out))
        ]

        live : (m : ℕ) → IsSome (r m) → is_live s k m ≡ true
        live m h = let w = was m h in still_live m (a.live m (ap is_some (sym w.1) ∙ h)) w.0

        right : (m g : ℕ) → r m ≡ Some g → g ≡ height_at s m
        right m g e = let w = was m (ap is_some e) in a.right m g (sym w.1 ∙ e)

    -- the graph in which the era has ended, where eras keep their members and the grave is the same
    pub kills_by : (sites : Sites) (v : Lives) (q r : Queued) (i : ℕ) → ((y : ℕ) → members v y ≡ members k y) → grave v ≡ grave k → LeavesQueue (Under l x) q r
        → Kills (way_of sites s l q i) (way_of sites s v r i) x
    kills_by sites v q r i same buried leaves = record {
      decided = λ m. elim (by_truth (has_item kills.moved m)) [
        | inl moved ↦ inl (under_inside sites x m (kills.only m moved))
        | inr out ↦ inr (λ inner. true_false (has_item kills.moved m) (kills.all m (inside_under sites x m inner)) out)
      ];
      ended = λ m inner. (let u = inside_under sites x m inner in (dead m (kills.all m u), leaves.out m u));
      stays = λ m outside. (let out : has_item kills.moved m ≡ false = unmoved m outside in (same_live m out, leaves.others m (λ u. outside (under_inside sites x m u))));
      same = λ m. record { kind = refl; inputs = refl; later = refl; value = refl; cell = refl; level = refl; era = refl; done = refl };
      result_of = λ m h watches. ap (λ (xs : List ℕ). next_in (length s.nodes) xs m) (same (era_at (node_at s m)) ∙ members_stay m (sym (live_same m) ∙ h));
      emptied = same x ∙ (kills.ended x (inl refl)).0;
      inner = λ w inner. same (suc w) ∙ (kills.ended (suc w) (inr (w, inside_under sites x w inner, one_more w))).0;
      others = λ y ne outside. same y ∙ (kills.stay y ne (λ w e. unmoved w (outside w (e ∙ sym (one_more w))))).0;
      taken = λ m. refl;
      heights = λ m. refl;
    }
      where
        live_same : (m : ℕ) → is_live s v m ≡ is_live s k m
        live_same m = ap (λ (xs : List ℕ). is_some (node_at s m) && not (has_item xs m)) buried

        unmoved : (m : ℕ) → (Inside (graph_of sites s l) x m → ⊥) → has_item kills.moved m ≡ false
        unmoved m outside = elim (by_truth (has_item kills.moved m)) [ inl moved ↦ absurd (outside (under_inside sites x m (kills.only m moved))) | inr out ↦ out ]

        and_false : (a b : Bool) → b ≡ true → (a && not b) ≡ false
        and_false true true e = refl
        and_false false b e = refl
        and_false true false e = cc

        dead : (m : ℕ) → has_item kills.moved m ≡ true → is_live s v m ≡ false
        dead m moved = live_same m ∙ and_false (is_some (node_at s m)) (has_item (grave k) m) (moved_grave m moved)

        same_grave : (m : ℕ) → has_item kills.moved m ≡ false → has_item (grave k) m ≡ has_item (grave l) m
        same_grave m out = elim (by_truth (has_item (grave l) m)) [
          | inl g ↦ ap (λ (xs : List ℕ). has_item xs m) kills.buried ∙ has_append_left (grave l) kills.moved m g ∙ sym g
          | inr g ↦ not_grave m g out ∙ sym g
        ]

        same_live : (m : ℕ) → has_item kills.moved m ≡ false → is_live s v m ≡ is_live s l m
        same_live m out = live_same m ∙ ap (λ (b : Bool). is_some (node_at s m) && not b) (same_grave m out)
