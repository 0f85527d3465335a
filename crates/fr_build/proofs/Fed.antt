-- A feedback: its name's node between the nodes of the value that it has first and those of its body, and the cell tied to that.
use Rattle.std.proofs.Common.{◌≡◌, ◌≢◌, inl, inr, ℕ, suc, ◌+◌, ◌<◌, true, false, List, [], ◌∷◌, ◌++◌, length, Some, None, refl, ap, sym, ◌∙◌, subst, append_assoc, length-append, arith}
use Rattle.fr_links.specs.Lists.{has_item}
use Rattle.fr_links.proofs.Has.{here, differ, true_false, has_append_left, has_append_right}
use Rattle.fr_core.specs.declared.lowered.Low.{Low, out-Low}
use Rattle.fr_core.specs.declared.lowered.Low.TheOpen.{Low-F}
use Rattle.fr_graph.specs.Graph.{Part, signal, Work, Kind, works, feeds, result}
use Rattle.fr_graph.specs.Walk.{Plan, Walk, Placed, first, rest, place_shape, place}
use Rattle.fr_graph.specs.Wired.{IsNext, IsSource, ShapeStands, Wired}
use Rattle.fr_graph.specs.Known.{Reads}
use Rattle.fr_way.specs.Frame.{AreCalm, Holds, Names, is_watch}
use Rattle.fr_way.specs.Way.{Way}
use Rattle.fr_nodes.specs.Kinds.{Sites}
use Rattle.fr_nodes.specs.Makes.{AreThere, Makes, Ties}
use Rattle.fr_build.specs.Ready.{Planned, plan_of, LiveAreTaken, Matches}
use Rattle.fr_build.specs.Builds.{InReach, Stays, IsNewIn, NamesNoWatch, Grew, BuildsExpr}
use Rattle.fr_build.proofs.Cases.{none_later}
use Rattle.fr_build.proofs.Lists.{only_item}
use Rattle.fr_build.proofs.Grown.{grew_live, stays_two, seq, scope_reach}
use Rattle.fr_build.proofs.Tied.{tied, tied_reach}
use Rattle.fr_build.proofs.Switched.{still_stays, made_new}
use Rattle.fr_build.proofs.Stand.{IsAlike, AreAlike, wired_on}
use Rattle.fr_build.proofs.Inner.{in_feedback}
use Rattle.fr_build.proofs.Seq.{reads_append, reads_one, alike_stays, source_stays, env_stays}
use Rattle.fr_build.proofs.Forms.{chosen_at}

plain_no_result : {A : Type 0} (k : Kind) (w : Work) → k ≡ works w → k ≡ result → A
plain_no_result k w e f = absurd cc

-- the node of a work grows its era by itself
module _ (at new : Way) (m x n : ℕ) (w : Work) (inputs : List Part) (live : LiveAreTaken at) (given : AreThere at inputs) (calm : AreCalm inputs) (makes : Makes at new m x n (works w) inputs) where
  for_it : (P : ℕ → Type 0) → P m → (k : ℕ) → has_item (m ∷ []) k ≡ true → P k
  for_it P h k o = subst P (only_item m k o) h

  no_watch_here : {A : Type 0} → is_watch (new.graph.kind m) ≡ true → A
  no_watch_here is = true_false (is_watch (new.graph.kind m)) is (ap is_watch makes.made.kind)

  it_names : (j : ℕ) → Names new.graph m j → Reads j inputs
  it_names j nm = elim nm [
    | inl rd ↦ subst (Reads j) makes.made.reads rd
    | inr more ↦ elim more [
      | inl e ↦ none_later (new.graph.later m) j makes.made.later e
      | inr o ↦ absurd (subst (Holds j) makes.made.kind o)
    ]
  ]

  pub made_grew : Grew at new x inputs (m ∷ [])
  made_grew = record {
    members = makes.members;
    others = makes.others;
    still = λ j t. still_stays at new j (makes.still j t);
    free = λ j n off. makes.free j n (λ e. differ (m ∷ []) m j (here m []) off (sym e));
    once = (refl, tt);
    born = for_it (λ k. IsNewIn at new x k) (made_new at new m x n (works w) inputs refl calm makes.made);
    above_owner = λ v k e t h. for_it (λ k. new.height v < new.height k) (makes.made.above_owner v e) k h;
    turn = (record { inputs = λ j rd. inl (inl (subst (Reads j) makes.made.reads rd)); held = λ j h. absurd (subst (Holds j) makes.made.kind h) }, tt);
    later = λ k j h e. none_later (new.graph.later k) j (for_it (λ k. new.graph.later k ≡ None) makes.made.later k h) e;
    switches = record {
      follows = λ k h is. no_watch_here (subst (λ (i : ℕ). is_watch (new.graph.kind i) ≡ true) (sym (only_item m k h)) is);
      results = λ k h is. no_watch_here (subst (λ (i : ℕ). is_watch (new.graph.kind i) ≡ true) (sym (only_item m k h)) is);
      apart = λ u v h i is it e. sym (only_item m u h) ∙ only_item m v i;
      watched = λ k h is. plain_no_result (new.graph.kind m) w makes.made.kind (ap new.graph.kind (only_item m k h) ∙ is);
      unread = λ k h is. plain_no_result (new.graph.kind m) w makes.made.kind (ap new.graph.kind (only_item m k h) ∙ is);
    };
    no_watch = λ none k j h nm.
        let rd = it_names j (subst (λ (i : ℕ). Names new.graph i j) (sym (only_item m k h)) nm) in
        ap is_watch (makes.still j (live j (given j rd))).same.kind ∙ none j rd;
  }

-- a node that isn't tied stays
tie_stays : (mid new : Way) (name m : ℕ) (last : Part) → Ties mid new name last → m ≢ name → mid.taken m ≡ true → Stays mid new m
tie_stays mid new name m last ties apart t = record {
  live = ties.live m;
  taken = ties.taken m ∙ t;
  same = record { kind = ties.kind m; inputs = ties.inputs m; later = ties.later m apart; value = ties.value m; cell = ties.cell m; level = ties.level m; era = ties.era m; done = ties.done m };
  height = ties.heights m;
  queued = ties.queued m;
  result_of = λ w r k. ties.result_of m;
}

alike_tied : (mid new : Way) (name m : ℕ) (last : Part) → Ties mid new name last → m ≢ name → IsAlike mid.graph new.graph m
alike_tied mid new name m last ties apart = record {
  live = ties.live m;
  kind = ties.kind m;
  inputs = ties.inputs m;
  later = ties.later m apart;
  level = ties.level m;
  era = ties.era m;
  result_of = λ w lv k. ties.result_of m;
}

module _ (sites : Sites) (planned : Planned) (x n : ℕ) (at one two three new : Way) (env : List Part) (live : LiveAreTaken at) (given : AreThere at env)
    (init body : Low) (base part : Part) (name : ℕ) (f : BuildsExpr sites at one planned x n init env base) (base_there : AreThere one (base ∷ [])) (calm : AreCalm (base ∷ []))
    (makes : Makes one two name x n (works feeds) (base ∷ [])) (s : BuildsExpr sites two three planned x n body (env ++ signal name ∷ []) part) (ties : Ties three new name part) where
  abbrev p : Plan
  p = plan_of planned

  abbrev walk : Walk
  walk = place (plan_of planned) n

  abbrev inside : List Part
  inside = env ++ signal name ∷ []

  abbrev a : List ℕ
  a = f.added

  abbrev b : List ℕ
  b = s.added

  abbrev ab : List ℕ
  ab = f.added ++ name ∷ []

  abbrev added : List ℕ
  added = (f.added ++ name ∷ []) ++ s.added

  live_one : LiveAreTaken one
  live_one = grew_live at one x env f.added live f.grew

  made : Grew one two x (base ∷ []) (name ∷ [])
  made = made_grew one two name x n feeds (base ∷ []) live_one base_there calm makes

  base_reach : (j : ℕ) → Reads j (base ∷ []) → InReach one.graph env f.added j
  base_reach j r = f.reach j (reads_one base j r)

  until_name : Grew at two x env (f.added ++ name ∷ [])
  until_name = seq at one two x env (base ∷ []) f.added (name ∷ []) live given f.grew made base_reach f.no_watch

  has_name : has_item (f.added ++ name ∷ []) name ≡ true
  has_name = has_append_right f.added (name ∷ []) name (here name [])

  inside_reach : (j : ℕ) → Reads j (env ++ signal name ∷ []) → InReach two.graph env (f.added ++ name ∷ []) j
  inside_reach j r = elim (reads_append env (signal name ∷ []) j r) [
    | inl l ↦ inl (inl l)
    | inr k ↦ elim k [ inl e ↦ inr (subst (λ (i : ℕ). has_item (f.added ++ name ∷ []) i ≡ true) e has_name) | inr o ↦ absurd o ]
  ]

  inside_watch : NamesNoWatch at.graph env → NamesNoWatch two.graph (env ++ signal name ∷ [])
  inside_watch none j r = elim (reads_append env (signal name ∷ []) j r) [
    | inl l ↦ env_stays at two env live given until_name.still none j l
    | inr k ↦ elim k [ inl e ↦ subst (λ (i : ℕ). is_watch (two.graph.kind i) ≡ false) e (ap is_watch makes.made.kind) | inr o ↦ absurd o ]
  ]

  until_body : Grew at three x env ((f.added ++ name ∷ []) ++ s.added)
  until_body = seq at two three x env (env ++ signal name ∷ []) (f.added ++ name ∷ []) s.added live given until_name s.grew inside_reach inside_watch

  name_stays : Stays two three name
  name_stays = s.grew.still name makes.made.taken

  name_is : three.graph.kind name ≡ works feeds
  name_is = name_stays.same.kind ∙ makes.made.kind

  part_reach : (j : ℕ) → part ≡ signal j → InReach three.graph env ((f.added ++ name ∷ []) ++ s.added) j
  part_reach j e =
      scope_reach at two three x env (env ++ signal name ∷ []) (f.added ++ name ∷ []) s.added live given until_name s.grew inside_reach inside_watch s.added ((f.added ++ name ∷ []) ++ s.added) j
      (λ m h. has_append_left (f.added ++ name ∷ []) s.added m h) (λ m h. has_append_right (f.added ++ name ∷ []) s.added m h) (s.reach j e)

  part_watch : NamesNoWatch at.graph env → (j : ℕ) → part ≡ signal j → is_watch (three.graph.kind j) ≡ false
  part_watch none j e = s.no_watch (inside_watch none) j (subst (λ (q : Part). Reads j (q ∷ [])) (sym e) (inl refl))

  has : has_item ((f.added ++ name ∷ []) ++ s.added) name ≡ true
  has = has_append_left (f.added ++ name ∷ []) s.added name has_name

  no_result : three.graph.kind name ≢ result
  no_result e = plain_no_result (three.graph.kind name) feeds name_is e

  whole_grew : Grew at new x env ((f.added ++ name ∷ []) ++ s.added)
  whole_grew = tied at three new x env ((f.added ++ name ∷ []) ++ s.added) name part until_body ties has no_result part_reach part_watch

  -- what was made first goes on until the end
  not_name : (m : ℕ) → one.taken m ≡ true → m ≢ name
  not_name m t e = true_false (one.taken m) t (ap one.taken e ∙ makes.made.fresh)

  still_three : (m : ℕ) → one.taken m ≡ true → Stays one three m
  still_three m t = stays_two one two three made.still m t (s.grew.still m (made.still m t).taken)

  still_new : (m : ℕ) → one.taken m ≡ true → Stays one new m
  still_new m t = stays_two one three new still_three m t (tie_stays three new name m part ties (not_name m t) (still_three m t).taken)

  first_alike : AreAlike one.graph new.graph f.added
  first_alike m h = alike_stays one new live_one m (still_new m (f.grew.born m h).taken)

  body_alike : AreAlike three.graph new.graph s.added
  body_alike m h = alike_tied three new name m part ties (λ e. true_false (two.taken name) makes.made.taken (ap two.taken (sym e) ∙ (s.grew.born m h).fresh))

  body_source : (i : ℕ) → IsSource three.graph (plan_of planned) i → IsSource new.graph (plan_of planned) i
  body_source i o = record { live = ties.live i ∙ o.live; kind = ties.kind i ∙ o.kind }

  name_next : (left : List ℕ) → IsNext new.graph x n (works feeds) (base ∷ []) (Some part) (name ∷ left)
  name_next left = record {
    there = let lt : 0 < length (name ∷ left) = omega arith in lt;
    live = ties.live name ∙ name_stays.live ∙ makes.made.live;
    era = ties.era name ∙ name_stays.same.era ∙ makes.made.era;
    level = ties.level name ∙ name_stays.same.level ∙ makes.made.level;
    kind = ties.kind name ∙ name_is;
    inputs = ties.inputs name ∙ name_stays.same.inputs ∙ makes.made.reads;
    later = ties.here;
  }

  members_are : (left : List ℕ) → ((f.added ++ name ∷ []) ++ s.added) ++ left ≡ f.added ++ (name ∷ (s.added ++ left))
  members_are left = append_assoc (f.added ++ name ∷ []) s.added left ∙ append_assoc f.added (name ∷ []) (s.added ++ left)

  inside_length : length env + 1 ≡ length (env ++ signal name ∷ [])
  inside_length = sym (length-append env (signal name ∷ []))

  pub feedback_built : (e : Low) → out-Low e ≡ Low-F.Feedback init body → BuildsExpr sites at new planned x (suc n) e env part
  unfolding place Wired
  feedback_built e o = record {
    added = (f.added ++ name ∷ []) ++ s.added;
    grew = whole_grew;
    reach = λ j q. tied_reach at three new x env ((f.added ++ name ∷ []) ++ s.added) name part until_body ties has no_result part_reach part_watch ((f.added ++ name ∷ []) ++ s.added) j (part_reach j q);
    no_watch = λ none j r. ap is_watch (ties.kind j) ∙ s.no_watch (inside_watch none) j r;
    placed = λ left.
        subst (λ (l : List ℕ). place (plan_of planned) (suc n) e env l ≡ record { part = part; left = left }) (sym (members_are left))
        (ap (place_shape (plan_of planned) n walk env (f.added ++ (name ∷ (s.added ++ left)))) o
        ∙ ap (λ (i : Placed). walk body (env ++ signal (first i.left) ∷ []) (rest i.left)) (f.placed (name ∷ (s.added ++ left))) ∙ s.placed left);
    stands = λ left whole matches.
        let ms = f.added ++ (name ∷ (s.added ++ left)) in
        let inner = in_feedback (chosen_at sites) (length env) e init body o matches in
        let over = subst (λ (k : ℕ). Matches sites k body) inside_length inner.1 in
        let In : Low → List Part → List ℕ → Type 0 = Wired new.graph (plan_of planned) x n in
        let started = wired_on one.graph new.graph (plan_of planned) x (source_stays one new (plan_of planned) live_one still_new) n init env f.added (name ∷ (s.added ++ left))
        (ap (λ (q : Placed). q.left) (f.placed (name ∷ (s.added ++ left)))) first_alike (f.stands (name ∷ (s.added ++ left)) whole inner.0) in
        let ended = wired_on three.graph new.graph (plan_of planned) x body_source n body (env ++ signal name ∷ []) s.added left (ap (λ (q : Placed). q.left) (s.placed left)) body_alike (s.stands left whole over) in
        let fed = subst (λ (q : Placed). IsNext new.graph x n (works feeds) (base ∷ []) (Some q.part) (name ∷ (s.added ++ left))) (sym (s.placed left)) (name_next (s.added ++ left)) in
        subst (λ (l : List ℕ). Wired new.graph (plan_of planned) x (suc n) e env l) (sym (members_are left))
        (subst (ShapeStands new.graph (plan_of planned) x n walk In env ms) (sym o) (
          started,
          subst (λ (i : Placed). In body (env ++ signal (first i.left) ∷ []) (rest i.left)) (sym (f.placed (name ∷ (s.added ++ left)))) ended,
          subst (λ (i : Placed). IsNext new.graph x n (works feeds) (i.part ∷ []) (Some (walk body (env ++ signal (first i.left) ∷ []) (rest i.left)).part) i.left) (sym (f.placed (name ∷ (s.added ++ left)))) fed,
        ));
  }
