-- What was built for a choice, in an era that had no members, is what a turning asks for.
use Rattle.std.proofs.Common.{◌≡◌, ◌≢◌, ◌⊎◌, inl, inr, ℕ, suc, ◌<◌, Bool, true, false, if◌then◌else◌, nat_eq, List, [], ◌∷◌, ◌++◌, length, None, refl, ap, sym, ◌∙◌, subst, append-nil, arith}
use Rattle.fr_links.specs.Lists.{has_item}
use Rattle.fr_links.proofs.Has.{by_truth, true_false, by_number, eq_self, eq_apart, differ, here, there}
use Rattle.fr_core.specs.declared.lowered.Low.{Low}
use Rattle.fr_graph.specs.Graph.{Part, Graph}
use Rattle.fr_graph.specs.Walk.{Placed, place}
use Rattle.fr_graph.specs.Wired.{Wired}
use Rattle.fr_graph.specs.Known.{Reads}
use Rattle.fr_way.specs.Frame.{Holds, is_source}
use Rattle.fr_way.specs.Way.{Way}
use Rattle.fr_way.specs.Steps.{IsBorn}
use Rattle.fr_way.specs.Turns.{IsNew, IsGiven, AreBuilt, Grows}
use Rattle.fr_nodes.specs.Kinds.{Sites}
use Rattle.fr_build.specs.Ready.{Planned, plan_of, Matches, PlanMatches}
use Rattle.fr_build.specs.Builds.{InReach, NamesBefore, InTurn, IsOnce, Precedes, BuildsExpr, CanBuild}
use Rattle.fr_build.proofs.Cases.{no_item}
use Rattle.fr_build.proofs.Lists.{first_or_rest, only_item, precedes_second}

-- the place of a number in a list
abbrev index_in : List ℕ → ℕ → ℕ
index_in [] m = 0
index_in (k ∷ ms) m = if nat_eq k m then 0 else suc (index_in ms m)

index_here : (k m : ℕ) (ms : List ℕ) → k ≡ m → index_in (k ∷ ms) m ≡ 0
index_here k m ms e = ap (λ (b : Bool). if b then 0 else suc (index_in ms m)) (ap (nat_eq k) (sym e) ∙ eq_self k)

index_behind : (k m : ℕ) (ms : List ℕ) → k ≢ m → index_in (k ∷ ms) m ≡ suc (index_in ms m)
index_behind k m ms ne = ap (λ (b : Bool). if b then 0 else suc (index_in ms m)) (eq_apart k m ne)

index_few : (ms : List ℕ) (m : ℕ) → has_item ms m ≡ true → index_in ms m < length ms
index_few [] m h = no_item m h
index_few (k ∷ ms) m h = elim (by_number k m) [
  | inl e ↦ let z = index_here k m ms e in omega arith
  | inr ne ↦
      let s = index_behind k m ms ne in
      let lt = index_few ms m (elim (first_or_rest k m ms h) [ inl l ↦ absurd (ne (only_item k m l)) | inr r ↦ r ]) in
      omega arith
]

-- a node comes behind those that were put in front of it
module _ (g : Graph) (env : List Part) (R : ℕ → ℕ → Type 0) (reach : (m : ℕ) (bs : List ℕ) → NamesBefore g env bs m → (j : ℕ) → R m j → InReach g env bs j) where
  abbrev Behind : List ℕ → List ℕ → ℕ → ℕ → Type 0
  Behind bs ms m j = ((Reads j env ⊎ ((g.live j ≡ true) × (is_source (g.kind j) ≡ true))) ⊎ (has_item bs j ≡ true)) ⊎ ((has_item ms j ≡ true) × (index_in ms j < index_in ms m))

  turn_index : (ms bs : List ℕ) (m j : ℕ) → InTurn g env bs ms → has_item ms m ≡ true → R m j → Behind bs ms m j
  turn_index [] bs m j t h r = no_item m h
  turn_index (k ∷ ms) bs m j t h r = elim (by_number k m) [
    | inl e ↦ inl (reach m bs (subst (NamesBefore g env bs) e t.0) j r)
    | inr ne ↦
        let far = index_behind k m ms ne in
        let rest = elim (first_or_rest k m ms h) as (λ _. has_item ms m ≡ true) [ inl l ↦ absurd (ne (only_item k m l)) | inr o ↦ o ] in
        elim (turn_index ms (k ∷ bs) m j t.1 rest r) [
          | inl c ↦ elim c [
            | inl given ↦ inl (inl given)
            | inr o ↦ elim (first_or_rest k j bs o) [
              | inl l ↦
                  let e = only_item k j l in
                  let near = index_here k j ms e in
                  let lt : index_in (k ∷ ms) j < index_in (k ∷ ms) m = omega arith in
                  inr (subst (λ (i : ℕ). has_item (k ∷ ms) i ≡ true) e (here k ms), lt)
              | inr s ↦ inl (inr s)
            ]
          ]
          | inr c ↦
              let lt : index_in (k ∷ ms) j < index_in (k ∷ ms) m
              = elim (by_number k j) [
                | inl e ↦ let near = index_here k j ms e in omega arith
                | inr apart ↦ let near = index_behind k j ms apart in let less : index_in ms j < index_in ms m = c.1 in omega arith
              ] in
              inr (there k j ms c.0, lt)
        ]
  ]

precedes_first : (ms : List ℕ) (i j : ℕ) → Precedes ms i j → has_item ms i ≡ true
precedes_first [] i j p = absurd p
precedes_first (k ∷ ms) i j p = elim p [
  | inl h ↦ subst (λ (l : ℕ). has_item (k ∷ ms) l ≡ true) h.0 (here k ms)
  | inr q ↦ there k i ms (precedes_first ms i j q)
]

precedes_index : (ms : List ℕ) (i j : ℕ) → IsOnce ms → Precedes ms i j → index_in ms i < index_in ms j
precedes_index [] i j once p = absurd p
precedes_index (k ∷ ms) i j once p = elim p [
  | inl h ↦
      let near = index_here k i ms h.0 in
      let far = index_behind k j ms (λ e. differ ms j k h.1 once.0 (sym e)) in
      omega arith
  | inr q ↦
      let a = index_behind k i ms (λ e. differ ms i k (precedes_first ms i j q) once.0 (sym e)) in
      let b = index_behind k j ms (λ e. differ ms j k (precedes_second ms i j q) once.0 (sym e)) in
      let lt = precedes_index ms i j once.1 q in
      omega arith
]

module _ (sites : Sites) (planned : Planned) (at new : Way) (w h n : ℕ) (e : Low) (env : List Part) (part : Part) (can : CanBuild at w h env) (whole : PlanMatches sites planned) (matches : Matches sites (length env) e)
    (b : BuildsExpr sites at new planned (suc w) n e env part) where
  abbrev ms : List ℕ
  ms = b.added

  members_are : new.graph.members (suc w) ≡ b.added
  members_are = b.grew.members ∙ ap (λ (l : List ℕ). l ++ b.added) can.empty

  -- what is new was added
  added_new : (m : ℕ) → IsNew at.graph new.graph m → has_item b.added m ≡ true
  added_new m new_one = elim (by_truth (at.taken m)) [
    | inl t ↦ true_false (new.graph.live m) new_one.1 ((b.grew.still m t).live ∙ new_one.0)
    | inr f ↦ elim (by_truth (has_item b.added m)) [
      | inl o ↦ o
      | inr off ↦ true_false (new.graph.live m) new_one.1 (b.grew.free m f off).live
    ]
  ]

  new_added : (m : ℕ) → has_item b.added m ≡ true → IsNew at.graph new.graph m
  new_added m o = let born = b.grew.born m o in (born.absent, born.live)

  reach_given : (j : ℕ) → InReach new.graph env b.added j → IsGiven new.graph env j ⊎ IsNew at.graph new.graph j
  reach_given j r = elim r [ inl g ↦ inl g | inr o ↦ inr (new_added j o) ]

  behind_given : (m j : ℕ) → ((Reads j env ⊎ ((new.graph.live j ≡ true) × (is_source (new.graph.kind j) ≡ true))) ⊎ (has_item [] j ≡ true)) ⊎ ((has_item b.added j ≡ true) × (index_in b.added j < index_in b.added m))
      → IsGiven new.graph env j ⊎ (IsNew at.graph new.graph j × (index_in b.added j < index_in b.added m))
  behind_given m j c = elim c [
    | inl o ↦ elim o [ inl g ↦ inl g | inr none ↦ no_item j none ]
    | inr o ↦ inr (new_added j o.0, o.1)
  ]

  built : AreBuilt at.graph new.graph (suc w) env
  built = record {
    era = λ m o. (b.grew.born m (added_new m o)).era;
    no_source = λ m o. (b.grew.born m (added_new m o)).no_source;
    joined = λ m o. subst (λ (l : List ℕ). has_item l m ≡ true) (sym members_are) (added_new m o);
    only = λ m o. new_added m (subst (λ (l : List ℕ). has_item l m ≡ true) members_are o);
    place = index_in b.added;
    many = length b.added;
    few = λ m o. index_few b.added m (added_new m o);
    behind = λ m o. record {
      inputs = λ j r. behind_given m j (turn_index new.graph env (λ m j. Reads j (new.graph.inputs m)) (λ m bs names j r. names.inputs j r) b.added [] m j b.grew.turn (added_new m o) r);
      held = λ j r. behind_given m j (turn_index new.graph env (λ m j. Holds j (new.graph.kind m)) (λ m bs names j r. names.held j r) b.added [] m j b.grew.turn (added_new m o) r);
      later = λ j l. reach_given j (b.grew.later m j (added_new m o) l);
    };
    no_watch = λ m j o nm. b.grew.no_watch can.no_watch m j (added_new m o) nm;
    results = λ v o is.
        let has = added_new v o in
        let follows = b.grew.switches.follows v has is in
        (new_added (new.graph.result_of v) (precedes_second b.added v (new.graph.result_of v) follows), (b.grew.switches.results v has is).0, precedes_index b.added v (new.graph.result_of v) b.grew.once follows);
    unread = λ m o is. b.grew.switches.unread m (added_new m o) is;
    watched = λ m o is.
        let v = b.grew.switches.watched m (added_new m o) is in
        (v.0, new_added v.0 v.1, v.2, v.3);
    calm = λ m work o is. (b.grew.born m (added_new m o)).calm;
    apart = λ u v o p is it same. b.grew.switches.apart u v (added_new u o) (added_new v p) is it same;
  }

  owner_height : new.height w ≡ h
  owner_height = (b.grew.still w can.owner).height ∙ can.height

  born_above : (m : ℕ) → IsNew at.graph new.graph m → IsBorn at new h m
  born_above m o =
      let born = b.grew.born m (added_new m o) in
      let above = b.grew.above_owner w m refl can.owner (added_new m o) in
      record { fresh = born.fresh; cell = born.cell; done = born.done; queued = born.queued; above = subst (λ (i : ℕ). i < new.height m) owner_height above }

  no_other : (m : ℕ) → new.graph.live m ≡ false → new.queued m ≡ None
  no_other m off = elim (by_truth (at.taken m)) [
    | inl t ↦ let s = b.grew.still m t in s.queued ∙ can.idle m (sym s.live ∙ off)
    | inr f ↦ elim (by_truth (has_item b.added m)) [
      | inl o ↦ true_false (new.graph.live m) (b.grew.born m o).live off
      | inr out ↦ (b.grew.free m f out).queued ∙ can.idle m (no_live m f)
    ]
  ]
    where
      no_live : (m : ℕ) → at.taken m ≡ false → at.graph.live m ≡ false
      no_live m f = elim (by_truth (at.graph.live m)) [ inl t ↦ true_false (at.taken m) (can.taken m t) f | inr o ↦ o ]

  taken_on : (m : ℕ) → (at.taken m ≡ true) ⊎ (new.graph.live m ≡ true) → new.taken m ≡ true
  taken_on m c = elim (by_truth (at.taken m)) [
    | inl t ↦ (b.grew.still m t).taken
    | inr f ↦ elim c [
      | inl t ↦ true_false (at.taken m) t f
      | inr lv ↦ elim (by_truth (has_item b.added m)) [
        | inl o ↦ (b.grew.born m o).taken
        | inr off ↦ true_false (new.graph.live m) lv (b.grew.free m f off).live
      ]
    ]
  ]

  no_more : (m : ℕ) → new.taken m ≡ true → (at.taken m ≡ true) ⊎ (new.graph.live m ≡ true)
  no_more m t = elim (by_truth (at.taken m)) [
    | inl o ↦ inl o
    | inr f ↦ elim (by_truth (has_item b.added m)) [
      | inl o ↦ inr (b.grew.born m o).live
      | inr off ↦ true_false (new.taken m) t (b.grew.free m f off).taken
    ]
  ]

  pub choice_grows : Grows at new (plan_of planned) (suc w) h n e env
  choice_grows = record {
    was_empty = can.empty;
    stays = λ m lv. (b.grew.still m (can.taken m lv)).live ∙ lv;
    same = λ m t. (b.grew.still m t).same;
    result_of = λ m lv is. let r = can.results m lv is in (b.grew.still m (can.taken m lv)).result_of is (can.taken (at.graph.result_of m) r.0) r.1;
    heights = λ m t. (b.grew.still m t).height;
    others = b.grew.others;
    built = built;
    born = born_above;
    levelled = λ m j o r. (b.grew.born m (added_new m o)).above_inputs j r;
    result_over = λ v o is. (b.grew.switches.results v (added_new v o) is).1;
    queue = λ m lv. (b.grew.still m (can.taken m lv)).queued;
    no_other = no_other;
    taken = taken_on;
    no_more = no_more;
    wired = subst (Wired new.graph (plan_of planned) (suc w) n e env) (append-nil b.added ∙ sym members_are) (b.stands [] whole matches);
    all = subst (λ (l : List ℕ). (place (plan_of planned) n e env l).left ≡ []) (append-nil b.added ∙ sym members_are) (ap (λ (q : Placed). q.left) (b.placed []));
  }

  -- and its part is the one that stands for it
  pub choice_part : (place (plan_of planned) n e env (new.graph.members (suc w))).part ≡ part
  choice_part = ap (λ (l : List ℕ). (place (plan_of planned) n e env l).part) (members_are ∙ sym (append-nil b.added)) ∙ ap (λ (q : Placed). q.part) (b.placed [])
