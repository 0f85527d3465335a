-- Items are built one behind the other.
use Rattle.std.proofs.Common.{◌≡◌, inl, inr, ℕ, zero, suc, ◌+◌, ◌<◌, ◌≤◌, Bool, true, List, [], ◌∷◌, ◌++◌, length, take, drop, slice_get, slice_index_or, Some, refl, ap, sym, ◌∙◌, subst, append_assoc, append-nil, length-append, arith}
use Rattle.std.proofs.lemmas.List.{map-append, length-map}
use Rattle.fr_links.proofs.Has.{has_append_left, has_append_right}
use Rattle.fr_value.specs.declared.now.Held.{Held}
use Rattle.fr_value.specs.declared.symbols.Symbol.{Symbol}
use Rattle.fr_value.specs.declared.value.Value.TheVariants as value
use Rattle.fr_core.specs.declared.lowered.Low.{Low}
use Rattle.fr_core.specs.declared.lowered.Low.TheVariants as low
use Rattle.fr_core.specs.declared.lowered.LowItem.{LowItem}
use Rattle.fr_core.specs.declared.lowered.LowItem.TheVariants as low_item
use Rattle.fr_graph.specs.Graph.{Part}
use Rattle.fr_graph.specs.Walk.{Walk, Placed}
use Rattle.fr_graph.specs.Wired.{Standing, Wired}
use Rattle.fr_graph.specs.Known.{Reads}
use Rattle.fr_graph.specs.Fails.{Fails, ItemsFail}
use Rattle.fr_graph.specs.Items.{Shown, place_items, body_walk, ItemsStand, BodyFails}
use Rattle.fr_way.specs.Way.{Way}
use Rattle.fr_nodes.specs.Kinds.{Sites, part_of, parts_of}
use Rattle.fr_nodes.specs.Makes.{AreThere}
use Rattle.fr_ready.specs.Planning.{ItemsReady}
use Rattle.fr_ready.specs.Switches.{ItemsMatch}
use Rattle.fr_build.specs.Ready.{Planned, plan_of, IsReady, IsGround, LiveAreTaken, PlanMatches}
use Rattle.fr_build.specs.declared.stops.BuildStop.{BuildStop}
use Rattle.fr_build.specs.declared.stops.BuildStop.TheVariants as stop
use Rattle.fr_build.specs.Builds.{InReach, NamesNoWatch, Grew, BuildsExpr, ExprStops}
use Rattle.fr_build.specs.Items.{env_behind, BuildsFirst, BuildsItems, MayBuildItems, ItemsMade, StandsNext, ItemsStop}
use Rattle.fr_build.proofs.Grown.{grew_none, grew_live, reach_on, seq, scope_reach}
use Rattle.fr_build.proofs.Reach.{reach_wider}
use Rattle.fr_build.proofs.Seq.{reads_append, reads_one, reach_lives, env_stays, alike, source_on}
use Rattle.fr_build.proofs.Stand.{items_on}
use Rattle.fr_build.proofs.Outcomes.{ground_on}

-- ITEMS IN TWO PARTS
module _ (walk : Walk) where
  shown_eta : (s : Shown) → s ≡ record { parts = s.parts; left = s.left }
  shown_eta s = refl

  pub place_append : (env : List Part) (is js : List LowItem) (ms : List ℕ)
      → place_items walk env (is ++ js) ms
      ≡ (let s = place_items walk env is ms in let r = place_items walk (env_behind walk env is ms) js s.left in record { parts = s.parts ++ r.parts; left = r.left })
  place_append env [] js ms = shown_eta (place_items walk env js ms)
  place_append env (low_item.Define e ∷ is) js ms = let r = walk e env ms in place_append (env ++ r.part ∷ []) is js r.left
  place_append env (low_item.Show name e ∷ is) js ms =
      let r = walk e env ms in ap (λ (s : Shown). let t : Shown = record { parts = r.part ∷ s.parts; left = s.left } in t) (place_append env is js r.left)

  pub env_append : (env : List Part) (is js : List LowItem) (ms : List ℕ)
      → env_behind walk env (is ++ js) ms ≡ env_behind walk (env_behind walk env is ms) js (place_items walk env is ms).left
  env_append env [] js ms = refl
  env_append env (low_item.Define e ∷ is) js ms = let r = walk e env ms in env_append (env ++ r.part ∷ []) is js r.left
  env_append env (low_item.Show name e ∷ is) js ms = env_append env is js (walk e env ms).left

  pub stand_append : (S : Standing) (env : List Part) (is js : List LowItem) (ms : List ℕ) → ItemsStand walk S env is ms
      → ItemsStand walk S (env_behind walk env is ms) js (place_items walk env is ms).left → ItemsStand walk S env (is ++ js) ms
  stand_append S env [] js ms st more = more
  stand_append S env (low_item.Define e ∷ is) js ms st more = let r = walk e env ms in (st.0, stand_append S (env ++ r.part ∷ []) is js r.left st.1 more)
  stand_append S env (low_item.Show name e ∷ is) js ms st more = (st.0, stand_append S env is js (walk e env ms).left st.1 more)

  pub fail_behind : (F : Standing) (env : List Part) (is js : List LowItem) (ms : List ℕ) → ItemsFail walk F (env_behind walk env is ms) js (place_items walk env is ms).left
      → ItemsFail walk F env (is ++ js) ms
  fail_behind F env [] js ms h = h
  fail_behind F env (low_item.Define e ∷ is) js ms h = let r = walk e env ms in inr (fail_behind F (env ++ r.part ∷ []) is js r.left h)
  fail_behind F env (low_item.Show name e ∷ is) js ms h = inr (fail_behind F env is js (walk e env ms).left h)

  one_more : (env : List Part) (q : Part) → length (env ++ q ∷ []) ≡ length env + 1
  one_more env q = length-append env (q ∷ [])

  pub match_first : (sites : Sites) (env : List Part) (is js : List LowItem) (ms : List ℕ) → ItemsMatch sites (length env) (is ++ js) → ItemsMatch sites (length env) is
  match_first sites env [] js ms h = tt
  match_first sites env (low_item.Define e ∷ is) js ms h =
      let r = walk e env ms in
      let n = one_more env r.part in
      (h.0, subst (λ (k : ℕ). ItemsMatch sites k is) n (match_first sites (env ++ r.part ∷ []) is js r.left (subst (λ (k : ℕ). ItemsMatch sites k (is ++ js)) (sym n) h.1)))
  match_first sites env (low_item.Show name e ∷ is) js ms h = (h.0, match_first sites env is js (walk e env ms).left h.1)

  pub match_behind : (sites : Sites) (env : List Part) (is js : List LowItem) (ms : List ℕ) → ItemsMatch sites (length env) (is ++ js)
      → ItemsMatch sites (length (env_behind walk env is ms)) js
  match_behind sites env [] js ms h = h
  match_behind sites env (low_item.Define e ∷ is) js ms h =
      let r = walk e env ms in
      match_behind sites (env ++ r.part ∷ []) is js r.left (subst (λ (k : ℕ). ItemsMatch sites k (is ++ js)) (sym (one_more env r.part)) h.1)
  match_behind sites env (low_item.Show name e ∷ is) js ms h = match_behind sites env is js (walk e env ms).left h.1

  pub ready_behind : (planned : Planned) (env : List Part) (is js : List LowItem) (ms : List ℕ) → ItemsReady planned (length env) (is ++ js)
      → ItemsReady planned (length (env_behind walk env is ms)) js
  ready_behind planned env [] js ms h = h
  ready_behind planned env (low_item.Define e ∷ is) js ms h =
      let r = walk e env ms in
      ready_behind planned (env ++ r.part ∷ []) is js r.left (subst (λ (k : ℕ). ItemsReady planned k (is ++ js)) (sym (one_more env r.part)) h.1)
  ready_behind planned env (low_item.Show name e ∷ is) js ms h = ready_behind planned env is js (walk e env ms).left h.1

-- ONE ITEM BEHIND OTHERS
nothing_there : (at : Way) → AreThere at []
nothing_there at j r = absurd r

module _ (sites : Sites) (planned : Planned) (at mid new : Way) (live : LiveAreTaken at) (is : List LowItem) (env parts : List Part) (f : BuildsFirst sites at mid planned is env parts)
    (e : Low) (part : Part) (s : BuildsExpr sites mid new planned 0 2000 e env part) where
  abbrev walk : Walk
  walk = body_walk (plan_of planned)

  abbrev both : List ℕ
  both = f.added ++ s.added

  watches : NamesNoWatch at.graph [] → NamesNoWatch mid.graph env
  watches none = f.no_watch

  grew : Grew at new 0 [] both
  grew = seq at mid new 0 [] env f.added s.added live (nothing_there at) f.grew s.grew f.reach watches

  split : (left : List ℕ) → both ++ left ≡ f.added ++ (s.added ++ left)
  split left = append_assoc f.added s.added left

  wider : (j : ℕ) → InReach new.graph env s.added j → InReach new.graph [] both j
  wider j r =
      scope_reach at mid new 0 [] env f.added s.added live (nothing_there at) f.grew s.grew f.reach watches s.added both j (λ m h. has_append_left f.added s.added m h) (λ m h. has_append_right f.added s.added m h) r

  env_there : AreThere mid env
  env_there j r = reach_lives at mid 0 [] f.added live (nothing_there at) f.grew j (f.reach j r)

  env_reach : (j : ℕ) → Reads j env → InReach new.graph [] both j
  env_reach j r = wider j (inl (inl r))

  env_none : NamesNoWatch new.graph env
  env_none = env_stays mid new env (grew_live at mid 0 [] f.added live f.grew) env_there s.grew.still f.no_watch

  parts_reach : (j : ℕ) → Reads j parts → InReach new.graph [] both j
  parts_reach j r =
      reach_wider new.graph [] f.added both j (λ m h. has_append_left f.added s.added m h)
      (reach_on at mid new 0 [] f.added live (nothing_there at) f.grew s.grew.still f.added j (f.shows_reach j r))

  parts_there : AreThere mid parts
  parts_there j r = reach_lives at mid 0 [] f.added live (nothing_there at) f.grew j (f.shows_reach j r)

  parts_none : NamesNoWatch new.graph parts
  parts_none = env_stays mid new parts (grew_live at mid 0 [] f.added live f.grew) parts_there s.grew.still f.shows_no_watch

  -- the part of the item
  part_reach : (j : ℕ) → Reads j (part ∷ []) → InReach new.graph [] both j
  part_reach j r = wider j (s.reach j (reads_one part j r))

  part_none : NamesNoWatch new.graph (part ∷ [])
  part_none = s.no_watch f.no_watch

  -- what is behind the first items
  left_of : (left : List ℕ) → (place_items walk [] is (both ++ left)).left ≡ s.added ++ left
  left_of left = ap (λ (l : List ℕ). (place_items walk [] is l).left) (split left) ∙ ap (λ (q : Shown). q.left) (f.placed (s.added ++ left))

  env_of : (left : List ℕ) → env_behind walk [] is (both ++ left) ≡ env
  env_of left = ap (λ (l : List ℕ). env_behind walk [] is l) (split left) ∙ f.scope (s.added ++ left)

  parts_of_first : (left : List ℕ) → (place_items walk [] is (both ++ left)).parts ≡ parts
  parts_of_first left = ap (λ (l : List ℕ). (place_items walk [] is l).parts) (split left) ∙ ap (λ (q : Shown). q.parts) (f.placed (s.added ++ left))

  stand_on : PlanMatches sites planned → ItemsMatch sites 0 is → (left : List ℕ) → ItemsStand walk (Wired new.graph (plan_of planned) 0 2000) [] is (both ++ left)
  stand_on whole matches left =
      subst (λ (l : List ℕ). ItemsStand walk (Wired new.graph (plan_of planned) 0 2000) [] is l) (sym (split left))
      (items_on mid.graph new.graph (plan_of planned) 0 (source_on at mid new 0 [] env live (nothing_there at) f.added f.grew f.reach watches (plan_of planned) s.added s.grew) is f.added (s.added ++ left)
      (ap (λ (q : Shown). q.left) (f.placed (s.added ++ left))) (alike at mid new 0 [] env live (nothing_there at) f.added f.grew f.reach watches s.added s.grew)
      (f.stand whole matches (s.added ++ left)))

  -- the place of an item that stands behind the others
  behind_placed : (item : LowItem) (last : Shown) (left : List ℕ) → place_items walk env (item ∷ []) (s.added ++ left) ≡ last
      → place_items walk [] (is ++ item ∷ []) (both ++ left) ≡ record { parts = parts ++ last.parts; left = last.left }
  behind_placed item last left h =
      place_append walk [] is (item ∷ []) (both ++ left)
      ∙ ap (λ (ps : List Part).
      let r = place_items walk (env_behind walk [] is (both ++ left)) (item ∷ []) (place_items walk [] is (both ++ left)).left in
      let t : Shown = record { parts = ps ++ r.parts; left = r.left } in
      t) (parts_of_first left)
      ∙ ap (λ (q : List Part).
      let r = place_items walk q (item ∷ []) (place_items walk [] is (both ++ left)).left in
      let t : Shown = record { parts = parts ++ r.parts; left = r.left } in
      t) (env_of left)
      ∙ ap (λ (l : List ℕ).
      let r = place_items walk env (item ∷ []) l in
      let t : Shown = record { parts = parts ++ r.parts; left = r.left } in
      t) (left_of left)
      ∙ ap (λ (r : Shown). let t : Shown = record { parts = parts ++ r.parts; left = r.left } in t) h

  behind_stands : (item : LowItem) → PlanMatches sites planned → ItemsMatch sites 0 (is ++ item ∷ []) → (left : List ℕ)
      → (ItemsMatch sites (length env) (item ∷ []) → ItemsStand walk (Wired new.graph (plan_of planned) 0 2000) env (item ∷ []) (s.added ++ left))
      → ItemsStand walk (Wired new.graph (plan_of planned) 0 2000) [] (is ++ item ∷ []) (both ++ left)
  behind_stands item whole matches left here =
      let S = Wired new.graph (plan_of planned) 0 2000 in
      stand_append walk S [] is (item ∷ []) (both ++ left) (stand_on whole (match_first walk sites [] is (item ∷ []) (both ++ left) matches) left)
      (subst (λ (q : List Part). ItemsStand walk S q (item ∷ []) (place_items walk [] is (both ++ left)).left) (sym (env_of left))
      (subst (λ (l : List ℕ). ItemsStand walk S env (item ∷ []) l) (sym (left_of left))
      (here (subst (λ (q : List Part). ItemsMatch sites (length q) (item ∷ [])) (env_of left) (match_behind walk sites [] is (item ∷ []) (both ++ left) matches)))))

  pub show_built : (name : Symbol) → BuildsFirst sites at new planned (is ++ low_item.Show name e ∷ []) env (parts ++ part ∷ [])
  show_built name = record {
    added = both;
    grew = grew;
    reach = env_reach;
    no_watch = env_none;
    shows_reach = λ j r. elim (reads_append parts (part ∷ []) j r) [ inl l ↦ parts_reach j l | inr k ↦ part_reach j k ];
    shows_no_watch = λ j r. elim (reads_append parts (part ∷ []) j r) [ inl l ↦ parts_none j l | inr k ↦ part_none j k ];
    scope = λ left. env_append walk [] is (low_item.Show name e ∷ []) (both ++ left) ∙ env_of left;
    placed = λ left. behind_placed (low_item.Show name e) (record { parts = part ∷ []; left = left }) left (ap (λ (r : Placed). let t : Shown = record { parts = r.part ∷ []; left = r.left } in t) (s.placed left));
    stand = λ whole matches left. behind_stands (low_item.Show name e) whole matches left (λ m. (s.stands left whole m.0, tt));
  }

  pub define_built : BuildsFirst sites at new planned (is ++ low_item.Define e ∷ []) (env ++ part ∷ []) parts
  define_built = record {
    added = both;
    grew = grew;
    reach = λ j r. elim (reads_append env (part ∷ []) j r) [ inl l ↦ env_reach j l | inr k ↦ part_reach j k ];
    no_watch = λ j r. elim (reads_append env (part ∷ []) j r) [ inl l ↦ env_none j l | inr k ↦ part_none j k ];
    shows_reach = parts_reach;
    shows_no_watch = parts_none;
    scope = λ left.
        env_append walk [] is (low_item.Define e ∷ []) (both ++ left)
        ∙ ap (λ (q : List Part). env_behind walk q (low_item.Define e ∷ []) (place_items walk [] is (both ++ left)).left) (env_of left)
        ∙ ap (λ (l : List ℕ). env_behind walk env (low_item.Define e ∷ []) l) (left_of left)
        ∙ ap (λ (r : Placed). env ++ r.part ∷ []) (s.placed left);
    placed = λ left.
        behind_placed (low_item.Define e) (record { parts = []; left = left }) left (ap (λ (r : Placed). let t : Shown = record { parts = []; left = r.left } in t) (s.placed left))
        ∙ ap (λ (ps : List Part). let t : Shown = record { parts = ps; left = left } in t) (append-nil parts);
    stand = λ whole matches left. behind_stands (low_item.Define e) whole matches left (λ m. (s.stands left whole m.0, tt));
  }

-- no item was built yet
pub no_item : (sites : Sites) (planned : Planned) (at : Way) → LiveAreTaken at → BuildsFirst sites at at planned [] [] []
no_item sites planned at live = record {
  added = [];
  grew = grew_none at live 0 [];
  reach = λ j r. absurd r;
  no_watch = λ j r. absurd r;
  shows_reach = λ j r. absurd r;
  shows_no_watch = λ j r. absurd r;
  scope = λ left. refl;
  placed = λ left. refl;
  stand = λ whole matches left. tt;
}

-- THE NEXT ITEM
module _ (planned : Planned) (item : LowItem) (way : Sites → Way) (has_era : ℕ → Bool) (env shown : List Held) (next : StandsNext planned item way has_era env shown) where
  abbrev goes : Walk
  goes = body_walk (plan_of planned)

  some_sites : Sites
  some_sites n = record { yes = low.Lit (value.Bool true); no = low.Lit (value.Bool true) }

  first_made : BuildsFirst some_sites (next.was some_sites) (way some_sites) planned next.done (parts_of env) (parts_of shown)
  first_made = next.made.builds some_sites

  next_ready : ItemsReady planned (length env) (item ∷ next.rest)
  next_ready =
      let f = first_made in
      subst (λ (k : ℕ). ItemsReady planned k (item ∷ next.rest)) (length-map env part_of)
      (subst (λ (q : List Part). ItemsReady planned (length q) (item ∷ next.rest)) (f.scope []) (ready_behind goes planned [] next.done (item ∷ next.rest) (f.added ++ []) next.may.ready))

  pub define_ready : (e : Low) → item ≡ low_item.Define e → IsReady planned (length env) e
  define_ready e is = (subst (λ (i : LowItem). ItemsReady planned (length env) (i ∷ next.rest)) is next_ready).0

  pub show_ready : (name : Symbol) (e : Low) → item ≡ low_item.Show name e → IsReady planned (length env) e
  show_ready name e is = (subst (λ (i : LowItem). ItemsReady planned (length env) (i ∷ next.rest)) is next_ready).0

  pub next_ground : IsGround way has_era 0 (parts_of env) planned.sources
  next_ground =
      ground_on next.was way next.had has_era 0 [] (parts_of env) planned.sources next.may.ground next.made.eras (λ sites. let f = next.made.builds sites in (f.added, f.grew, f.reach))

  pub define_made : (e : Low) (held : Held) (more : List Held) (last : Sites → Way) (ends : ℕ → Bool) → item ≡ low_item.Define e → ((y : ℕ) → ends y ≡ has_era y)
      → ((sites : Sites) → BuildsExpr sites (way sites) (last sites) planned 0 2000 e (parts_of env) (part_of held)) → more ≡ env ++ held ∷ []
      → ItemsMade planned (next.done ++ item ∷ []) next.was last next.had ends more shown
  define_made e held more last ends is eras builds same = record {
    eras = λ y. eras y ∙ next.made.eras y;
    builds = λ sites.
        subst (λ (i : LowItem). BuildsFirst sites (next.was sites) (last sites) planned (next.done ++ i ∷ []) (parts_of more) (parts_of shown)) (sym is)
        (subst (λ (ps : List Part). BuildsFirst sites (next.was sites) (last sites) planned (next.done ++ low_item.Define e ∷ []) ps (parts_of shown)) (sym (ap parts_of same ∙ map-append part_of env (held ∷ [])))
        (define_built sites planned (next.was sites) (way sites) (last sites) (next.may.ground.taken sites) next.done (parts_of env) (parts_of shown) (next.made.builds sites) e (part_of held) (builds sites)));
  }

  pub show_made : (name : Symbol) (e : Low) (held : Held) (more : List Held) (last : Sites → Way) (ends : ℕ → Bool) → item ≡ low_item.Show name e → ((y : ℕ) → ends y ≡ has_era y)
      → ((sites : Sites) → BuildsExpr sites (way sites) (last sites) planned 0 2000 e (parts_of env) (part_of held)) → more ≡ shown ++ held ∷ []
      → ItemsMade planned (next.done ++ item ∷ []) next.was last next.had ends env more
  show_made name e held more last ends is eras builds same = record {
    eras = λ y. eras y ∙ next.made.eras y;
    builds = λ sites.
        subst (λ (i : LowItem). BuildsFirst sites (next.was sites) (last sites) planned (next.done ++ i ∷ []) (parts_of env) (parts_of more)) (sym is)
        (subst (λ (ps : List Part). BuildsFirst sites (next.was sites) (last sites) planned (next.done ++ low_item.Show name e ∷ []) (parts_of env) ps) (sym (ap parts_of same ∙ map-append part_of shown (held ∷ [])))
        (show_built sites planned (next.was sites) (way sites) (last sites) (next.may.ground.taken sites) next.done (parts_of env) (parts_of shown) (next.made.builds sites) e (part_of held) (builds sites) name));
  }

  fails_next : (ms : List ℕ) → ItemsFail goes (Fails (plan_of planned) 2000) (parts_of env) (item ∷ next.rest) ms → BodyFails (plan_of planned) (next.done ++ item ∷ next.rest) (first_made.added ++ ms)
  fails_next ms h =
      let f = first_made in
      let F = Fails (plan_of planned) 2000 in
      fail_behind goes F [] next.done (item ∷ next.rest) (f.added ++ ms)
      (subst (λ (q : List Part). ItemsFail goes F q (item ∷ next.rest) (place_items goes [] next.done (f.added ++ ms)).left) (sym (f.scope ms))
      (subst (λ (l : List ℕ). ItemsFail goes F (parts_of env) (item ∷ next.rest) l) (sym (ap (λ (q : Shown). q.left) (f.placed ms))) h))

  stops_next : (e : Low) (s : BuildStop) → ((ms : List ℕ) → Fails (plan_of planned) 2000 e (parts_of env) ms → ItemsFail goes (Fails (plan_of planned) 2000) (parts_of env) (item ∷ next.rest) ms)
      → ExprStops planned 2000 e (parts_of env) s → ItemsStop planned (next.done ++ item ∷ next.rest) s
  stops_next e (stop.Bad b) first h = (first_made.added ++ (h.0 ++ []), fails_next (h.0 ++ []) (first (h.0 ++ []) (h.1 [])))
  stops_next e (stop.Memory m) first h = tt
  stops_next e stop.Fuel first h = tt
  stops_next e stop.TooMany first h = tt

  pub define_stops : (e : Low) (s : BuildStop) → item ≡ low_item.Define e → ExprStops planned 2000 e (parts_of env) s → ItemsStop planned (next.done ++ item ∷ next.rest) s
  define_stops e s is h =
      stops_next e s (λ ms f. subst (λ (i : LowItem). ItemsFail goes (Fails (plan_of planned) 2000) (parts_of env) (i ∷ next.rest) ms) (sym is) (inl f)) h

  pub show_stops : (name : Symbol) (e : Low) (s : BuildStop) → item ≡ low_item.Show name e → ExprStops planned 2000 e (parts_of env) s → ItemsStop planned (next.done ++ item ∷ next.rest) s
  show_stops name e s is h =
      stops_next e s (λ ms f. subst (λ (i : LowItem). ItemsFail goes (Fails (plan_of planned) 2000) (parts_of env) (i ∷ next.rest) ms) (sym is) (inl f)) h

-- ALL ITEMS
-- what was built is all that there is to go over
all_built : (sites : Sites) (planned : Planned) (at new : Way) (is : List LowItem) (env parts : List Part) → BuildsFirst sites at new planned is env parts → BuildsItems sites at new planned is parts
all_built sites planned at new is env parts f = record {
  added = f.added;
  grew = f.grew;
  reach = f.shows_reach;
  no_watch = f.shows_no_watch;
  shown = ap (λ (l : List ℕ). place_items (body_walk (plan_of planned)) [] is l) (sym (append-nil f.added)) ∙ f.placed [];
  stand = λ whole matches. subst (λ (l : List ℕ). ItemsStand (body_walk (plan_of planned)) (Wired new.graph (plan_of planned) 0 2000) [] is l) (append-nil f.added) (f.stand whole matches []);
}

pub item_at : (is : List LowItem) (i : ℕ) (d : LowItem) → i < length is → slice_get is i ≡ Some (slice_index_or is i d)
item_at [] i d lt = absurd (omega arith)
item_at (k ∷ is) zero d lt = refl
item_at (k ∷ is) (suc i) d lt = let less : i < length is = omega arith in item_at is i d less

take_snoc : (is : List LowItem) (i : ℕ) (item : LowItem) → slice_get is i ≡ Some item → take (suc i) is ≡ take i is ++ item ∷ []
take_snoc [] i item found = absurd cc
take_snoc (k ∷ is) zero item found = let same : k ≡ item = cc in ap (λ (l : LowItem). l ∷ []) same
take_snoc (k ∷ is) (suc i) item found = ap (λ (l : List LowItem). k ∷ l) (take_snoc is i item found)

take_more : (is : List LowItem) (i : ℕ) (item : LowItem) → slice_get is i ≡ Some item → take (i + 1) is ≡ take i is ++ item ∷ []
take_more is i item found = let one : i + 1 ≡ suc i = omega arith in ap (λ (n : ℕ). take n is) one ∙ take_snoc is i item found

around : (is : List LowItem) (i : ℕ) (item : LowItem) → slice_get is i ≡ Some item → take i is ++ item ∷ drop (suc i) is ≡ is
around [] i item found = absurd cc
around (k ∷ is) zero item found = let same : k ≡ item = cc in ap (λ (l : LowItem). l ∷ is) (sym same)
around (k ∷ is) (suc i) item found = ap (λ (l : List LowItem). k ∷ l) (around is i item found)

take_whole : (is : List LowItem) (i : ℕ) → length is ≤ i → take i is ≡ is
take_whole [] zero le = refl
take_whole [] (suc i) le = refl
take_whole (k ∷ is) zero le = absurd (omega arith)
take_whole (k ∷ is) (suc i) le = let less : length is ≤ i = omega arith in ap (λ (l : List LowItem). k ∷ l) (take_whole is i less)

module _ (planned : Planned) (is : List LowItem) (old new : Sites → Way) (was now : ℕ → Bool) (env shown : List Held) (may : MayBuildItems planned is old was) where
  pub stands_next : (i : ℕ) (item : LowItem) → slice_get is i ≡ Some item → ItemsMade planned (take i is) old new was now env shown → StandsNext planned item new now env shown
  stands_next i item found made = record {
    done = take i is;
    rest = drop (suc i) is;
    was = old;
    had = was;
    may = subst (λ (l : List LowItem). MayBuildItems planned l old was) (sym (around is i item found)) may;
    made = made;
  }

  pub one_further : (i : ℕ) (item : LowItem) (last : Sites → Way) (ends : ℕ → Bool) (further more : List Held) → slice_get is i ≡ Some item → ItemsMade planned (take i is) old new was now env shown
      → ((next : StandsNext planned item new now env shown) → ItemsMade planned (next.done ++ item ∷ []) next.was last next.had ends further more) → ItemsMade planned (take (i + 1) is) old last was ends further more
  unfolding stands_next
  one_further i item last ends further more found made built =
      subst (λ (l : List LowItem). ItemsMade planned l old last was ends further more) (sym (take_more is i item found)) (built (stands_next i item found made))

  pub stops_all : (i : ℕ) (item : LowItem) (s : BuildStop) → slice_get is i ≡ Some item → ItemsMade planned (take i is) old new was now env shown
      → ((next : StandsNext planned item new now env shown) → ItemsStop planned (next.done ++ item ∷ next.rest) s) → ItemsStop planned is s
  unfolding stands_next
  stops_all i item s found made stops = subst (λ (l : List LowItem). ItemsStop planned l s) (around is i item found) (stops (stands_next i item found made))

  pub all_made : (i : ℕ) → length is ≤ i → ItemsMade planned (take i is) old new was now env shown → (sites : Sites) → BuildsItems sites (old sites) (new sites) planned is (parts_of shown)
  all_made i le made sites =
      let whole = subst (λ (l : List LowItem). ItemsMade planned l old new was now env shown) (take_whole is i le) made in
      all_built sites planned (old sites) (new sites) is (parts_of env) (parts_of shown) (whole.builds sites)

pub none_made : (planned : Planned) (is : List LowItem) (way : Sites → Way) (has_era : ℕ → Bool) → MayBuildItems planned is way has_era → ItemsMade planned (take 0 is) way way has_era has_era [] []
none_made planned is way has_era may = record { eras = λ y. refl; builds = λ sites. no_item sites planned (way sites) (may.ground.taken sites) }
