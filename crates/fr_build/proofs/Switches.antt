-- A region, a switch whose test varies, and further parts.
use Rattle.std.proofs.Common.{◌≡◌, inl, inr, ℕ, suc, ◌<◌, true, false, List, [], ◌∷◌, ◌++◌, length, refl, ap, sym, ◌∙◌, subst, append_assoc, arith}
use Rattle.fr_links.specs.Lists.{has_item}
use Rattle.fr_links.proofs.Has.{here, there, has_append_left, has_append_right}
use Rattle.fr_value.specs.declared.ids.KernId.{KernId}
use Rattle.fr_value.specs.declared.ids.SiteId.{SiteId}
use Rattle.fr_core.specs.declared.lowered.Low.{Low, out-Low}
use Rattle.fr_core.specs.declared.lowered.Low.TheOpen.{Low-F}
use Rattle.fr_core.specs.declared.lowered.Slot.{Slot}
use Rattle.fr_graph.specs.Graph.{Part, signal, runs, watch}
use Rattle.fr_graph.specs.Walk.{Walk, Placed, AllPlaced, rest, by_next, place_all, place_work, place_switch, slot_parts, place_shape, place}
use Rattle.fr_graph.specs.Wired.{Standing, AreNext, WorkStands, AllStand, SwitchStands, ShapeStands, Wired}
use Rattle.fr_graph.specs.Known.{Reads}
use Rattle.fr_way.specs.Frame.{is_watch}
use Rattle.fr_way.specs.Way.{Way}
use Rattle.fr_nodes.specs.Kinds.{Sites, Choices}
use Rattle.fr_nodes.specs.Makes.{AreThere, MakesSwitch}
use Rattle.fr_build.specs.Ready.{Planned, plan_of, LiveAreTaken, AreSlotsIn, HasChoices, Matches}
use Rattle.fr_build.specs.Builds.{InReach, NamesNoWatch, Grew, Builds, StandsBy, BuildsExpr, BuildsParts, BuildsWork}
use Rattle.fr_build.proofs.Grown.{grew_none, grew_live, reach_on, reach_taken, seq, scope_reach}
use Rattle.fr_build.proofs.Reach.{reach_wider}
use Rattle.fr_build.proofs.Inner.{in_if, each_first, each_last}
use Rattle.fr_build.proofs.Switched.{switched}
use Rattle.fr_build.proofs.Seq.{reads_append, reads_one, SourcesAre, slots_stand, sources_stay, env_stays, reach_lives, behind}
use Rattle.fr_build.proofs.Forms.{chosen_at, slot_reach, slot_watch, parts_on, one_on, one_reach, one_watch}

-- the site of a switch has its choices
choices_of : (sites : Sites) (n : ℕ) (e : Low) (site : SiteId) (test a b : Low) → out-Low e ≡ Low-F.If site test a b → Matches sites n e → Path Choices (sites site.0) (record { yes = a; no = b })
choices_of sites n e site test a b o m = subst (HasChoices sites) o (m.holds [] (record { variables = n; expr = e }) refl)

module _ (sites : Sites) (planned : Planned) (x : ℕ) (at new : Way) (env : List Part) (live : LiveAreTaken at) (given : AreThere at env) where
  pub region_built : (n : ℕ) (e : Low) (id : KernId) (ss : List Slot) (part : Part) → SourcesAre at planned.sources → AreSlotsIn (length env) planned.sources ss → out-Low e ≡ Low-F.Collapse id ss
      → BuildsWork at new planned x n (runs id.0) (slot_parts (plan_of planned) env ss) part → BuildsExpr sites at new planned x (suc n) e env part
  unfolding place Wired
  region_built n e id ss part sources slots o s =
      let p = plan_of planned in
      let ps = slot_parts (plan_of planned) env ss in
      let none = grew_none at live x env in
      behind at at new x env ps live given [] none (slot_reach sites planned x at at new env live given sources ss slots [] none) (slot_watch sites planned x at at new env live given sources ss slots [] none)
      (place_work p n (runs id.0) ps) (λ g ms. WorkStands g p x n (runs id.0) ps ms) part s (place p (suc n) e env) (StandsBy sites planned x (suc n) e env)
      (λ left. ap (place_shape p n (place p n) env (s.added ++ left)) o ∙ s.placed left)
      (λ left whole matches.
      subst (ShapeStands new.graph p x n (place p n) (Wired new.graph p x n) env (s.added ++ left)) (sym o)
      (slots_stand new planned (length env) ss (sources_stay at new planned.sources live s.grew.still sources) slots, s.stands left))

module _ (sites : Sites) (planned : Planned) (x : ℕ) (at mid new : Way) (env : List Part) (live : LiveAreTaken at) (given : AreThere at env) where
  -- a watch and its result behind a test
  module _ (n t w r : ℕ) (site : SiteId) (makes : MakesSwitch mid new w r x n (sites site.0).yes (sites site.0).no env t) (a : List ℕ) (one : Grew at mid x env a) (reach : InReach mid.graph env a t) where
    test_there : AreThere mid (signal t ∷ env)
    test_there j rd = elim rd [
      | inl e ↦ subst (λ (i : ℕ). mid.graph.live i ≡ true) e (reach_lives at mid x env a live given one t reach)
      | inr k ↦ reach_lives at mid x env a live given one j (inl (inl k))
    ]

    both_stand : (c d : Low) (left : List ℕ) → Path Choices (sites site.0) (record { yes = c; no = d }) → AreNext new.graph x n c d env t (w ∷ r ∷ left)
    both_stand c d left same = record {
      watch = record {
        there = let lt : 0 < length (w ∷ r ∷ left) = omega arith in lt;
        live = makes.watch.live;
        era = makes.watch.era;
        level = makes.watch.level;
        kind = makes.watch.kind ∙ ap (λ (o : Choices). watch o.yes o.no env) same;
        inputs = makes.watch.reads;
        later = makes.watch.later;
      };
      there = let lt : 0 < length (r ∷ left) = omega arith in lt;
      live = makes.result.live;
      era = makes.result.era;
      kind = makes.result.kind;
      result = makes.result_of;
    }

    pub pair_built : (c d : Low) → Builds mid new x (signal t ∷ env) (λ ms. by_next (rest ms)) (λ g ms. Path Choices (sites site.0) (record { yes = c; no = d }) → AreNext g x n c d env t ms) (signal r)
    pair_built c d = record {
      added = w ∷ r ∷ [];
      grew = switched mid new w r x n (sites site.0).yes (sites site.0).no env t (grew_live at mid x env a live one) test_there makes;
      reach = λ j e. let same : r ≡ j = cc in inr (subst (λ (i : ℕ). has_item (w ∷ r ∷ []) i ≡ true) same (there w r (r ∷ []) (here r [])));
      no_watch = λ none j rd. elim rd [ inl e ↦ subst (λ (i : ℕ). is_watch (new.graph.kind i) ≡ false) e (ap is_watch makes.result.kind) | inr o ↦ absurd o ];
      placed = λ left. refl;
      stands = λ left same. both_stand c d left same;
    }

  pub switch_built : (n : ℕ) (e : Low) (site : SiteId) (test a b : Low) (t w r : ℕ) → out-Low e ≡ Low-F.If site test a b → BuildsExpr sites at mid planned x n test env (signal t)
      → MakesSwitch mid new w r x n (sites site.0).yes (sites site.0).no env t → BuildsExpr sites at new planned x (suc n) e env (signal r)
  unfolding place Wired
  switch_built n e site test a b t w r o f makes =
      let p = plan_of planned in
      let tested = f.reach t refl in
      let s = pair_built n t w r site makes f.added f.grew tested a b in
      let reach : (j : ℕ) → Reads j (signal t ∷ env) → InReach mid.graph env f.added j
      = λ j rd. elim rd [ inl e ↦ subst (InReach mid.graph env f.added) e tested | inr k ↦ inl (inl k) ] in
      let watches : NamesNoWatch at.graph env → NamesNoWatch mid.graph (signal t ∷ env)
      = λ none j rd. elim rd [ inl e ↦ f.no_watch none j (inl e) | inr k ↦ env_stays at mid env live given f.grew.still none j k ] in
      behind at mid new x env (signal t ∷ env) live given f.added f.grew reach watches (λ ms. by_next (rest ms)) (λ g ms. Path Choices (sites site.0) (record { yes = a; no = b }) → AreNext g x n a b env t ms) (signal r) s
      (place p (suc n) e env) (StandsBy sites planned x (suc n) e env)
      (λ left.
      ap (place_shape p n (place p n) env (f.added ++ (s.added ++ left))) o
      ∙ ap (λ (q : Placed). place_switch (place p n) a b env q.part q.left) (f.placed (s.added ++ left)) ∙ s.placed left)
      (λ left whole matches.
      let inner = in_if (chosen_at sites) (length env) e site test a b o matches in
      subst (ShapeStands new.graph p x n (place p n) (Wired new.graph p x n) env (f.added ++ (s.added ++ left))) (sym o) (
        one_on sites planned x at mid new env live given (signal t ∷ env) n test (signal t) f reach watches s.added s.grew (s.added ++ left) whole inner.0,
        subst (λ (q : Placed). SwitchStands new.graph x n (Wired new.graph p x n) a b env q.part q.left) (sym (f.placed (s.added ++ left)))
            (s.stands left (choices_of sites (length env) e site test a b o matches)),
      ))

-- PARTS FROM LEFT TO RIGHT
pub all_snoc : (walk : Walk) (env : List Part) (es : List Low) (e : Low) (ms : List ℕ)
    → place_all walk env (es ++ e ∷ []) ms ≡ record { parts = (place_all walk env es ms).parts ++ (walk e env (place_all walk env es ms).left).part ∷ []; left = (walk e env (place_all walk env es ms).left).left }
all_snoc walk env [] e ms = refl
all_snoc walk env (k ∷ es) e ms = ap (λ (q : AllPlaced). record { parts = (walk k env ms).part ∷ q.parts; left = q.left }) (all_snoc walk env es e (walk k env ms).left)

stand_snoc : (walk : Walk) (S : Standing) (env : List Part) (es : List Low) (e : Low) (ms : List ℕ) → AllStand walk S env es ms → S e env (place_all walk env es ms).left → AllStand walk S env (es ++ e ∷ []) ms
stand_snoc walk S env [] e ms st s = (s, tt)
stand_snoc walk S env (k ∷ es) e ms st s = (st.0, stand_snoc walk S env es e (walk k env ms).left st.1 s)

pub none_built : (sites : Sites) (planned : Planned) (x : ℕ) (at : Way) (env : List Part) (n : ℕ) → LiveAreTaken at → BuildsParts sites at at planned x n [] env []
none_built sites planned x at env n live = record {
  added = [];
  grew = grew_none at live x env;
  reach = λ j r. absurd r;
  no_watch = λ none j r. absurd r;
  placed = λ left. refl;
  stands = λ left whole matches. tt;
}

module _ (sites : Sites) (planned : Planned) (x : ℕ) (at mid new : Way) (env : List Part) (live : LiveAreTaken at) (given : AreThere at env) where
  pub snoc_built : (n : ℕ) (es : List Low) (e : Low) (parts : List Part) (part : Part) → BuildsParts sites at mid planned x n es env parts → BuildsExpr sites mid new planned x n e env part
      → BuildsParts sites at new planned x n (es ++ e ∷ []) env (parts ++ part ∷ [])
  snoc_built n es e parts part f s =
      let p = plan_of planned in
      let walk : Walk = place p n in
      let a = f.added in
      let b = s.added in
      let reach = one_reach sites planned x at mid new env live given a in
      let watches = one_watch sites planned x at mid new env live given a f.grew in
      record {
        added = a ++ b;
        grew = seq at mid new x env env a b live given f.grew s.grew reach watches;
        reach = λ j r. elim (reads_append parts (part ∷ []) j r) [
          | inl l ↦ reach_wider new.graph env a (a ++ b) j (λ m h. has_append_left a b m h) (reach_on at mid new x env a live given f.grew s.grew.still a j (f.reach j l))
          | inr k ↦ scope_reach at mid new x env env a b live given f.grew s.grew reach watches b (a ++ b) j (λ m h. has_append_left a b m h) (λ m h. has_append_right a b m h) (s.reach j (reads_one part j k))
        ];
        no_watch = λ none j r. elim (reads_append parts (part ∷ []) j r) [
          | inl l ↦
              let t = reach_taken at mid new x env a live given f.grew s.grew.still a j (λ m h. h) (f.reach j l) in
              ap is_watch (s.grew.still j t).same.kind ∙ f.no_watch none j l
          | inr k ↦ s.no_watch (watches none) j k
        ];
        placed = λ left.
            subst (λ (l : List ℕ). place_all walk env (es ++ e ∷ []) l ≡ record { parts = parts ++ part ∷ []; left = left }) (sym (append_assoc a b left))
            (all_snoc walk env es e (a ++ (b ++ left))
            ∙ ap (λ (q : AllPlaced). record { parts = q.parts ++ (walk e env q.left).part ∷ []; left = (walk e env q.left).left }) (f.placed (b ++ left))
            ∙ ap (λ (q : Placed). record { parts = parts ++ q.part ∷ []; left = q.left }) (s.placed left));
        stands = λ left whole matches.
            subst (AllStand walk (Wired new.graph p x n) env (es ++ e ∷ [])) (sym (append_assoc a b left))
            (stand_snoc walk (Wired new.graph p x n) env es e (a ++ (b ++ left))
            (parts_on sites planned x at mid new env live given env n es parts f reach watches b s.grew (b ++ left) whole (each_first (chosen_at sites) (length env) es (e ∷ []) matches))
            (subst (λ (q : AllPlaced). Wired new.graph p x n e env q.left) (sym (f.placed (b ++ left))) (s.stands left whole (each_last (chosen_at sites) (length env) es e matches))));
      }
