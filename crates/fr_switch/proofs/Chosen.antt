-- What was built for a choice is what a turning asks for.
use Rattle.std.proofs.Common.{◌≡◌, inl, inr, ℕ, suc, Bool, true, false, if◌then◌else◌, List, [], ◌++◌, length, refl, ap, sym, ◌∙◌, subst}
use Rattle.std.proofs.lemmas.List.{length-map}
use Rattle.fr_value.specs.declared.ids.NodeId.{NodeId}
use Rattle.fr_value.specs.declared.now.Held.{Held}
use Rattle.fr_core.specs.declared.lowered.Low.{Low}
use Rattle.fr_graph.specs.Graph.{Part}
use Rattle.fr_graph.specs.Fails.{Fails}
use Rattle.fr_way.specs.Frame.{is_watch}
use Rattle.fr_way.specs.Way.{Way}
use Rattle.fr_way.specs.Turns.{IsNew, IsClear, Grows}
use Rattle.fr_nodes.specs.Kinds.{Choices, Sites, part_of, parts_of}
use Rattle.fr_nodes.specs.Listed.{ListsLate}
use Rattle.fr_nodes.specs.Signals.{IsSound}
use Rattle.fr_build.specs.declared.stops.BuildStop.{BuildStop}
use Rattle.fr_build.specs.declared.stops.BuildStop.TheVariants as build_stop
use Rattle.fr_build.specs.Stops.{StopsWhere as BuildStopsWhere}
use Rattle.fr_build.specs.Builds.{BuildsExpr, CanBuild, FailsBehind}
use Rattle.fr_build.specs.Ready.{Planned, plan_of, IsGround, IsPlanReady, IsReady, Matches, PlanMatches}
use Rattle.fr_build.proofs.Choice.{choice_grows, choice_part}
use Rattle.fr_engine.specs.Choices.{ChoiceFails, Chooses}
use Rattle.fr_engine.specs.Moment.{HaveSources}
use Rattle.fr_engine.specs.Stops.{StopsWhere}
use Rattle.fr_engine.specs.declared.stops.RunStop.{RunStop}
use Rattle.fr_engine.specs.declared.stops.RunStop.TheVariants as stop
use Rattle.fr_switch.specs.Fit.{IsBuildable, IsFit}
use Rattle.fr_ready.specs.Switches.{Found, sites_by}
use Rattle.fr_switch.specs.Program.{Program, IsWhole}
use Rattle.fr_switch.specs.Stops.{stop_of}
use Rattle.fr_switch.proofs.Fit.{expression_fits}

-- as many parts as are held
pub parts_long : (held : List Held) → length (parts_of held) ≡ length held
parts_long held = length-map held part_of

-- building may start
pub ground_of : (way : Sites → Way) (has_era : ℕ → Bool) (own : Sites) (w : ℕ) (env : List Part) (many : ℕ) → IsSound way → has_era (suc w) ≡ true → IsClear (way own) w env → HaveSources (way own).graph many
    → IsGround way has_era (suc w) env many
ground_of way has_era own w env many sound era clear fed = record {
  era = era;
  taken = λ s m lv. sound.taken s m lv;
  scope = λ s j r. (sound.alike own s).live j ∙ clear.scope j r;
  sources = λ s i lt.
      let there = fed i lt in
      ((sound.alike own s).live i ∙ there.0, (sound.alike own s).kinds i (ap is_watch there.1) ∙ there.1);
}

can_build : (at : Way) (w : ℕ) (env : List Part) → IsClear at w env → CanBuild at w (at.height w) env
can_build at w env clear = record {
  taken = clear.taken;
  idle = clear.queue;
  owner = clear.taken w clear.owner;
  height = refl;
  empty = clear.empty;
  results = clear.results;
  no_watch = clear.no_watch;
}

-- the one or the other can be built
pub chosen_ready : (planned : Planned) (sites : Sites) (b : Bool) (y n : Low) (scope : List Part) → IsBuildable planned sites y n scope → IsReady planned (length scope) (if b then y else n)
chosen_ready planned sites true y n scope h = h.yes
chosen_ready planned sites false y n scope h = h.no

pub chosen_matches : (planned : Planned) (sites : Sites) (b : Bool) (y n : Low) (scope : List Part) → IsBuildable planned sites y n scope → Matches sites (length scope) (if b then y else n)
chosen_matches planned sites true y n scope h = h.yes_matches
chosen_matches planned sites false y n scope h = h.no_matches

-- WHAT WAS BUILT IS CHOSEN: it grew as a turning asks for, each of its nodes is fit, and its late works were listed
pub chooses : (planned : Planned) (sites : Sites) (at new : Way) (w n : ℕ) (e : Low) (env : List Part) (part : Part) (listed more : List NodeId) → IsPlanReady planned → PlanMatches sites planned
    → IsReady planned (length env) e → Matches sites (length env) e → IsClear at w env → BuildsExpr sites at new planned (suc w) n e env part → ListsLate new.graph (suc w) listed more
    → Chooses (λ a b scope. IsBuildable planned sites a b scope) (plan_of planned) at new w n e env part listed more
chooses planned sites at new w n e env part listed more plan whole ready matches clear built lists = record {
  grows = grows;
  stands_for = choice_part sites planned at new w (at.height w) n e env part can whole matches built;
  kernels = λ m v born k. (fit m born).kernel v k;
  tests = λ m born k. (fit m born).test k;
  fits = λ m a b scope born k. (fit m born).choices a b scope k;
  kept = lists.kept;
  late = λ m v born k late. lists.late m (record { member = grows.built.joined m born; work = v; kind = k; late = late });
  only = λ m named. elim (lists.only m named) [
    | inl o ↦ inl o
    | inr i ↦ inr (grows.built.only m i.member)
  ];
}
  where
    can : CanBuild at w (at.height w) env
    can = can_build at w env clear

    grows : Grows at new (plan_of planned) (suc w) (at.height w) n e env
    grows = choice_grows sites planned at new w (at.height w) n e env part can whole matches built

    fit : (m : ℕ) → IsNew at.graph new.graph m → IsFit planned sites new.graph m
    fit m born = expression_fits planned sites new.graph (suc w) n e env (new.graph.members (suc w)) m plan whole ready matches grows.wired grows.all (grows.built.joined m born)

-- why building stopped

pub run_stops : (s : BuildStop) (A : Type 0) → BuildStopsWhere s A → StopsWhere (stop_of s) A
run_stops (build_stop.Memory e) A h = tt
run_stops (build_stop.Bad b) A h = h
run_stops build_stop.Fuel A h = tt
run_stops build_stop.TooMany A h = tt

choice_stop_of : (s : RunStop) (A B : Type 0) → (A → B) → StopsWhere s A → StopsWhere s B
choice_stop_of (stop.Memory e) A B f h = tt
choice_stop_of (stop.Bad b) A B f h = f h
choice_stop_of stop.Fuel A B f h = tt
choice_stop_of stop.TooMany A B f h = tt

pub choice_stops : (planned : Planned) (s : RunStop) (n : ℕ) (e : Low) (env : List Part) → StopsWhere s (FailsBehind (Fails (plan_of planned) n e env)) → StopsWhere s (ChoiceFails (plan_of planned) n e env)
choice_stops planned s n e env h = choice_stop_of s (FailsBehind (Fails (plan_of planned) n e env)) (ChoiceFails (plan_of planned) n e env) (λ f. (f.0 ++ [], f.1 [])) h

-- THE CALL: what it is made of, as contracts see the program
module _ (self : Program) (planned : Planned) (found : Found) (view : Path Program (record { planned = planned; found = found }) self) where
  abbrev own : Sites
  own = sites_by self.found

  pub grounds : (way : Sites → Way) (has_era : ℕ → Bool) (w x : ℕ) (held env : List Held) → IsSound way → x ≡ suc w → has_era x ≡ true → IsClear (way own) w (parts_of held) → HaveSources (way own).graph self.planned.sources
      → env ≡ held → IsGround way has_era x (parts_of env) planned.sources
  grounds way has_era w x held env sound number era clear fed same =
      let base = ground_of way has_era own w (parts_of held) self.planned.sources sound (sym (ap has_era number) ∙ era) clear fed in
      let over = subst (λ (l : List Held). IsGround way has_era (suc w) (parts_of l) self.planned.sources) (sym same) base in
      let within = subst (λ (y : ℕ). IsGround way has_era y (parts_of env) self.planned.sources) (sym number) over in
      subst (λ (q : Program). IsGround way has_era x (parts_of env) q.planned.sources) (sym view) within

  -- the choice that a key chooses
  abbrev pub choice : ℕ → Bool → Low
  choice site b = if b then (own site).yes else (own site).no

  pub choice_is : (site : ℕ) (b : Bool) (c : Choices) (e : Low) → c ≡ sites_by found site → e ≡ (if b then c.yes else c.no) → e ≡ choice site b
  choice_is site b c e read is = is ∙ ap (λ (k : Choices). if b then k.yes else k.no) (read ∙ ap (λ (q : Program). sites_by q.found site) view)

  pub chooses_by : (at new : Way) (w x n site : ℕ) (b : Bool) (e : Low) (held env : List Held) (part : Held) (listed more : List NodeId) → IsWhole planned found
      → IsBuildable self.planned own (own site).yes (own site).no (parts_of held) → IsClear at w (parts_of held) → x ≡ suc w → env ≡ held → e ≡ choice site b → BuildsExpr own at new planned x n e (parts_of env) (part_of part)
      → ListsLate new.graph x listed more → Chooses (λ a b scope. IsBuildable self.planned own a b scope) (plan_of self.planned) at new w n (choice site b) (parts_of held) (part_of part) listed more
  chooses_by at new w x n site b e held env part listed more sound fits clear number same is built lists =
      let whole = subst (λ (q : Program). IsWhole q.planned q.found) view sound in
      let planned_built = subst (λ (q : Program). BuildsExpr own at new q.planned x n e (parts_of env) (part_of part)) view built in
      let era_built = subst (λ (y : ℕ). BuildsExpr own at new self.planned y n e (parts_of env) (part_of part)) number planned_built in
      let held_built = subst (λ (l : List Held). BuildsExpr own at new self.planned (suc w) n e (parts_of l) (part_of part)) same era_built in
      let choice_built = subst (λ (f : Low). BuildsExpr own at new self.planned (suc w) n f (parts_of held) (part_of part)) is held_built in
      chooses self.planned own at new w n (choice site b) (parts_of held) (part_of part) listed more whole.ready whole.matches (chosen_ready self.planned own b (own site).yes (own site).no (parts_of held) fits)
      (chosen_matches self.planned own b (own site).yes (own site).no (parts_of held) fits) clear choice_built (subst (λ (y : ℕ). ListsLate new.graph y listed more) number lists)

  pub stops_by : (s : RunStop) (n site : ℕ) (b : Bool) (e : Low) (held env : List Held) → env ≡ held → e ≡ choice site b → StopsWhere s (FailsBehind (Fails (plan_of planned) n e (parts_of env)))
      → StopsWhere s (ChoiceFails (plan_of self.planned) n (choice site b) (parts_of held))
  stops_by s n site b e held env same is stops =
      let planned_stops = subst (λ (q : Program). StopsWhere s (FailsBehind (Fails (plan_of q.planned) n e (parts_of env)))) view stops in
      let held_stops = subst (λ (l : List Held). StopsWhere s (FailsBehind (Fails (plan_of self.planned) n e (parts_of l)))) same planned_stops in
      let choice_stopped = subst (λ (f : Low). StopsWhere s (FailsBehind (Fails (plan_of self.planned) n f (parts_of held)))) is held_stops in
      choice_stops self.planned s n (choice site b) (parts_of held) choice_stopped
