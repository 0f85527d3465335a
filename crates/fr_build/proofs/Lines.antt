-- What the line of a work tells of the value or the node that stands for it.
use Rattle.std.proofs.Common.{◌≡◌, ℕ, ◌+◌, ◌-◌, ◌<◌, ◌≤◌, arith, IsSome, Bool, true, false, ◌&&◌, if◌then◌else◌, List, [], ◌∷◌, ◌++◌, refl, sym, ap, subst, ◌∙◌, Option, Some, None, Ok, Err}
use Rattle.std.specs.Option.{option_or}
use Rattle.std.proofs.lemmas.Bool.{false≢true}
use Rattle.fr_value.specs.declared.now.Bad.{Bad}
use Rattle.fr_value.specs.declared.now.Held.{Held}
use Rattle.fr_value.specs.declared.now.Held.TheVariants.{Steady, Signal}
use Rattle.fr_value.specs.declared.now.Now.{Now}
use Rattle.fr_value.specs.declared.now.Now.TheVariants.{Plain, Occ}
use Rattle.fr_value.specs.declared.value.Value.{Value}
use Rattle.fr_core.specs.declared.core_form.Operator.TheVariants as operator
use Rattle.fr_meaning.specs.Words.{Seen, First, own, plain}
use Rattle.fr_meaning.specs.States.{Line}
use Rattle.fr_meaning.specs.Evaluation.{refusal_first}
use Rattle.fr_kernel.specs.Answers.{kind_of}
use Rattle.fr_kernel.specs.Kernels.{Kernels}
use Rattle.fr_kernel.specs.declared.fuel.KernStop.{KernStop}
use Rattle.fr_kernel.specs.declared.fuel.KernStop.TheVariants as kern_stop
use Rattle.fr_events.specs.declared.lines.Stepped.{Stepped}
use Rattle.fr_events.specs.Steps.{line_first, Steps, StepRan}
use Rattle.fr_store.specs.declared.store.MakeStop.{MakeStop}
use Rattle.fr_store.specs.declared.store.MakeStop.TheVariants as make_stop
use Rattle.fr_graph.specs.Graph.{Part, steady, signal, Work, operates, handles, loops, runs, feeds, works, IsClean, work_line, is_plain}
use Rattle.fr_graph.specs.Known.{Reads}
use Rattle.fr_graph.specs.Walk.{Placed, by_next, by_value, all_steady, steady_values}
use Rattle.fr_graph.specs.Wired.{inputs_of, later_of, IsNext, Either}
use Rattle.fr_graph.specs.Fails.{WorkFails}
use Rattle.fr_sums.specs.Sites.{when}
use Rattle.fr_sums.specs.Spent.{build_work}
use Rattle.fr_way.specs.Way.{Way}
use Rattle.fr_way.proofs.Clear.{AreClear, clear_kernels, clear_work}
use Rattle.fr_nodes.specs.Kinds.{parts_of}
use Rattle.fr_build.specs.declared.stops.BuildStop.{BuildStop}
use Rattle.fr_build.specs.declared.stops.BuildStop.TheVariants as stop
use Rattle.fr_build.specs.Stops.{made_stop, run_stop, StopsWhere, CostsMore}
use Rattle.fr_build.specs.Ready.{Planned, plan_of, IsPlanReady, LiveAreTaken}
use Rattle.fr_build.specs.Builds.{BuildsWork, BuildsNode}
use Rattle.fr_build.specs.Works.{ArePlain, IsLineValue, IsUnclean, line_cost}
use Rattle.fr_build.proofs.Grown.{grew_none}

-- stops

pub stops_map : (s : BuildStop) (A B : Type 0) → (A → B) → StopsWhere s A → StopsWhere s B
stops_map (stop.Memory e) A B f h = tt
stops_map (stop.Bad b) A B f h = f h
stops_map stop.Fuel A B f h = tt
stops_map stop.TooMany A B f h = tt

pub made_costs : (e : MakeStop) (left : ℕ) → CostsMore (made_stop e) left 0
made_costs (make_stop.Memory e) left = tt
made_costs make_stop.TooMany left = tt

pub made_tells : (e : MakeStop) (A : Type 0) → StopsWhere (made_stop e) A
made_tells (make_stop.Memory e) A = tt
made_tells make_stop.TooMany A = tt

-- the state of an event

abbrev is_event : Seen → Bool
is_event (Ok (Occ o)) = true
is_event x = false

no_error : (b : Bad) → is_event (Err b) ≡ false
no_error b = refl

no_datum : (v : Value) → is_event (plain v) ≡ false
no_datum v = refl

held_clear : (hs : List Held) → AreClear is_event no_error no_datum (steady_values (parts_of hs))
held_clear [] = tt
held_clear (Steady v ∷ hs) = (refl, held_clear hs)
held_clear (Signal id ∷ hs) = (refl, held_clear hs)

-- a plain work over plain values gives no event
no_event : (planned : Planned) → IsPlanReady planned → (n : ℕ) (w : Work) (vs : List Seen) → ArePlain vs → is_plain w ≡ true → is_event (work_line planned.table n w None vs).value ≡ false
no_event planned ready n w vs held h =
    clear_work is_event no_error no_datum planned.table (clear_kernels is_event no_error no_datum planned.table ready.pure) n w None vs h
    (subst (AreClear is_event no_error no_datum) (sym held.2) (held_clear held.0))

never_event : (planned : Planned) → IsPlanReady planned → (n : ℕ) (w : Work) (vs : List Seen) (o : Option Value) → ArePlain vs → is_plain w ≡ true → (work_line planned.table n w None vs).value ≡ Ok (Occ o) → ⊥
never_event planned ready n w vs o held h e = false≢true (sym (no_event planned ready n w vs held h) ∙ ap is_event e)

-- a line with an error isn't clean
unclean : (l : Line) (b : Bad) → kind_of (line_first l) ≡ Some b → IsClean l → ⊥
unclean l b e clean =
    let none : line_first l ≡ None = ap (λ (f : First). option_or f (option_or (own l.value) (refusal_first l.refusal))) clean.inner
    ∙ (ap (λ (f : First). option_or f (refusal_first l.refusal)) clean.value ∙ ap refusal_first clean.refusal) in
    let wrong : Path (Option Bad) None (Some b) = sym (ap kind_of none) ∙ e in
    cc

-- what the computing of a plain work's node tells of its line

abbrev line_by : Kernels → ℕ → Work → List Seen → Line
line_by t n w vs = work_line t n w None vs

same_line : (planned : Planned) (t : Kernels) (n : ℕ) (w : Work) (vs : List Seen) → t ≡ planned.table → n ≤ 2000 → line_by t (2000 - (2000 - n)) w vs ≡ line_by planned.table n w vs
same_line planned t n w vs tables few =
    let same : 2000 - (2000 - n) ≡ n = omega arith in
    ap (λ (u : Kernels). line_by u (2000 - (2000 - n)) w vs) tables ∙ ap (λ (l : ℕ). line_by planned.table l w vs) same

pub some_work : (o : Option Work) → IsSome o → (w : Work) × (o ≡ Some w)
some_work None h = cc
some_work (Some w) h = (w, refl)

module _ (planned : Planned) (t : Kernels) (n : ℕ) (w : Work) (vs : List Seen) (tables : t ≡ planned.table) (few : n ≤ 2000) (before after : ℕ) where
  pub line_value : (s : Stepped) (v : Value) → s.value ≡ Plain v → Steps s before after (line_by t (2000 - (2000 - n)) w vs) → IsLineValue planned n w vs (steady (plain v))
  line_value s v is steps =
      let own = subst (Steps s before after) (same_line planned t n w vs tables few) steps in
      (ap steady (ap (λ (x : Now). let r : Seen = Ok x in r) (sym is) ∙ sym own.value), own.clean)

  pub line_event : (s : Stepped) (o : Option Value) → s.value ≡ Occ o → Steps s before after (line_by t (2000 - (2000 - n)) w vs) → IsPlanReady planned → ArePlain vs → is_plain w ≡ true → ⊥
  line_event s o is steps ready held h =
      let own = subst (Steps s before after) (same_line planned t n w vs tables few) steps in
      never_event planned ready n w vs o held h (own.value ∙ ap (λ (x : Now). let r : Seen = Ok x in r) is)

  pub line_stops : (e : KernStop) → StepRan (Err e) before after (line_by t (2000 - (2000 - n)) w vs) → StopsWhere (run_stop e) (IsUnclean planned n w vs)
  line_stops (kern_stop.Memory e) told = tt
  line_stops (kern_stop.Bad b) told =
      let first = subst (λ (l : Line). kind_of (line_first l) ≡ Some b) (same_line planned t n w vs tables few) told in
      unclean (line_by planned.table n w vs) b first
  line_stops kern_stop.Fuel told = tt

  pub line_paid : (s : Stepped) → Steps s before after (line_by t (2000 - (2000 - n)) w vs) → after + line_cost planned n w vs ≡ before
  line_paid s steps = (subst (Steps s before after) (same_line planned t n w vs tables few) steps).paid

  pub line_fuel : (e : KernStop) → StepRan (Err e) before after (line_by t (2000 - (2000 - n)) w vs) → CostsMore (run_stop e) before (line_cost planned n w vs)
  line_fuel (kern_stop.Memory e) told = tt
  line_fuel (kern_stop.Bad b) told = tt
  line_fuel kern_stop.Fuel told = subst (λ (l : Line). before < l.cost) (same_line planned t n w vs tables few) told

-- values and nodes

pub plain_by : (w : Work) (ps : List Part) (b : Bool) → is_plain w ≡ true → all_steady ps ≡ b → (is_plain w && all_steady ps) ≡ b
plain_by w ps b h e = ap (λ (p : Bool). p && all_steady ps) h ∙ e

pub plain_inputs : (w : Work) (ps : List Part) → is_plain w ≡ true → ps ≡ inputs_of w ps
plain_inputs (operates (operator.Prim p)) ps h = refl
plain_inputs (operates operator.MergeE) ps h = refl
plain_inputs (operates operator.Hold) ps h = refl
plain_inputs (operates operator.Changes) ps h = refl
plain_inputs (operates operator.OnceE) ps h = refl
plain_inputs (operates operator.Delay) ps h = absurd (false≢true h)
plain_inputs (operates operator.DelayE) ps h = absurd (false≢true h)
plain_inputs (handles f id) ps h = refl
plain_inputs (loops l id) ps h = refl
plain_inputs (runs id) ps h = refl
plain_inputs feeds ps h = refl

pub plain_later : (w : Work) (ps : List Part) → is_plain w ≡ true → None ≡ later_of w ps
plain_later (operates (operator.Prim p)) ps h = refl
plain_later (operates operator.MergeE) ps h = refl
plain_later (operates operator.Hold) ps h = refl
plain_later (operates operator.Changes) ps h = refl
plain_later (operates operator.OnceE) ps h = refl
plain_later (operates operator.Delay) ps h = absurd (false≢true h)
plain_later (operates operator.DelayE) ps h = absurd (false≢true h)
plain_later (handles f id) ps h = refl
plain_later (loops l id) ps h = refl
plain_later (runs id) ps h = refl
plain_later feeds ps h = refl

no_signal : (v : Seen) (j : ℕ) → steady v ≡ signal j → ⊥
no_signal v j e = cc

-- the value of a plain work over steady parts stands for it
pub builds_value : (at : Way) (planned : Planned) (x n : ℕ) (w : Work) (ps : List Part) (p : Part) → LiveAreTaken at → is_plain w ≡ true → all_steady ps ≡ true → IsLineValue planned n w (steady_values ps) p
    → BuildsWork at at planned x n w ps p
builds_value at planned x n w ps p taken h all is =
    let line = work_line planned.table n w None (steady_values ps) in
    let both = plain_by w ps true h all in
    record {
      added = [];
      grew = grew_none at taken x ps;
      reach = λ j e. absurd (no_signal line.value j (sym is.0 ∙ e));
      no_watch = λ none j r. absurd (subst (λ (q : Part). Reads j (q ∷ [])) is.0 r);
      placed = λ left. subst (λ (b : Bool). (if b then by_value line.value left else by_next left) ≡ record { part = p; left = left }) (sym both)
          (ap (λ (q : Part). let r : Placed = record { part = q; left = left } in r) (sym is.0));
      stands = λ left. subst (λ (b : Bool). Either b (IsClean line) (IsNext at.graph x n (works w) (inputs_of w ps) (later_of w ps) left)) (sym both) is.1;
    }

-- the node of a work stands for it, unless it is plain and over steady parts
pub builds_node : (at new : Way) (planned : Planned) (x n : ℕ) (w : Work) (ps env inputs : List Part) (later : Option Part) (p : Part) → (is_plain w && all_steady ps) ≡ false → env ≡ ps → inputs ≡ inputs_of w ps → later ≡ later_of w ps
    → BuildsNode at new x n (works w) env inputs later p → BuildsWork at new planned x n w ps p
builds_node at new planned x n w ps env inputs later p both scope reads ties made =
    let line = work_line planned.table n w None (steady_values ps) in
    let b = subst (λ (i : List Part). BuildsNode at new x n (works w) ps i (later_of w ps) p) reads
    (subst (λ (o : Option Part). BuildsNode at new x n (works w) ps inputs o p) ties
    (subst (λ (e : List Part). BuildsNode at new x n (works w) e inputs later p) scope made)) in
    record {
      added = b.added;
      grew = b.grew;
      reach = b.reach;
      no_watch = b.no_watch;
      placed = λ left. subst (λ (c : Bool). (if c then by_value line.value (b.added ++ left) else by_next (b.added ++ left)) ≡ record { part = p; left = left }) (sym both) (b.placed left);
      stands = λ left. subst (λ (c : Bool). Either c (IsClean line) (IsNext new.graph x n (works w) (inputs_of w ps) (later_of w ps) (b.added ++ left))) (sym both) (b.stands left);
    }

-- a plain work over steady parts whose line isn't clean fails
pub value_fails : (planned : Planned) (n : ℕ) (w : Work) (ps : List Part) → is_plain w ≡ true → all_steady ps ≡ true → IsUnclean planned n w (steady_values ps) → WorkFails (plan_of planned) n w ps
value_fails planned n w ps h all unclean =
    subst (λ (b : Bool). Either b (IsClean (work_line planned.table n w None (steady_values ps)) → ⊥) ⊥) (sym (plain_by w ps true h all)) unclean

-- what building a work costs

pub value_cost : (planned : Planned) (n : ℕ) (w : Work) (ps : List Part) (vs : List Seen) → is_plain w ≡ true → all_steady ps ≡ true → vs ≡ steady_values ps → line_cost planned n w vs ≡ build_work (plan_of planned) n w ps
value_cost planned n w ps vs h all same =
    ap (λ (us : List Seen). line_cost planned n w us) same
    ∙ ap (λ (b : Bool). when b (line_cost planned n w (steady_values ps))) (sym (plain_by w ps true h all))

pub node_cost : (planned : Planned) (n : ℕ) (w : Work) (ps : List Part) → (is_plain w && all_steady ps) ≡ false → build_work (plan_of planned) n w ps ≡ 0
node_cost planned n w ps varies = ap (λ (b : Bool). when b (line_cost planned n w (steady_values ps))) varies
