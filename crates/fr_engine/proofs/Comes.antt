-- What follows from a node's rule.
use Rattle.std.proofs.Common.{◌≡◌, ◌≢◌, inl, inr, ℕ, ◌-◌, ◌<◌, Bool, true, false, List, [], ◌∷◌, refl, sym, ap, ◌∙◌, subst, arith, Option, Some, None, Result, Ok, Err, slice_get, if◌then◌else◌, IfOk, MatchResult}
use Rattle.std.specs.Option.{option_map, option_or}
use Rattle.std.specs.declared.alloc.AllocError.{AllocError}
use Rattle.fr_value.specs.declared.now.Now.{Now}
use Rattle.fr_value.specs.declared.now.Bad.{Bad}
use Rattle.fr_core.specs.declared.lowered.Low.{Low}
use Rattle.fr_core.specs.declared.lowered.LowItem.{LowItem}
use Rattle.fr_meaning.specs.Words.{Seen, First, own, test_of}
use Rattle.fr_meaning.specs.Cells.{Cell}
use Rattle.fr_meaning.specs.States.{Line}
use Rattle.fr_meaning.specs.Evaluation.{refusal_first, most_levels}
use Rattle.fr_kernel.specs.Kernels.{Kernels}
use Rattle.fr_kernel.specs.Answers.{kind_of, IsWant}
use Rattle.fr_kernel.specs.declared.fuel.KernStop.{KernStop}
use Rattle.fr_kernel.specs.declared.fuel.KernStop.TheVariants as stop
use Rattle.fr_store.specs.declared.cell.Cell.{Cell as StoredCell}
use Rattle.fr_store.specs.declared.node.Node.{Node}
use Rattle.fr_store.specs.declared.node.NodeKind.{NodeKind}
use Rattle.fr_store.specs.declared.node.NodeKind.TheVariants as node
use Rattle.fr_graph.specs.Graph.{Part, steady, signal, Work, Kind, source, works, watch, result, Graph, part_value, part_values, IsClean, work_line, is_late}
use Rattle.fr_graph.specs.Known.{Reads, Rule}
use Rattle.fr_graph.specs.Walk.{Plan}
use Rattle.fr_graph.specs.Front.{Errs}
use Rattle.fr_events.specs.Works.{work_of, cell_of}
use Rattle.fr_events.specs.Steps.{line_first, Steps, StepRan}
use Rattle.fr_events.specs.declared.lines.Stepped.{Stepped}
use Rattle.fr_way.specs.Frame.{is_watch}
use Rattle.fr_way.specs.Way.{Way, cell_in, AreUnderWay, UnderWay}
use Rattle.fr_way.specs.Fronts.{ErrsAt, stands_below}
use Rattle.fr_nodes.specs.Kinds.{Sites, kind_of as kind_at, parts_of}
use Rattle.fr_nodes.specs.Signals.{IsNodeOf}
use Rattle.fr_engine.specs.declared.computing.Role.TheVariants as role
use Rattle.fr_engine.specs.Rules.{role_of, KeepsCell, GivesLine, IsKey, only_of, GivesTold, GivesPassed, Gives, Refuses, rule_cost, PaysLine, WorkComes, WatchComes, Comes, ComesOr, Computed, ComputedOr}
use Rattle.fr_engine.proofs.Cases.{by_bool, no_both}

-- where only the value of a node differs, parts that don't read it have the values that they had
pub values_on : (g h : Graph) (m : ℕ) → ((j : ℕ) → j ≢ m → h.value j ≡ g.value j) → (ps : List Part) → (Reads m ps → ⊥) → part_values h ps ≡ part_values g ps
values_on g h m same [] n = refl
values_on g h m same (steady v ∷ ps) n = ap (λ (vs : List Seen). v ∷ vs) (values_on g h m same ps n)
values_on g h m same (signal j ∷ ps) n =
    ap (λ (v : Seen). v ∷ part_values h ps) (same j (λ e. n (inl e))) ∙ ap (λ (vs : List Seen). g.value j ∷ vs) (values_on g h m same ps (λ r. n (inr r)))

pub value_on : (g h : Graph) (m : ℕ) → ((j : ℕ) → j ≢ m → h.value j ≡ g.value j) → (q : Part) → (Reads m (q ∷ []) → ⊥) → part_value h q ≡ part_value g q
value_on g h m same (steady v) n = refl
value_on g h m same (signal j) n = same j (λ e. n (inl e))

module _ (g h : Graph) (t : Kernels) (sources : List Now) (cells : ℕ → Option Cell) (m : ℕ) (now : Now) (next : Option Cell)
    (here : h.value m ≡ Ok now) (cell : h.cell m ≡ next) (level : h.level m ≡ g.level m) (same : (j : ℕ) → j ≢ m → h.value j ≡ g.value j) (kept : cells m ≡ g.cell m) where
  rule_line : (w : Work) (ins : List Part) → (Reads m ins → ⊥) → work_line t (h.level m) w (cells m) (part_values h ins) ≡ work_line t (g.level m) w (g.cell m) (part_values g ins)
  rule_line w ins n =
      ap (λ (l : ℕ). work_line t l w (cells m) (part_values h ins)) level
      ∙ ap (λ (o : Option Cell). work_line t (g.level m) w o (part_values h ins)) kept
      ∙ ap (λ (vs : List Seen). work_line t (g.level m) w (g.cell m) vs) (values_on g h m same ins n)

  -- a node's rule holds once what it gives is written
  rule_holds : (k : Kind) (ins : List Part) → (Reads m ins → ⊥) → Gives g t sources m k ins now next → Rule h t sources cells m k ins
  rule_holds (source s) ins n gv = record { now = now; there = gv; value = here }
  rule_holds (works w) ins n gv = record {
    value = here ∙ sym gv.value ∙ ap (λ (l : Line). l.value) (sym (rule_line w ins n));
    clean = subst (λ (l : Line). IsClean l) (sym (rule_line w ins n)) gv.clean;
    cell = λ late. cell ∙ gv.follows late ∙ ap (λ (l : Line). l.next) (sym (rule_line w ins n));
  }
  rule_holds (watch a b env) [] n gv = tt
  rule_holds (watch a b env) (q ∷ []) n gv = record {
    holds = gv.holds;
    value = ap test_of here ∙ gv.told;
    test = ap test_of (value_on g h m same q n) ∙ gv.test;
  }
  rule_holds (watch a b env) (q ∷ r ∷ ps) n gv = tt
  rule_holds result [] n gv = tt
  rule_holds result (q ∷ []) n gv = here ∙ sym gv ∙ sym (value_on g h m same q n)
  rule_holds result (q ∷ r ∷ ps) n gv = tt

key_of_told : (g : Graph) (q : Option Part) (now : Now) → GivesTold g q now → IsKey now
key_of_told g None now k = k
key_of_told g (Some q) now k = record { holds = k.holds; told = k.told }

key_of_kind : (g : Graph) (t : Kernels) (sources : List Now) (m : ℕ) (now : Now) (next : Option Cell) (k : Kind) (ins : List Part) → Gives g t sources m k ins now next → is_watch k ≡ true → IsKey now
key_of_kind g t sources m now next (source s) ins gv w = absurd cc
key_of_kind g t sources m now next (works v) ins gv w = absurd cc
key_of_kind g t sources m now next (watch a b env) ins gv w = key_of_told g (only_of ins) now gv
key_of_kind g t sources m now next result ins gv w = absurd cc

-- what follows from a node's rule is what it has come to
computed_of : (s : Stepped) (before after : ℕ) (t : Kernels) (sources : List Now) (at : Way) (m : ℕ)
    → Comes s before after at.graph t sources m (at.graph.kind m) (at.graph.inputs m) → Computed s before after t sources at m
computed_of s before after t sources at m cm =
    let g = at.graph in
    let next : Option Cell = option_map cell_of s.cell in
    record {
      obeys = λ cells kept n new wr.
          let held : Rule new.graph t sources cells m (g.kind m) (g.inputs m)
          = rule_holds g new.graph t sources cells m s.value next wr.value_here wr.cell_here (wr.shape.level m) wr.value kept (g.kind m) (g.inputs m) n cm.gives in
          subst (λ (k : Kind). Rule new.graph t sources cells m k (new.graph.inputs m)) (sym (wr.shape.kind m))
          (subst (λ (ins : List Part). Rule new.graph t sources cells m (g.kind m) ins) (sym (wr.shape.inputs m)) held);
      late = λ w e late.
          let gv : GivesLine (work_line t (g.level m) w (g.cell m) (part_values g (g.inputs m))) w (g.cell m) s.value next
          = subst (λ (k : Kind). Gives g t sources m k (g.inputs m) s.value next) e cm.gives in
          gv.stays late;
      key = λ e. key_of_kind g t sources m s.value next (g.kind m) (g.inputs m) cm.gives e;
      paid = cm.paid;
    }

pub computed_or : (r : Result Stepped KernStop) (before after : ℕ) (t : Kernels) (sources : List Now) (at : Way) (m : ℕ)
    → ComesOr r before after at.graph t sources m (at.graph.kind m) (at.graph.inputs m) → ComputedOr r before after t sources at m
computed_or (Ok s) before after t sources at m cm = computed_of s before after t sources at m cm
computed_or (Err (stop.Memory e)) before after t sources at m cm = tt
computed_or (Err (stop.Bad b)) before after t sources at m cm = cm
computed_or (Err stop.Fuel) before after t sources at m cm = cm

-- a clean line has no first error
clean_first : (l : Line) → IsClean l → line_first l ≡ None
clean_first l c = ap (λ (i : First). option_or i (option_or (own l.value) (refusal_first l.refusal))) c.inner
    ∙ ap (λ (v : First). option_or v (refusal_first l.refusal)) c.value
    ∙ ap (λ (x : Option Bad). refusal_first x) c.refusal

not_clean : (l : Line) (b : Bad) → kind_of (line_first l) ≡ Some b → IsClean l → ⊥
not_clean l b e c = let f : kind_of (line_first l) ≡ None = ap kind_of (clean_first l c) in cc

-- a step gives what a work comes to, with the cell that a late one keeps
steps_comes : (late : Bool) (before : Option StoredCell) (s : Stepped) (w : Work) (had left : ℕ) (l : Line) → late ≡ is_late w → Steps s had left l
    → PaysLine (record { value = s.value; cell = if late then before else s.cell }) had left w (option_map cell_of before) l
steps_comes true before s w had left l e st = record {
  gives = record { value = st.value; clean = st.clean; follows = λ n. absurd (no_both (is_late w) (sym e) n); stays = λ y. refl };
  paid = st.paid;
}
steps_comes false before s w had left l e st = record {
  gives = record { value = st.value; clean = st.clean; follows = λ n. sym st.next; stays = λ y. absurd (no_both (is_late w) y (sym e)) };
  paid = st.paid;
}

work_stops : (e : KernStop) (before after : ℕ) (w : Work) (kept : Option Cell) (l : Line) → StepRan (Err e) before after l → WorkComes (Err e) before after w kept l
work_stops (stop.Memory e) before after w kept l r = tt
work_stops (stop.Bad b) before after w kept l r = not_clean l b r
work_stops stop.Fuel before after w kept l r = r

pub work_ran : (late : Bool) (before : Option StoredCell) (stepped r : Result Stepped KernStop) (w : Work) (had left : ℕ) (l : Line)
    → late ≡ is_late w → KeepsCell late before stepped r → StepRan stepped had left l → WorkComes r had left w (option_map cell_of before) l
work_ran late before (Ok s) r w had left l e k st =
    subst (λ (v : Result Stepped KernStop). WorkComes v had left w (option_map cell_of before) l) (sym k) (steps_comes late before s w had left l e st)
work_ran late before (Err stopped) r w had left l e k st =
    subst (λ (v : Result Stepped KernStop). WorkComes v had left w (option_map cell_of before) l) (sym k) (work_stops stopped had left w (option_map cell_of before) l st)

-- the same over the cell and the values that the node has
pub work_ran_over : (late : Bool) (lent before cell : Option StoredCell) (xs vs : List Seen) (t : Kernels) (n : ℕ) (stepped r : Result Stepped KernStop) (w : Work) (had left : ℕ)
    → late ≡ is_late w → lent ≡ before → before ≡ cell → xs ≡ vs → KeepsCell late before stepped r
    → StepRan stepped had left (work_line t n w (option_map cell_of lent) xs) → WorkComes r had left w (option_map cell_of cell) (work_line t n w (option_map cell_of cell) vs)
work_ran_over late lent before cell xs vs t n stepped r w had left e a b x k st =
    subst (λ (o : Option StoredCell). WorkComes r had left w (option_map cell_of o) (work_line t n w (option_map cell_of o) vs)) b
    (subst (λ (ys : List Seen). WorkComes r had left w (option_map cell_of before) (work_line t n w (option_map cell_of before) ys)) x
    (work_ran late before stepped r w had left (work_line t n w (option_map cell_of before) xs) e k
    (subst (λ (o : Option StoredCell). StepRan stepped had left (work_line t n w (option_map cell_of o) xs)) a st)))

-- kinds by what a node is for
pub kind_fed : (sites : Sites) (m : ℕ) (k : NodeKind) → role_of k ≡ role.Fed → kind_at sites m k ≡ source m
kind_fed sites m node.Now e = refl
kind_fed sites m node.Input e = refl
kind_fed sites m node.Event e = refl
kind_fed sites m k e = absurd cc

pub kind_worked : (sites : Sites) (m : ℕ) (k : NodeKind) → role_of k ≡ role.Worked → (w : Work) × (work_of k ≡ Some w) × (kind_at sites m k ≡ works w)
kind_worked sites m node.Now e = absurd cc
kind_worked sites m node.Input e = absurd cc
kind_worked sites m node.Event e = absurd cc
kind_worked sites m (node.IfWatch site held) e = absurd cc
kind_worked sites m node.Result e = absurd cc
kind_worked sites m k e = (_, refl, refl)

pub kind_watched : (sites : Sites) (m : ℕ) (k : NodeKind) → role_of k ≡ role.Watched → (a : Low) × (b : Low) × (env : List Part) × (kind_at sites m k ≡ watch a b env)
kind_watched sites m (node.IfWatch site held) e = ((sites site.0).yes, (sites site.0).no, parts_of held, refl)
kind_watched sites m k e = absurd cc

pub kind_passed : (sites : Sites) (m : ℕ) (k : NodeKind) → role_of k ≡ role.Passed → kind_at sites m k ≡ result
kind_passed sites m node.Result e = refl
kind_passed sites m k e = absurd cc

-- each arm of a node's computing
pub alone_gives : (value : Result Now AllocError) (r : Result Stepped KernStop) (P : Now → Type 0)
    → IfOk value P → MatchResult r (λ (s : Stepped). value ≡ Ok s.value) IsWant → MatchResult r (λ (s : Stepped). P s.value) IsWant
alone_gives value (Ok s) P p h = subst (λ (v : Result Now AllocError). IfOk v P) h p
alone_gives value (Err e) P p h = h

pub alone_at : (r : Result Stepped KernStop) (P : Sites → Now → Type 0) → MatchResult r (λ (s : Stepped). (sites : Sites) → P sites s.value) IsWant
    → (sites : Sites) → MatchResult r (λ (s : Stepped). P sites s.value) IsWant
alone_at (Ok s) P h sites = h sites
alone_at (Err e) P h sites = h

want_tells : (e : KernStop) (left : ℕ) (g : Graph) (t : Kernels) (sources : List Now) (m : ℕ) (k : Kind) (ins : List Part) → IsWant e → ComesOr (Err e) left left g t sources m k ins
want_tells (stop.Memory e) left g t sources m k ins h = tt
want_tells (stop.Bad b) left g t sources m k ins h = absurd h
want_tells stop.Fuel left g t sources m k ins h = absurd h

pub fed_comes : (r : Result Stepped KernStop) (left : ℕ) (g : Graph) (t : Kernels) (sources : List Now) (m : ℕ) (k : Kind) (ins : List Part) → k ≡ source m
    → MatchResult r (λ (s : Stepped). slice_get sources m ≡ Some s.value) IsWant → ComesOr r left left g t sources m k ins
fed_comes (Ok s) left g t sources m k ins e h =
    subst (λ (i : Kind). Comes s left left g t sources m i ins) (sym e)
    (let there : Comes s left left g t sources m (source m) ins = record { gives = h; paid = omega arith } in there)
fed_comes (Err e) left g t sources m k ins _ h = want_tells e left g t sources m k ins h

pub passed_comes : (r : Result Stepped KernStop) (left : ℕ) (g : Graph) (t : Kernels) (sources : List Now) (m : ℕ) (k : Kind) (ins : List Part) → k ≡ result
    → MatchResult r (λ (s : Stepped). GivesPassed g (only_of ins) s.value) IsWant → ComesOr r left left g t sources m k ins
passed_comes (Ok s) left g t sources m k ins e h =
    subst (λ (i : Kind). Comes s left left g t sources m i ins) (sym e)
    (let there : Comes s left left g t sources m result ins = record { gives = h; paid = omega arith } in there)
passed_comes (Err e) left g t sources m k ins _ h = want_tells e left g t sources m k ins h

pub watched_comes : (r : Result Stepped KernStop) (left : ℕ) (g : Graph) (t : Kernels) (sources : List Now) (m : ℕ) (k : Kind) (a b : Low) (env : List Part) (ins : List Part)
    → k ≡ watch a b env → WatchComes r g (only_of ins) → ComesOr r left left g t sources m k ins
watched_comes (Ok s) left g t sources m k a b env ins e h =
    subst (λ (i : Kind). Comes s left left g t sources m i ins) (sym e)
    (let there : Comes s left left g t sources m (watch a b env) ins = record { gives = h; paid = omega arith } in there)
watched_comes (Err (stop.Memory e)) left g t sources m k a b env ins _ h = tt
watched_comes (Err (stop.Bad bad)) left g t sources m k a b env ins e h = subst (λ (i : Kind). Refuses g t m i ins) (sym e) h
watched_comes (Err stop.Fuel) left g t sources m k a b env ins e h = absurd h

pub worked_comes : (r : Result Stepped KernStop) (before after : ℕ) (g : Graph) (t : Kernels) (sources : List Now) (m : ℕ) (k : Kind) (w : Work) (ins : List Part)
    → k ≡ works w → WorkComes r before after w (g.cell m) (work_line t (g.level m) w (g.cell m) (part_values g ins)) → ComesOr r before after g t sources m k ins
worked_comes (Ok s) before after g t sources m k w ins e h =
    subst (λ (i : Kind). Comes s before after g t sources m i ins) (sym e)
    (let there : Comes s before after g t sources m (works w) ins = record { gives = h.gives; paid = h.paid } in there)
worked_comes (Err (stop.Memory e)) before after g t sources m k w ins _ h = tt
worked_comes (Err (stop.Bad b)) before after g t sources m k w ins e h = subst (λ (i : Kind). Refuses g t m i ins) (sym e) h
worked_comes (Err stop.Fuel) before after g t sources m k w ins e h = subst (λ (i : Kind). before < rule_cost g t m i ins) (sym e) h

-- a work's line by its stored node is that of the graph
pub line_of_node : (r : Result Stepped KernStop) (before after : ℕ) (sites : Sites) (at : Way) (t : Kernels) (m : ℕ) (n : Node) (w : Work) → IsNodeOf sites at m n
    → WorkComes r before after w (option_map cell_of n.cell) (work_line t (most_levels - n.nest) w (option_map cell_of n.cell) (part_values at.graph (parts_of n.inputs)))
    → WorkComes r before after w (at.graph.cell m) (work_line t (at.graph.level m) w (at.graph.cell m) (part_values at.graph (at.graph.inputs m)))
line_of_node r before after sites at t m n w nd h =
    subst (λ (o : Option Cell). WorkComes r before after w o (work_line t (at.graph.level m) w o (part_values at.graph (at.graph.inputs m)))) (sym nd.cell)
    (subst (λ (l : ℕ). WorkComes r before after w (option_map cell_of n.cell) (work_line t l w (option_map cell_of n.cell) (part_values at.graph (at.graph.inputs m)))) (sym nd.level)
    (subst (λ (ins : List Part). WorkComes r before after w (option_map cell_of n.cell) (work_line t (most_levels - n.nest) w (option_map cell_of n.cell) (part_values at.graph ins))) (sym nd.inputs) h))

-- an instant under way: a node that isn't computed has the cell that it had before
cell_live : (old : Graph) (m : ℕ) → old.live m ≡ true → cell_in old m ≡ old.cell m
cell_live old m e = ap (λ (b : Bool). if b then old.cell m else None) e

cell_further : (old : Graph) (m : ℕ) → old.live m ≡ false → cell_in old m ≡ None
cell_further old m e = ap (λ (b : Bool). if b then old.cell m else None) e

pub cell_before : (p : Plan) (sources : List Now) (old : Graph) (at : Way) (m : ℕ) → AreUnderWay p sources old at → at.graph.live m ≡ true → at.done m ≡ false → cell_in old m ≡ at.graph.cell m
cell_before p sources old at m u live waits = elim (by_bool (old.live m)) [
  | inl y ↦ cell_live old m y ∙ sym (u.waits m live waits y).1
  | inr n ↦ cell_further old m n ∙ sym (u.born m live waits n).0
]

-- where a rule gives nothing, the node errs
errs_of_kind : (g : Graph) (known : ℕ → Type 0) (p : Plan) (before : ℕ → Option Cell) (m : ℕ) (k : Kind) (ins : List Part)
    → before m ≡ g.cell m → Refuses g p.table m k ins → Errs g known p before m k ins
errs_of_kind g known p before m (source s) ins e r = r
errs_of_kind g known p before m (works w) ins e r =
    λ clean latches. r (subst (λ (o : Option Cell). IsClean (work_line p.table (g.level m) w o (part_values g ins))) e clean)
errs_of_kind g known p before m (watch a b env) [] e r = r
errs_of_kind g known p before m (watch a b env) (q ∷ []) e r = λ holds told. absurd (r holds told)
errs_of_kind g known p before m (watch a b env) (q ∷ s ∷ ps) e r = r
errs_of_kind g known p before m result ins e r = r

pub errs_at : (p : Plan) (is : List LowItem) (ms : List ℕ) (sources : List Now) (old : Graph) (at : Way) (m h : ℕ)
    → UnderWay p is ms sources old at → at.graph.live m ≡ true → at.done m ≡ false → Refuses at.graph p.table m (at.graph.kind m) (at.graph.inputs m) → ErrsAt at h p old m
errs_at p is ms sources old at m h u live waits r =
    errs_of_kind at.graph (λ n. stands_below at h n ≡ true) p (cell_in old) m (at.graph.kind m) (at.graph.inputs m) (cell_before p sources old at m u.nodes live waits) r
