-- A node that was taken is dealt with.
use Rattle.std.proofs.Common.{◌≡◌, inl, inr, ℕ, ◌<◌, Bool, true, false, List, length, None, Some, Err, refl, ap, sym, ◌∙◌, subst, arith}
use Rattle.std.specs.Option.{option_map}
use Rattle.fr_value.specs.declared.ids.NodeId.{NodeId}
use Rattle.fr_value.specs.declared.now.Now.{Now}
use Rattle.fr_kernel.specs.Kernels.{Kernels}
use Rattle.fr_kernel.specs.declared.fuel.KernStop.{KernStop}
use Rattle.fr_kernel.specs.declared.fuel.KernStop.TheVariants as kern
use Rattle.fr_graph.specs.Graph.{Graph}
use Rattle.fr_graph.specs.Walk.{Plan}
use Rattle.fr_graph.specs.Known.{Reads}
use Rattle.fr_events.specs.Works.{cell_of}
use Rattle.fr_events.specs.declared.lines.Stepped.{Stepped}
use Rattle.fr_store.specs.declared.node.NodeKind.{NodeKind}
use Rattle.fr_store.specs.declared.node.NodeKind.TheVariants as node
use Rattle.fr_store.specs.Nodes.{is_watch as is_stored_watch, most_nodes}
use Rattle.fr_nodes.specs.Kinds.{Sites, kind_of}
use Rattle.fr_engine.specs.declared.stops.RunStop.{RunStop}
use Rattle.fr_engine.specs.declared.stops.RunStop.TheVariants as stop
use Rattle.fr_way.specs.Frame.{is_watch}
use Rattle.fr_way.specs.Fronts.{ErrsAt}
use Rattle.fr_way.specs.Way.{Way, cell_in}
use Rattle.fr_way.specs.Steps.{Computes}
use Rattle.fr_way.proofs.Cases.{watch_parts}
use Rattle.fr_way.proofs.Names.{named_lives}
use Rattle.fr_way.proofs.Middle.{same_way}
use Rattle.fr_nodes.specs.Makes.{AreThere}
use Rattle.fr_nodes.specs.Signals.{IsSound, TakesNone, TakesOut}
use Rattle.fr_engine.specs.declared.setting.Notes.{Notes}
use Rattle.fr_engine.specs.Choices.{Buildable}
use Rattle.fr_engine.specs.Moment.{Moment}
use Rattle.fr_engine.specs.Notes.{NotesNode, Settles}
use Rattle.fr_engine.specs.Rules.{Computed, ComputedOr, HasKernels, Refuses}
use Rattle.fr_engine.specs.Running.{CanDeal, ErrsOnTheWay, HasKey, HasRun, IsOnItsWay, NotesChange, run_stop, Runs, Steps, TurnsBy}
use Rattle.fr_engine.specs.Stops.{StopsWhere}
use Rattle.fr_engine.specs.Turning.{CanTurn, HasTurned}
use Rattle.fr_engine.proofs.Comes.{cell_before, errs_at}
use Rattle.fr_engine.proofs.Settled.{fits, other_key, computes, noted, late_listed, still_unread, still_named, newly_named, only_named}
use Rattle.fr_engine.proofs.Keeping.{turned_way, turned_advances, computed_way, computed_advances}

module _ (can : Buildable) (p : Plan) (many : ℕ) (sources : List Now) (t : Moment) (at taken : Way) (m : ℕ) (notes : Notes) (late : List NodeId)
    (o : IsOnItsWay can p many sources t at notes late) (tk : TakesOut at taken m) where
  abbrev same : taken.graph ≡ at.graph
  same = tk.same.graph

  there : (at.graph.live m ≡ true) × (tk.height ≡ at.height m) × (at.done m ≡ false)
  there = o.under.nodes.queue m tk.height tk.least.was

  pub lives_there : taken.graph.live m ≡ true
  lives_there = ap (λ (g : Graph). g.live m) same ∙ there.0

  pub inputs_there : AreThere taken (taken.graph.inputs m)
  inputs_there j rd = ap (λ (g : Graph). g.live j) same
      ∙ named_lives at.graph at.height o.under.frame m j there.0 (inl (subst (λ (g : Graph). Reads j (g.inputs m)) same rd))

  pub kernels_there : (table : Kernels) → table ≡ p.table → HasKernels table (length sources) taken.graph
  kernels_there table e = subst (λ (k : Kernels). HasKernels k (length sources) taken.graph) (sym e)
      (subst (λ (g : Graph). HasKernels p.table (length sources) g) (sym same) o.kernels)

  -- where the rule gives nothing, the node errs
  pub refused : Refuses taken.graph p.table m (taken.graph.kind m) (taken.graph.inputs m) → ErrsOnTheWay p sources t
  refused r = record {
    at = at;
    node = m;
    height = tk.height;
    under = o.under;
    used = o.used;
    least = tk.least;
    errs = errs_at p t.items t.members sources t.old at m tk.height o.under there.0 there.2 (subst (λ (g : Graph). Refuses g p.table m (g.kind m) (g.inputs m)) same r);
  }

  reads_itself : Reads m (taken.graph.inputs m) → ⊥
  reads_itself rd =
      let lt : at.height m < at.height m = o.under.frame.levelled.input m m there.0 (subst (λ (g : Graph). Reads m (g.inputs m)) same rd) in
      absurd (omega arith)

  cell_there : cell_in t.old m ≡ taken.graph.cell m
  cell_there = cell_before p sources t.old at m o.under.nodes there.0 there.2 ∙ ap (λ (g : Graph). g.cell m) (sym same)

  module _ (s : Stepped) (before after : ℕ) (c : Computed s before after p.table sources taken m) where
    pub key_there : HasKey taken.graph m s.value
    key_there = record {
      result = λ iw. ap (λ (g : Graph). g.live (g.result_of m)) same ∙ o.under.frame.results.live m there.0 (ap (λ (g : Graph). is_watch (g.kind m)) (sym same) ∙ iw);
      told = c.key;
    }

    -- a watch turns
    pub can_turn : (holds : Bool) → TurnsBy (Some holds) taken.graph m s.value → CanTurn can p many sources t at taken m s.value (option_map cell_of s.cell) holds
    can_turn holds by =
        let k = watch_parts (taken.graph.kind m) by.0 in
        record {
          under = o.under;
          dead = o.dead;
          fit = o.fit;
          fed = o.fed.there;
          takes = tk;
          watches = ap (λ (g : Graph). is_watch (g.kind m)) (sym same) ∙ by.0;
          told = by.2;
          obeys = c.obeys (cell_in t.old) cell_there reads_itself;
          other_key = other_key p t.items t.members sources t.old at taken m o.under tk k.0 k.1 k.2 s.value k.3 by.1;
        }

    pub turn_steps : (new : Way) (noting : Notes) (more : List NodeId) → NotesChange notes noting m → HasTurned can p sources t.old at new m late more → Steps can p many sources t at new m noting more
    turn_steps new noting more n h = record {
      goes_on = turned_way can p many sources t at new m notes late more o h noting n.wakes
          (λ j nm. still_named true notes.changed.items noting.changed.items m j n.changed nm)
          (elim (newly_named true notes.changed.items noting.changed.items m n.changed) [ inl nm ↦ nm | inr e ↦ absurd cc ])
          (λ j nm. only_named true notes.changed.items noting.changed.items m j n.changed nm);
      advances = turned_advances can p many sources t at new m notes late more o h;
    }

    -- any other node is written
    module _ (keeps : TurnsBy None taken.graph m s.value) (new : Way) (noting : Notes) (settles : Settles taken new m s.value (option_map cell_of s.cell)) (n : NotesNode taken m s.value notes noting) where
      computes_so : Computes p sources t.old at new m
      computes_so = computes p t.items t.members sources t.old at taken m o.under tk new s.value (option_map cell_of s.cell) settles
          (fits p t.items t.members sources t.old at taken m o.under tk s before after o.unread c keeps)

      pub settle_steps : Steps can p many sources t at new m noting late
      settle_steps = record {
        goes_on = computed_way can p many sources t at new m notes noting late o computes_so
            (still_unread p t.items t.members sources t.old at taken m o.under tk new s.value (option_map cell_of s.cell) settles o.unread)
            (noted p t.items t.members sources t.old at taken m o.under tk new s.value (option_map cell_of s.cell) settles notes noting n o.noted)
            (late_listed p t.items t.members sources t.old at taken m o.under tk new s.value (option_map cell_of s.cell) settles late o.listed);
        advances = computed_advances can p many sources t at new m notes noting late o computes_so;
      }

-- what stops a run of a rule
pub compute_stops : (e : KernStop) (before after : ℕ) (table : Kernels) (p : Plan) (sources : List Now) (taken : Way) (m : ℕ) → table ≡ p.table
    → ComputedOr (Err e) before after table sources taken m → StopsWhere (run_stop e) (Refuses taken.graph p.table m (taken.graph.kind m) (taken.graph.inputs m))
compute_stops (kern.Memory x) before after table p sources taken m e h = tt
compute_stops (kern.Bad x) before after table p sources taken m e h = subst (λ (k : Kernels). Refuses taken.graph k m (taken.graph.kind m) (taken.graph.inputs m)) e h
compute_stops kern.Fuel before after table p sources taken m e h = tt

-- where nothing was queued all is as it was
pub none_taken : (can : Buildable) (p : Plan) (many : ℕ) (sources : List Now) (t : Moment) (at new : Way) (notes : Notes) (late : List NodeId)
    → TakesNone at new → IsOnItsWay can p many sources t at notes late → HasRun can p many sources t new notes late
none_taken can p many sources t at new notes late none o = record {
  way = subst (λ (w : Way). IsOnItsWay can p many sources t w notes late)
      (sym (same_way at new none.same.graph none.same.taken none.same.heights none.same.done (λ m. none.empty m ∙ sym (none.was_empty m)))) o;
  empty = none.empty;
}

-- a stored watch is one in the graph
pub watch_stored : (s : Sites) (m : ℕ) (k : NodeKind) → is_stored_watch k ≡ true → is_watch (kind_of s m k) ≡ true
watch_stored s m (node.IfWatch site held) e = refl
watch_stored s m k e = absurd cc

-- what refuses a turning refuses the dealing with a node
pub deal_stops : (can : Buildable) (p : Plan) (many : ℕ) (sources : List Now) (taken : Way) (m : ℕ) (notes : Notes) (late : List NodeId) (s : Stepped) (holds : Bool) → TurnsBy (Some holds) taken.graph m s.value → (why : RunStop)
    → StopsWhere why ((t : Moment) (sources : List Now) (at : Way) (c : CanTurn can p many sources t at taken m s.value (option_map cell_of s.cell) holds) → ErrsAt at c.takes.height p t.old m)
    → StopsWhere why ((t : Moment) (at : Way) → CanDeal can p many sources t at taken m notes late s → ErrsOnTheWay p sources t)
unfolding can_turn
deal_stops can p many sources taken m notes late s holds by (stop.Memory e) h = h
deal_stops can p many sources taken m notes late s holds by (stop.Bad b) h = λ t at d.
    record {
      at = at;
      node = m;
      height = d.takes.height;
      under = d.way.under;
      used = d.way.used;
      least = d.takes.least;
      errs = h t sources at (can_turn can p many sources t at taken m notes late d.way d.takes s d.before d.after d.computed holds by);
    }
deal_stops can p many sources taken m notes late s holds by stop.Fuel h = h
deal_stops can p many sources taken m notes late s holds by stop.TooMany h = h

-- what refuses the dealing with a node refuses the step
pub step_stops : (can : Buildable) (p : Plan) (many : ℕ) (sources : List Now) (taken : Way) (m : ℕ) (notes : Notes) (late : List NodeId) (s : Stepped) (before after : ℕ) → Computed s before after p.table sources taken m → (why : RunStop)
    → StopsWhere why ((t : Moment) (at : Way) → CanDeal can p many sources t at taken m notes late s → ErrsOnTheWay p sources t)
    → StopsWhere why ((t : Moment) (at : Way) → IsOnItsWay can p many sources t at notes late → TakesOut at taken m → ErrsOnTheWay p sources t)
step_stops can p many sources taken m notes late s before after c (stop.Memory e) h = h
step_stops can p many sources taken m notes late s before after c (stop.Bad b) h = λ t at o tk. h t at (record { way = o; takes = tk; before = before; after = after; computed = c })
step_stops can p many sources taken m notes late s before after c stop.Fuel h = h
step_stops can p many sources taken m notes late s before after c stop.TooMany h = h

-- what refuses the computing refuses the step
pub compute_errs : (can : Buildable) (p : Plan) (many : ℕ) (sources : List Now) (taken : Way) (m : ℕ) (notes : Notes) (late : List NodeId) (e : KernStop) (before after : ℕ) (table : Kernels) → table ≡ p.table
    → ComputedOr (Err e) before after table sources taken m
    → StopsWhere (run_stop e) ((t : Moment) (at : Way) → IsOnItsWay can p many sources t at notes late → TakesOut at taken m → ErrsOnTheWay p sources t)
compute_errs can p many sources taken m notes late (kern.Memory x) before after table e h = tt
compute_errs can p many sources taken m notes late (kern.Bad x) before after table e h = λ t at o tk. refused can p many sources t at taken m notes late o tk (compute_stops (kern.Bad x) before after table p sources taken m e h)
compute_errs can p many sources taken m notes late kern.Fuel before after table e h = tt

-- a number that was taken out is small
pub number_small : (way : Sites → Way) → IsSound way → (s : Sites) (taken : Way) (m : ℕ) → TakesOut (way s) taken m → m < most_nodes
number_small way sound s taken m tk = sound.small s m (sound.queued s m tk.height tk.least.was).0

-- what refuses a step refuses the run
pub run_stops : (can : Buildable) (p : Plan) (many : ℕ) (sources : List Now) (start at taken : Way) (m : ℕ) (was notes : Notes) (before late : List NodeId) → Runs can p many sources start at was notes before late → TakesOut at taken m → (why : RunStop)
    → StopsWhere why ((t : Moment) (at : Way) → IsOnItsWay can p many sources t at notes late → TakesOut at taken m → ErrsOnTheWay p sources t)
    → StopsWhere why ((t : Moment) → IsOnItsWay can p many sources t start was before → ErrsOnTheWay p sources t)
run_stops can p many sources start at taken m was notes before late runs tk (stop.Memory e) h = h
run_stops can p many sources start at taken m was notes before late runs tk (stop.Bad b) h = λ t o. h t at (runs.from t o) tk
run_stops can p many sources start at taken m was notes before late runs tk stop.Fuel h = h
run_stops can p many sources start at taken m was notes before late runs tk stop.TooMany h = h
