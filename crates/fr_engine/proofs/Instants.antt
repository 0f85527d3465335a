-- An instant from where it begins to where the graph is at rest again.
use Rattle.std.proofs.Common.{◌≡◌, ◌⊎◌, inl, inr, ℕ, suc, ◌<◌, arith, true, List, [], length, Option, sym, ap, ◌∙◌, subst}
use Rattle.fr_value.specs.declared.ids.NodeId.{NodeId}
use Rattle.fr_value.specs.declared.now.Now.{Now}
use Rattle.fr_core.specs.declared.lowered.LowItem.{LowItem}
use Rattle.fr_meaning.specs.Cells.{Cell}
use Rattle.fr_queue.specs.Queue.{IsEmpty}
use Rattle.fr_store.specs.Nodes.{most_nodes}
use Rattle.fr_events.specs.declared.latching.LatchStop.{LatchStop}
use Rattle.fr_events.specs.declared.latching.LatchStop.TheVariants as latch
use Rattle.fr_graph.specs.Graph.{Graph}
use Rattle.fr_graph.specs.Walk.{Plan}
use Rattle.fr_way.specs.Frame.{is_watch}
use Rattle.fr_way.specs.Loop.{IsWhole, IsOnItsWay as IsUnderWay, InUseBelow, Starts}
use Rattle.fr_way.specs.Fronts.{AreUsed, ErrsAt, ErrsAtEnd}
use Rattle.fr_way.specs.Steps.{IsLeast}
use Rattle.fr_way.specs.Way.{Way, cell_in, UnderWay}
use Rattle.fr_engine.specs.declared.setting.Notes.{Notes}
use Rattle.fr_engine.specs.declared.stops.RunStop.{RunStop}
use Rattle.fr_engine.specs.declared.stops.RunStop.TheVariants as stop
use Rattle.fr_engine.specs.Beginning.{AllLive, HaveSources, IsResting}
use Rattle.fr_engine.specs.Choices.{Buildable, AreFit}
use Rattle.fr_engine.specs.Ending.{EndsWell}
use Rattle.fr_engine.specs.Instant.{AreClear, AtRest, ErrsInIt, ErrsOnceRun, HasPassed, IsBuiltUp, ending_stop}
use Rattle.fr_engine.specs.Latching.{LatchRefused, LatersLive}
use Rattle.fr_engine.specs.Moment.{Moment}
use Rattle.fr_engine.specs.Notes.{AreLate, AreNoted}
use Rattle.fr_engine.specs.Rules.{HasKernels}
use Rattle.fr_engine.specs.Running.{HasRun, IsOnItsWay}
use Rattle.fr_engine.specs.Stops.{StopsWhere}
use Rattle.fr_engine.proofs.Begun.{noted_built, noted_first, unread_first}
use Rattle.fr_engine.proofs.Latches.{errs_at_end, laters_live}

-- what holds of the graph as it stood where an instant began holds of the same graph
kernels_same : (p : Plan) (many : ℕ) (sources : List Now) (g h : Graph) → h ≡ g → length sources ≡ many → HasKernels p.table many g → HasKernels p.table (length sources) h
kernels_same p many sources g h e l k = subst (λ (n : ℕ). HasKernels p.table n h) (sym l) (subst (HasKernels p.table many) (sym e) k)

noted_clear : (old : Graph) (at : Way) (notes : Notes) → AreClear notes → AreNoted old at [] [] → AreNoted old at notes.wakes.items notes.changed.items
noted_clear old at notes c n = subst (λ (xs : List NodeId). AreNoted old at notes.wakes.items xs) (sym c.changed) (subst (λ (xs : List NodeId). AreNoted old at xs []) (sym c.wakes) n)

-- A GRAPH THAT WAS BUILT is on its way to the end of its first instant
pub built_on_its_way : (can : Buildable) (p : Plan) (many : ℕ) (is : List LowItem) (ms : List ℕ) (sources : List Now) (old : Graph) (at : Way) (notes : Notes) (late : List NodeId)
    → IsUnderWay p is ms most_nodes sources old at → IsBuiltUp can p many is ms old at late → length sources ≡ many → AreClear notes
    → IsOnItsWay can p many sources (record { items = is; members = ms; old = old }) at notes late
built_on_its_way can p many is ms sources old at notes late u b l clear = record {
  under = u.under_way;
  dead = u.dead;
  used = u.used;
  kernels = subst (λ (n : ℕ). HasKernels p.table n at.graph) (sym l) b.kernels;
  fit = b.fit;
  fed = b.fed;
  unread = b.unread;
  noted = noted_clear old at notes clear (noted_built old at b.built.queued);
  listed = b.listed;
}

-- A GRAPH AT REST is on its way where a further instant starts
module _ (can : Buildable) (p : Plan) (many : ℕ) (is : List LowItem) (ms : List ℕ) (sources was : List Now) (before : ℕ → Option Cell) (rest at : Way) (wakes late : List NodeId) (r : AtRest can p many is ms was before rest wakes late)
    (s : Starts sources rest at) where
  late_there : AreLate at late
  late_there = record {
    listed = λ m w live kind late_one. r.rests.listed m w (ap (λ (g : Graph). g.live m) (sym s.begins.graph) ∙ live) (ap (λ (g : Graph). g.kind m) (sym s.begins.graph) ∙ kind) late_one;
    taken = λ m n. s.taken m ∙ r.whole.taken m (r.late_live m n);
  }

  pub rest_on_its_way : (notes : Notes) → IsUnderWay p is ms most_nodes sources rest.graph at → length sources ≡ many → AreClear notes
      → IsOnItsWay can p many sources (record { items = is; members = ms; old = rest.graph }) at notes late
  rest_on_its_way notes u l clear = record {
    under = u.under_way;
    dead = u.dead;
    used = u.used;
    kernels = kernels_same p many sources rest.graph at.graph s.begins.graph l r.kernels;
    fit = subst (AreFit can) (sym s.begins.graph) r.fit;
    fed = subst (HaveSources many) (sym s.begins.graph) r.fed;
    unread = unread_first sources rest.graph at s.begins;
    noted = noted_clear rest.graph at notes clear (noted_first sources rest.graph at s.begins);
    listed = late_there;
  }

-- what the loop over instants needs is part of what holds on the way
module _ (can : Buildable) (p : Plan) (many : ℕ) (sources : List Now) (t : Moment) (new : Way) (notes : Notes) (late : List NodeId) (h : HasPassed can p many sources t new notes late) where
  pub passed_way : IsUnderWay p t.items t.members most_nodes sources t.old h.at
  passed_way = record { under_way = h.way.under; dead = h.way.dead; used = h.way.used; below = h.below }

  abbrev latched : Graph
  latched = h.ends.latched.graph

  lived : (m : ℕ) → new.graph.live m ≡ true → latched.live m ≡ true
  lived m live = sym (h.ends.closes.buries.live m) ∙ live

  was_live : (m : ℕ) → new.graph.live m ≡ true → h.at.graph.live m ≡ true
  was_live m live = sym (h.ends.closes.takes.shape.live m) ∙ lived m live

  same_kind : (m : ℕ) → new.graph.live m ≡ true → new.graph.kind m ≡ h.at.graph.kind m
  same_kind m live = h.ends.closes.buries.kind m (lived m live) ∙ h.ends.closes.takes.shape.kind m

  same_inputs : (m : ℕ) → new.graph.live m ≡ true → new.graph.inputs m ≡ h.at.graph.inputs m
  same_inputs m live = h.ends.closes.buries.inputs m (lived m live) ∙ h.ends.closes.takes.shape.inputs m

  kernels_left : HasKernels p.table (length sources) new.graph
  kernels_left = record {
    kernels = λ m w live k. h.way.kernels.kernels m w (was_live m live) (sym (same_kind m live) ∙ k);
    sources = λ m s live k. h.way.kernels.sources m s (was_live m live) (sym (same_kind m live) ∙ k);
  }

  fit_left : AreFit can new.graph
  fit_left = record {
    tests = λ m live watches.
        let test = h.way.fit.tests m (was_live m live) (ap is_watch (sym (same_kind m live)) ∙ watches) in
        (test.0, same_inputs m live ∙ test.1);
    fits = λ m a b env live k. h.way.fit.fits m a b env (was_live m live) (sym (same_kind m live) ∙ k);
  }

  still_live : (m : ℕ) → h.at.graph.live m ≡ true → new.graph.live m ≡ true
  still_live m live = h.ends.closes.buries.live m ∙ h.ends.closes.takes.shape.live m ∙ live

  fed_left : HaveSources many new.graph
  fed_left = record {
    there = λ s lt.
        let was = h.way.fed.there s lt in
        let live = still_live s was.0 in
        (live, same_kind s live ∙ was.1);
    only = λ m s live k. h.way.fed.only m s (was_live m live) (sym (same_kind m live) ∙ k);
  }

  -- WHERE AN INSTANT HAS PASSED the graph is at rest
  pub passed_rests : length sources ≡ many → IsWhole p t.items t.members most_nodes sources (cell_in t.old) new → AtRest can p many t.items t.members sources (cell_in t.old) new notes.wakes.items late
  passed_rests l whole = record {
    whole = whole;
    kernels = subst (λ (n : ℕ). HasKernels p.table n new.graph) l kernels_left;
    fit = fit_left;
    fed = fed_left;
    rests = h.ends.rests;
    wakes_live = h.ends.wakes_live;
    occur = h.ends.occur;
    late_live = h.ends.late_live;
  }

-- WHERE A RUN HAS ENDED WELL an instant has passed
pub has_passed : (can : Buildable) (p : Plan) (many : ℕ) (sources : List Now) (t : Moment) (at new : Way) (noted notes : Notes) (listed late : List NodeId)
    → HasRun can p many sources t at noted listed → InUseBelow most_nodes at → EndsWell p t.items t.members sources t.old at new notes late → HasPassed can p many sources t new notes late
has_passed can p many sources t at new noted notes listed late r below ends = record { at = at; noted = noted; listed = listed; way = r.way; below = below; ends = ends }

-- what the ending asks holds where an instant was run
pub run_laters : (can : Buildable) (p : Plan) (many : ℕ) (sources : List Now) (t : Moment) (at : Way) (notes : Notes) (late : List NodeId) → HasRun can p many sources t at notes late → LatersLive at.graph
run_laters can p many sources t at notes late r = laters_live at.graph at.height r.way.under.frame

-- what refuses the ending
pub end_stops : (can : Buildable) (p : Plan) (many : ℕ) (sources : List Now) (at : Way) (notes : Notes) (late : List NodeId) (e : LatchStop) → LatchRefused e at.graph
    → StopsWhere (ending_stop e) (ErrsOnceRun can p many sources at notes late)
end_stops can p many sources at notes late (latch.Memory e) r = tt
end_stops can p many sources at notes late (latch.Bad b) r = λ t h.
    inr (record {
      at = at;
      node = r.0;
      under = h.way.under;
      used = h.way.used;
      empty = h.empty;
      errs = errs_at_end p t.old at r.0 r.1 r.2;
    })

-- what stops the whole, by what stops a part
pub stops_on : (A B : Type 0) (why : RunStop) → (A → B) → StopsWhere why A → StopsWhere why B
stops_on A B (stop.Memory e) f s = s
stops_on A B (stop.Bad b) f s = f s
stops_on A B stop.Fuel f s = s
stops_on A B stop.TooMany f s = s

-- what errs in an instant gives what either place gives
pub errs_by : (p : Plan) (sources : List Now) (t : Moment) (A : Type 0)
    → ((at : Way) (m h : ℕ) → UnderWay p t.items t.members sources t.old at → AreUsed at.graph p t.items t.members → IsLeast at m h → ErrsAt at h p t.old m → A)
    → ((at : Way) (m : ℕ) → UnderWay p t.items t.members sources t.old at → AreUsed at.graph p t.items t.members → IsEmpty at.queued → ErrsAtEnd at p t.old m → A)
    → ErrsInIt p sources t → A
errs_by p sources t A f g (inl e) = f e.at e.node e.height e.under e.used e.least e.errs
errs_by p sources t A f g (inr e) = g e.at e.node e.under e.used e.empty e.errs

-- a graph at rest has what the start of a further instant asks
pub rest_starts : (can : Buildable) (p : Plan) (many : ℕ) (is : List LowItem) (ms : List ℕ) (sources was : List Now) (before : ℕ → Option Cell) (rest at : Way) (wakes late ids : List NodeId)
    → AtRest can p many is ms was before rest wakes late → length sources ≡ many → ids ≡ late → (HaveSources (length sources) rest.graph → IsResting rest wakes ids → Starts sources rest at) → Starts sources rest at
rest_starts can p many is ms sources was before rest at wakes late ids r l e starts =
    starts (subst (λ (n : ℕ). HaveSources n rest.graph) (sym l) r.fed) (subst (IsResting rest wakes) (sym e) r.rests)

pub rest_all_live : (can : Buildable) (p : Plan) (many : ℕ) (is : List LowItem) (ms : List ℕ) (sources was : List Now) (before : ℕ → Option Cell) (rest : Way) (wakes late : List NodeId)
    → AtRest can p many is ms was before rest wakes late → length sources ≡ many → AllLive (length sources) rest.graph
rest_all_live can p many is ms sources was before rest wakes late r l s lt = (r.fed.there s (subst (λ (n : ℕ). s < n) l lt)).0

-- so many sources as have nodes are few
below_or : (n bound : ℕ) → (n < bound) ⊎ (bound < suc n)
below_or n bound = grind arith

pub rest_few : (can : Buildable) (p : Plan) (many : ℕ) (is : List LowItem) (ms : List ℕ) (sources was : List Now) (before : ℕ → Option Cell) (rest : Way) (wakes late : List NodeId)
    → AtRest can p many is ms was before rest wakes late → length sources ≡ many → length sources < 4294967295
rest_few can p many is ms sources was before rest wakes late r l =
    elim (below_or many (suc most_nodes)) [
      | inl lt ↦ omega arith
      | inr above ↦
          let live = (r.fed.there most_nodes (omega arith)).0 in
          let small : most_nodes < most_nodes = r.whole.below most_nodes (r.whole.taken most_nodes live) in
          absurd (omega arith)
    ]
