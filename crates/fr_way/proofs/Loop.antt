-- What the loop over a graph's instants needs is kept by every step.
use Rattle.std.proofs.Common.{◌≡◌, inl, ℕ, true, List, Option, ap, sym, ◌∙◌, subst}
use Rattle.fr_value.specs.declared.now.Now.{Now}
use Rattle.fr_core.specs.declared.kept.Kept.{Kept}
use Rattle.fr_core.specs.declared.kept.Kept.TheVariants as kept
use Rattle.fr_core.specs.declared.lowered.LowItem.{LowItem}
use Rattle.fr_core.specs.declared.program.Program.{Program}
use Rattle.fr_meaning.specs.Cells.{Cell}
use Rattle.fr_graph.specs.Graph.{Graph}
use Rattle.fr_graph.specs.Walk.{Plan}
use Rattle.fr_graph.specs.Goes.{IsEmpty as HasNone}
use Rattle.fr_graph.specs.Items.{AreLowered, HasNodes, StandsForTree, IsAfresh}
use Rattle.fr_graph.proofs.Items.{first_afresh, instant_afresh}
use Rattle.fr_way.specs.Frame.{IsFramed}
use Rattle.fr_way.specs.Way.{Way, cell_in}
use Rattle.fr_way.specs.Steps.{Computes}
use Rattle.fr_way.specs.Turns.{Turns}
use Rattle.fr_way.specs.Order.{DeadAreLevelled}
use Rattle.fr_way.specs.Ends.{IsBuilt, HasEndedWell}
use Rattle.fr_way.specs.Fronts.{AreUsed}
use Rattle.fr_way.specs.Loop.{NothingAwaits, InUseBelow, IsWhole, IsOnItsWay, Starts, Closes}
use Rattle.fr_way.proofs.Shapes.{no_both}
use Rattle.fr_way.proofs.Begun.{built_under_way, begun_under_way}
use Rattle.fr_way.proofs.Computed.{computed_keeps}
use Rattle.fr_way.proofs.Rebuilt.{rebuilt_keeps}
use Rattle.fr_way.proofs.Turn.{turned}
use Rattle.fr_way.proofs.TurnOrder.{computed_dead, turn_dead}
use Rattle.fr_way.proofs.Used.{used_shape, used_rebuilt}
use Rattle.fr_way.proofs.Ended.{ended_well}
use Rattle.fr_way.proofs.Buried.{buries_none, lived, framed_buried, ended_buried, used_buried}

-- where nothing awaits burial, nothing stands too low that does
none_dead : (at : Way) → NothingAwaits at → DeadAreLevelled at
none_dead at awaits m j use_m off rd = no_both (at.graph.live m) (awaits m use_m) off

-- THE FIRST INSTANT
pub on_its_way_built : (p : Plan) (is : List LowItem) (ms : List ℕ) (numbers : ℕ) (sources : List Now) (old : Graph) (at : Way)
    → IsBuilt p is ms old at → AreUsed at.graph p is ms → NothingAwaits at → InUseBelow numbers at → IsOnItsWay p is ms numbers sources old at
on_its_way_built p is ms numbers sources old at b used awaits below =
    record { under_way = built_under_way p is ms sources old at b; dead = none_dead at awaits; used = used; below = below }

-- A FURTHER INSTANT
pub on_its_way_started : (p : Plan) (is : List LowItem) (ms : List ℕ) (numbers : ℕ) (sources was_sources : List Now) (before : ℕ → Option Cell) (was at : Way)
    → IsWhole p is ms numbers was_sources before was → Starts sources was at → IsOnItsWay p is ms numbers sources was.graph at
on_its_way_started p is ms numbers sources was_sources before was at w s =
    let same = s.begins.graph in
    let awaits : NothingAwaits at = λ m use_m. ap (λ (g : Graph). g.live m) same ∙ w.awaits m (sym (s.taken m) ∙ use_m) in
    let framed : IsFramed was.graph at.height = framed_buried was.graph was.graph (buries_none was.graph) was.height at.height s.heights w.frame in
    record {
      under_way = begun_under_way p is ms sources was_sources before was.graph at framed w.nodes w.settled s.begins;
      dead = none_dead at awaits;
      used = subst (λ (g : Graph). AreUsed g p is ms) (sym same) w.used;
      below = λ m use_m. w.below m (sym (s.taken m) ∙ use_m);
    }

-- A NODE IS COMPUTED
pub on_its_way_computed : (p : Plan) (is : List LowItem) (ms : List ℕ) (numbers : ℕ) (sources : List Now) (old : Graph) (at new : Way) (m : ℕ)
    → IsOnItsWay p is ms numbers sources old at → Computes p sources old at new m → IsOnItsWay p is ms numbers sources old new
on_its_way_computed p is ms numbers sources old at new m o c = record {
  under_way = computed_keeps p is ms sources old at new m o.under_way c;
  dead = computed_dead p sources old at new m c o.dead;
  used = used_shape p is ms at.graph new.graph c.shape o.used;
  below = λ j use_j. o.below j (sym (c.taken j) ∙ use_j);
}

-- A WATCH TURNS
pub on_its_way_turned : (p : Plan) (is : List LowItem) (ms : List ℕ) (numbers : ℕ) (sources : List Now) (old : Graph) (at t1 t2 t3 t4 t5 new : Way) (w : ℕ)
    → IsOnItsWay p is ms numbers sources old at → Turns p sources old at t1 t2 t3 t4 t5 new w → InUseBelow numbers new → IsOnItsWay p is ms numbers sources old new
on_its_way_turned p is ms numbers sources old at t1 t2 t3 t4 t5 new w o t below =
    let r = turned p is ms sources old at t1 t2 t3 t4 t5 new w o.under_way t in
    record {
      under_way = rebuilt_keeps p is ms sources old at new w o.under_way r;
      dead = turn_dead p is ms sources old at t1 t2 t3 t4 t5 new w o.under_way t o.dead;
      used = used_rebuilt p is ms sources old at new w r o.used;
      below = below;
    }

-- AN INSTANT CLOSES

module _ (p : Plan) (is : List LowItem) (ms : List ℕ) (numbers : ℕ) (sources : List Now) (old : Graph) (at : Way) (latched : Graph) (new : Way)
    (o : IsOnItsWay p is ms numbers sources old at) (c : Closes at latched new) where
  heights_on : (m : ℕ) → latched.live m ≡ true → new.height m ≡ at.height m
  heights_on m lv = c.heights m (c.buries.live m ∙ lv)

  pub closed_well : HasEndedWell p is ms sources old new.graph new.height
  closed_well =
      ended_buried latched new.graph c.buries p is ms sources old at.height new.height heights_on
      (ended_well p is ms sources old at latched o.under_way c.empty c.takes)

  -- a number in use is that of a node that lived while the instant was under way
  was_used : (m : ℕ) → new.taken m ≡ true → at.taken m ≡ true
  was_used m use_m = o.under_way.nodes.taken m (inl (sym (c.takes.shape.live m) ∙ lived latched new.graph c.buries m (sym (c.taken m) ∙ use_m)))

  pub closed_whole : IsWhole p is ms numbers sources (cell_in old) new
  closed_whole = record {
    nodes = closed_well.has;
    settled = closed_well.settled;
    frame = closed_well.frame;
    used = used_buried latched new.graph c.buries p is ms (used_shape p is ms at.graph latched c.takes.shape o.used);
    queue = c.queue;
    taken = λ m lv. c.taken m ∙ lv;
    awaits = λ m use_m. sym (c.taken m) ∙ use_m;
    below = λ m use_m. o.below m (was_used m use_m);
  }

  -- AND IT SHOWS what evaluating the body afresh shows

  pub closed_first : (pr : Program) → AreLowered pr p is → HasNone old → IsAfresh new.graph pr p is ms sources kept.Nothing
  closed_first pr lowered none = first_afresh old new.graph pr p is ms sources (cell_in old) lowered none closed_well.goes closed_well.has closed_well.settled

  pub closed_further : (pr : Program) (k : Kept) → AreLowered pr p is → HasNodes old p is ms → StandsForTree old p is ms k → IsAfresh new.graph pr p is ms sources k
  closed_further pr k lowered has stood = instant_afresh old new.graph pr p is ms sources (cell_in old) k lowered closed_well.goes has closed_well.has closed_well.settled stood
