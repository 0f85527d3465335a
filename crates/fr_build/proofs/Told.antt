-- What the makers of works are told, for the work whose kind the code has.
use Rattle.std.proofs.Common.{◌≡◌, ◌+◌, arith, ℕ, true, false, ◌&&◌, List, IfOk, IfErr, Option, Some, Result, Ok, Err, sym, ap, subst, ◌∙◌}
use Rattle.fr_value.specs.declared.now.Held.{Held}
use Rattle.fr_value.specs.declared.primitive.Primitive.{Primitive}
use Rattle.fr_core.specs.declared.core_form.Operator.{Operator}
use Rattle.fr_core.specs.declared.core_form.Operator.TheVariants as operator
use Rattle.fr_store.specs.declared.node.NodeKind.{NodeKind}
use Rattle.fr_events.specs.Works.{work_of}
use Rattle.fr_graph.specs.Graph.{Part, Work, operates, works, is_plain}
use Rattle.fr_graph.specs.Walk.{all_steady}
use Rattle.fr_graph.specs.Wired.{inputs_of, later_of}
use Rattle.fr_graph.specs.Fails.{WorkFails}
use Rattle.fr_sums.specs.Spent.{build_work}
use Rattle.fr_way.specs.Way.{Way}
use Rattle.fr_nodes.specs.Kinds.{Sites, part_of}
use Rattle.fr_build.specs.declared.stops.BuildStop.{BuildStop}
use Rattle.fr_build.specs.Stops.{StopsWhere, CostsMore}
use Rattle.fr_build.specs.Ready.{Planned, plan_of}
use Rattle.fr_build.specs.Builds.{BuildsWork, BuildsNode, WorkStops}
use Rattle.fr_build.proofs.Lines.{stops_map, builds_node, node_cost}

same_work : (v w : Work) → Path (Option Work) (Some v) (Some w) → v ≡ w
same_work v w e = cc

-- a kind has one work
pub one_work : (o : Option Work) (v w : Work) → o ≡ Some v → o ≡ Some w → v ≡ w
one_work o v w a b = same_work v w (sym a ∙ b)

pub prim_plain : (o : Operator) (p : Primitive) → o ≡ operator.Prim p → is_plain (operates o) ≡ true
prim_plain o p e = ap (λ (q : Operator). is_plain (operates q)) e

module _ (planned : Planned) (n : ℕ) (ps : List Part) (kind : NodeKind) (w : Work) (r : Result Held BuildStop) where
  module _ (at new : Sites → Way) (x : ℕ) (is : work_of kind ≡ Some w) where
    pub plain_told : IfOk r (λ held. (sites : Sites) (v : Work) → work_of kind ≡ Some v → BuildsWork (at sites) (new sites) planned x n v ps (part_of held))
        → IfOk r (λ held. (sites : Sites) → BuildsWork (at sites) (new sites) planned x n w ps (part_of held))
    plain_told = by_result r
      where
        by_result : (q : Result Held BuildStop) → IfOk q (λ held. (sites : Sites) (v : Work) → work_of kind ≡ Some v → BuildsWork (at sites) (new sites) planned x n v ps (part_of held))
            → IfOk q (λ held. (sites : Sites) → BuildsWork (at sites) (new sites) planned x n w ps (part_of held))
        by_result (Ok held) h = λ sites. h sites w is
        by_result (Err e) h = tt

    pub node_told : (env inputs : List Part) (later : Option Part) → (is_plain w && all_steady ps) ≡ false → env ≡ ps → inputs ≡ inputs_of w ps → later ≡ later_of w ps
        → IfOk r (λ held. (sites : Sites) (v : Work) → work_of kind ≡ Some v → BuildsNode (at sites) (new sites) x n (works v) env inputs later (part_of held))
        → IfOk r (λ held. (sites : Sites) → BuildsWork (at sites) (new sites) planned x n w ps (part_of held))
    node_told env inputs later varies scope reads ties = by_result r
      where
        by_result : (q : Result Held BuildStop) → IfOk q (λ held. (sites : Sites) (v : Work) → work_of kind ≡ Some v → BuildsNode (at sites) (new sites) x n (works v) env inputs later (part_of held))
            → IfOk q (λ held. (sites : Sites) → BuildsWork (at sites) (new sites) planned x n w ps (part_of held))
        by_result (Ok held) h = λ sites. builds_node (at sites) (new sites) planned x n w ps env inputs later (part_of held) varies scope reads ties (h sites w is)
        by_result (Err e) h = tt

  pub plain_stops : work_of kind ≡ Some w → IfErr r (λ stop. (v : Work) → work_of kind ≡ Some v → WorkStops planned n v ps stop) → IfErr r (λ stop. WorkStops planned n w ps stop)
  plain_stops is = by_result r
    where
      by_result : (q : Result Held BuildStop) → IfErr q (λ stop. (v : Work) → work_of kind ≡ Some v → WorkStops planned n v ps stop) → IfErr q (λ stop. WorkStops planned n w ps stop)
      by_result (Ok held) h = tt
      by_result (Err e) h = h w is

  -- the making of a node tells of no error
  pub node_stops : IfErr r (λ stop. StopsWhere stop ⊥) → IfErr r (λ stop. WorkStops planned n w ps stop)
  node_stops = by_result r
    where
      by_result : (q : Result Held BuildStop) → IfErr q (λ stop. StopsWhere stop ⊥) → IfErr q (λ stop. WorkStops planned n w ps stop)
      by_result (Ok held) h = tt
      by_result (Err e) h = stops_map e ⊥ (WorkFails (plan_of planned) n w ps) (λ none. absurd none) h

  -- what was spent

  module _ (before after : ℕ) where
    pub plain_paid : work_of kind ≡ Some w → IfOk r (λ held. (v : Work) → work_of kind ≡ Some v → after + build_work (plan_of planned) n v ps ≡ before) → IfOk r (λ held. after + build_work (plan_of planned) n w ps ≡ before)
    plain_paid is = by_result r
      where
        by_result : (q : Result Held BuildStop) → IfOk q (λ held. (v : Work) → work_of kind ≡ Some v → after + build_work (plan_of planned) n v ps ≡ before) → IfOk q (λ held. after + build_work (plan_of planned) n w ps ≡ before)
        by_result (Ok held) h = h w is
        by_result (Err e) h = tt

  pub plain_fuel : (before : ℕ) → work_of kind ≡ Some w → IfErr r (λ stop. (v : Work) → work_of kind ≡ Some v → CostsMore stop before (build_work (plan_of planned) n v ps)) → IfErr r (λ stop. CostsMore stop before (build_work (plan_of planned) n w ps))
  plain_fuel before is = by_result r
    where
      by_result : (q : Result Held BuildStop) → IfErr q (λ stop. (v : Work) → work_of kind ≡ Some v → CostsMore stop before (build_work (plan_of planned) n v ps)) → IfErr q (λ stop. CostsMore stop before (build_work (plan_of planned) n w ps))
      by_result (Ok held) h = tt
      by_result (Err e) h = h w is

  -- the making of a node costs nothing

  pub node_paid : (left : ℕ) → (is_plain w && all_steady ps) ≡ false → IfOk r (λ held. left + build_work (plan_of planned) n w ps ≡ left)
  node_paid left varies = by_result r
    where
      by_result : (q : Result Held BuildStop) → IfOk q (λ held. left + build_work (plan_of planned) n w ps ≡ left)
      by_result (Ok held) = let none = node_cost planned n w ps varies in omega arith
      by_result (Err e) = tt

  pub node_fuel : (left : ℕ) → (is_plain w && all_steady ps) ≡ false → IfErr r (λ stop. (k : ℕ) → CostsMore stop k 0) → IfErr r (λ stop. CostsMore stop left (build_work (plan_of planned) n w ps))
  node_fuel left varies = by_result r
    where
      by_result : (q : Result Held BuildStop) → IfErr q (λ stop. (k : ℕ) → CostsMore stop k 0) → IfErr q (λ stop. CostsMore stop left (build_work (plan_of planned) n w ps))
      by_result (Ok held) h = tt
      by_result (Err e) h = subst (λ (c : ℕ). CostsMore e left c) (sym (node_cost planned n w ps varies)) (h left)
