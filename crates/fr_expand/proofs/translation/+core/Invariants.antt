use Rattle.std.proofs.Common.{◌≡◌, ◌+◌, ◌*◌, ◌++◌, map, drop}
use Rattle.fr_value.specs.Data.{total}
use Rattle.fr_syntax.specs.Weights.{weight}
use Rattle.fr_expand.specs.Shapes.{exprs_of}
use Rattle.fr_expand.specs.Translation.{core_of, each_core}
use Rattle.fr_expand.proofs.translation.+core.Given as goal

abbrev pub decreases-core_in : goal.decreases-core_in
decreases-core_in l = 8 * weight l.expr.now

abbrev pub decreases-boxed_core : goal.decreases-boxed_core
decreases-boxed_core l = 1 + 8 * weight l.expr.now

abbrev pub decreases-add_core : goal.decreases-add_core
decreases-add_core l = 1 + 8 * weight l.part.now

abbrev pub decreases-add_group : goal.decreases-add_group
decreases-add_group l = 2 + 8 * total (map weight (exprs_of l.parts))

abbrev pub decreases-cores_in : goal.decreases-cores_in
decreases-cores_in l = 3 + 8 * total (map weight (exprs_of l.parts))

abbrev pub decreases-core_under : goal.decreases-core_under
decreases-core_under l = 2 + 8 * weight l.body.now

abbrev pub decreases-test_core : goal.decreases-test_core
decreases-test_core l = 2 + 8 * (weight l.test.now + weight l.then.now)

abbrev pub decreases-let_core : goal.decreases-let_core
decreases-let_core l = 4 + 8 * weight l.part.now

abbrev pub decreases-chained_core : goal.decreases-chained_core
decreases-chained_core l = 5 + 8 * (total (map weight l.parts.now) + weight l.body.now)

abbrev pub decreases-cond_core : goal.decreases-cond_core
decreases-cond_core l = 5 + 8 * (total (map weight l.tests.now) + total (map weight l.parts.now) + weight l.other.now)

abbrev pub decreases-and_core : goal.decreases-and_core
decreases-and_core l = 5 + 8 * total (map weight l.parts.now)

abbrev pub decreases-or_core : goal.decreases-or_core
decreases-or_core l = 5 + 8 * total (map weight l.parts.now)

abbrev pub invariant-add_group-loop-part : goal.invariant-add_group-loop-part
invariant-add_group-loop-part l = record {
  made : l.cores ++ each_core (map (core_of l.globals) (drop l.part-index l.parts)) l.fn.scope ≡ l.fn.cores ++ each_core (map (core_of l.globals) l.parts) l.fn.scope;
  scope : l.scope ≡ l.fn.scope;
}
