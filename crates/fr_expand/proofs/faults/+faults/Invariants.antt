use Rattle.std.proofs.Common.{◌≡◌, ◌+◌, ◌*◌, map, length, drop, take}
use Rattle.fr_value.specs.Data.{total}
use Rattle.fr_syntax.specs.Weights.{weight}
use Rattle.fr_expand.specs.Faults.{with, faults, chain_faults, all_faults, chained_faults}
use Rattle.fr_expand.specs.Shapes.{exprs_of}
use Rattle.fr_expand.proofs.faults.+faults.Given as goal

abbrev pub decreases-faults_in : goal.decreases-faults_in
decreases-faults_in l = 4 * weight l.expr.now

abbrev pub decreases-faults_in_group : goal.decreases-faults_in_group
decreases-faults_in_group l = 2 + 4 * total (map weight (exprs_of l.parts))

abbrev pub decreases-faults_in_each : goal.decreases-faults_in_each
decreases-faults_in_each l = 1 + 4 * total (map weight l.parts.now)

abbrev pub decreases-faults_in_binding : goal.decreases-faults_in_binding
decreases-faults_in_binding l = 3 + 4 * (total (map weight (exprs_of l.parts)) + weight l.body.now)

abbrev pub decreases-faults_in_chain : goal.decreases-faults_in_chain
decreases-faults_in_chain l = 1 + 4 * (total (map weight l.parts.now) + weight l.body.now)

abbrev pub invariant-faults_in_each-loop-part : goal.invariant-faults_in_each-loop-part
invariant-faults_in_each-loop-part l = record {
  found : with l.found (all_faults (map (faults l.globals) (drop l.part-index l.parts)) l.fn.scope) ≡ all_faults (map (faults l.globals) l.parts) l.fn.scope;
  scope : l.scope ≡ l.fn.scope;
}

abbrev pub invariant-faults_in_chain-loop-at : goal.invariant-faults_in_chain-loop-at
invariant-faults_in_chain-loop-at l = record {
  found : with l.found (chained_faults (drop l.at l.names) (map (faults l.globals) (drop l.at l.parts)) (faults l.globals l.body) l.scope)
      ≡ with (chain_faults l.names) (chained_faults l.names (map (faults l.globals) l.parts) (faults l.globals l.body) l.fn.scope);
  scope : take (length l.fn.scope) l.scope ≡ l.fn.scope;
  counted : length l.scope ≡ length l.fn.scope + l.at;
}
