use Rattle.std.proofs.Common.{◌≡◌, ◌++◌, ◌+◌, ◌*◌, drop}
use Rattle.std.specs.Option.{option_map}
use Rattle.fr_value.specs.Data.{data_of}
use Rattle.fr_syntax.specs.Shapes.{expr_to, each, bindings}
use Rattle.fr_syntax.specs.Layouts.{clauses_before}
use Rattle.fr_syntax.proofs.exprs.+expr.Given as goal

abbrev pub decreases-expr : goal.decreases-expr
decreases-expr l = 5 * l.levels

abbrev pub decreases-filled : goal.decreases-filled
decreases-filled l = 5 * l.levels + 4

abbrev pub decreases-cond_parts : goal.decreases-cond_parts
decreases-cond_parts l = 5 * l.levels + 3

abbrev pub decreases-tests : goal.decreases-tests
decreases-tests l = 5 * l.levels + 2

abbrev pub decreases-bound : goal.decreases-bound
decreases-bound l = 5 * l.levels + 2

abbrev pub decreases-triple : goal.decreases-triple
decreases-triple l = 5 * l.levels + 2

abbrev pub decreases-bindings : goal.decreases-bindings
decreases-bindings l = 5 * l.levels + 1

abbrev pub decreases-each : goal.decreases-each
decreases-each l = 5 * l.levels + 1

abbrev pub decreases-pair : goal.decreases-pair
decreases-pair l = 5 * l.levels + 1

abbrev pub invariant-each-loop-item : goal.invariant-each-loop-item
invariant-each-loop-item l = option_map (λ es. l.parts ++ es) (each (expr_to l.levels) (data_of (drop l.item-index l.items))) ≡ each (expr_to l.levels) (data_of l.items)

abbrev pub invariant-bindings-loop-item : goal.invariant-bindings-loop-item
invariant-bindings-loop-item l =
    option_map (λ bs. (l.found.0 ++ bs.0, l.found.1 ++ bs.1)) (bindings (expr_to l.levels) (data_of (drop l.item-index l.items))) ≡ bindings (expr_to l.levels) (data_of l.items)

abbrev pub invariant-tests-loop-item : goal.invariant-tests-loop-item
invariant-tests-loop-item l =
    option_map (λ cs. (l.found.0 ++ cs.0, l.found.1 ++ cs.1)) (clauses_before (expr_to l.levels) (data_of (drop l.item-index l.items))) ≡ clauses_before (expr_to l.levels) (data_of l.items)
