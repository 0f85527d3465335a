use Rattle.std.proofs.Common.{◌≡◌, ◌+◌, ◌*◌, ◌++◌, map, drop}
use Rattle.fr_kernel.specs.Placed.{scheme_at, placed}
use Rattle.fr_kernel.proofs.placing.+place.Given as goal

abbrev pub decreases-place : goal.decreases-place
decreases-place l = 2 * l.left

abbrev pub decreases-place_boxed : goal.decreases-place_boxed
decreases-place_boxed l = 2 * l.left + 1

abbrev pub decreases-place_all : goal.decreases-place_all
decreases-place_all l = 2 * l.left + 1

abbrev pub invariant-place_all-loop-expr : goal.invariant-place_all-loop-expr
invariant-place_all-loop-expr l = l.parts ++ map (placed (scheme_at l.names)) (drop l.expr-index l.exprs) ≡ map (placed (scheme_at l.names)) l.exprs
