use Rattle.std.proofs.Common.{ℕ, ◌+◌, ◌*◌, take}
use Rattle.fr_build.specs.Builds.{PartsMade}
use Rattle.fr_build.proofs.building.+build.Given as goal

-- the measure where so many levels are left, and so many calls may follow one another at most before the next level
abbrev on_level : ℕ → ℕ → ℕ
on_level levels calls = 4 * levels + calls

abbrev pub decreases-build_expr : goal.decreases-build_expr
decreases-build_expr g l = on_level l.setting.now.below 0

abbrev pub decreases-build_parts : goal.decreases-build_parts
decreases-build_parts g l = on_level l.setting.now.below 1

abbrev pub decreases-build_let : goal.decreases-build_let
decreases-build_let g l = on_level l.setting.now.below 3

abbrev pub decreases-build_if : goal.decreases-build_if
decreases-build_if g l = on_level l.setting.now.below 3

abbrev pub decreases-build_call : goal.decreases-build_call
decreases-build_call g l = on_level l.setting.now.below 3

abbrev pub decreases-build_operator : goal.decreases-build_operator
decreases-build_operator g l = on_level l.setting.now.below 3

abbrev pub decreases-build_handler : goal.decreases-build_handler
decreases-build_handler g l = on_level l.setting.now.below 3

abbrev pub decreases-build_loop : goal.decreases-build_loop
decreases-build_loop g l = on_level l.setting.now.below 3

abbrev pub decreases-build_feedback : goal.decreases-build_feedback
decreases-build_feedback g l = on_level l.setting.now.below 3

abbrev pub invariant-build_parts-loop-expr : goal.invariant-build_parts-loop-expr
invariant-build_parts-loop-expr g l =
    PartsMade l.setting.plan.now l.setting.era.0 l.setting.below (take l.expr-index l.exprs) l.fn.env l.env (g.N.Nodes.way l.fn.nodes) (g.N.Nodes.way l.nodes) (g.N.Nodes.has_era l.fn.nodes) (g.N.Nodes.has_era l.nodes) l.parts
