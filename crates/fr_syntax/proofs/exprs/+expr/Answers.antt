use Rattle.std.proofs.Common.{sym, ◌∙◌, ◌-◌}
use Rattle.fr_syntax.specs.Shapes.{expr_to}
use Rattle.fr_syntax.proofs.LastClauses.{no_else, no_tests, all_parts}
use Rattle.fr_syntax.proofs.Levels.{no_levels, level}
use Rattle.fr_syntax.proofs.exprs.+expr.Goals as goal

pub expr-returns-then-levels-eq0 : goal.expr-returns-then-levels-eq0
expr-returns-then-levels-eq0 t c = sym (no_levels c.args.levels _ c.if-levels-eq0.true)

pub expr-returns-in-Some : goal.expr-returns-in-Some
expr-returns-in-Some t c = rw (level c.args.levels c.args.v.now c.if-levels-eq0.false, ← c.in-Some.ensures (expr_to (c.args.levels - 1))) c.filled.ensures

pub expr-returns : goal.expr-returns
expr-returns t c = rw (level c.args.levels c.args.v.now c.if-levels-eq0.false) (c.in-None.ensures (expr_to (c.args.levels - 1)))

pub cond_parts-returns-in_default-else_part : goal.cond_parts-returns-in_default-else_part
cond_parts-returns-in_default-else_part t c =
    no_else (expr_to c.args.levels) c.args.items.now c.in-Some.first.now c.in-Some.last.now c.in-Some.ensures.cases.0 (c.in_default-else_part.ensures (expr_to c.args.levels))

pub cond_parts-returns-in-Some-2 : goal.cond_parts-returns-in-Some-2
cond_parts-returns-in-Some-2 t c =
    rw c.both.ensures
    (all_parts (expr_to c.args.levels) c.args.items.now c.in-Some.first.now c.in-Some.last.now c.in-Some-else_part.last.now c.in-Some-2.found c.expr.result c.in-Some.ensures.cases.0
    (c.in-Some-else_part.ensures (expr_to c.args.levels)) (sym c.in-Some-2.is ∙ c.in_ok-found.ensures) c.expr.ensures)

pub cond_parts-returns-in-None : goal.cond_parts-returns-in-None
cond_parts-returns-in-None t c =
    no_tests (expr_to c.args.levels) c.args.items.now c.in-Some.first.now c.in-Some.last.now c.in-Some.ensures.cases.0 (sym c.in-None.is ∙ c.in_ok-found.ensures)
