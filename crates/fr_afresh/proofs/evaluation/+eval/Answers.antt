use Rattle.std.proofs.Common.{◌≡◌, Some, None, refl, ap, ◌∙◌, arith}
use Rattle.std.proofs.lemmas.Grind.{common_steps}
use Rattle.std.specs.Option.{option_or}
use Rattle.fr_core.specs.declared.core_form.Core.{out-Core}
use Rattle.fr_core.specs.declared.core_form.Core.TheVariants.{outs-Lit, outs-Var, outs-Source, outs-Let, outs-If, outs-Apply, outs-Operator, outs-Handler, outs-Loop, outs-Feedback}
use Rattle.fr_meaning.specs.Words.{First, Done as Evaluated, under}
use Rattle.fr_meaning.specs.States.{Line}
use Rattle.fr_meaning.specs.Evaluation.{join_part, no_parts, line_done}
use Rattle.fr_meaning.proofs.Levels.{at_zero, at_level}
use Rattle.fr_afresh.specs.Outcomes.{without_cost, unbegun_around, with_kept, lined}
use Rattle.fr_afresh.proofs.evaluation.+eval.Goals as goal

pub eval-returns-then-left-eq0-clause-value : goal.eval-returns-then-left-eq0-clause-value
eval-returns-then-left-eq0-clause-value t c = rw (at_zero _ _ _ _ _ c.if-left-eq0.true, c.too_deep.ensures) refl

pub eval-returns-in-Lit-clause-value : goal.eval-returns-in-Lit-clause-value
eval-returns-in-Lit-clause-value t c =
    rw (at_level c.args.left _ _ _ _ _ c.if-left-eq0.false (ap out-Core c.in-Lit.is ∙ outs-Lit _)) c.eval_literal.ensures

pub eval-returns-in-Var-clause-value : goal.eval-returns-in-Var-clause-value
eval-returns-in-Var-clause-value t c =
    rw (at_level c.args.left _ _ _ _ _ c.if-left-eq0.false (ap out-Core c.in-Var.is ∙ outs-Var _)) (rw c.as_slice.ensures at c.eval_variable.ensures)

pub eval-returns-in-Source-clause-value : goal.eval-returns-in-Source-clause-value
eval-returns-in-Source-clause-value t c =
    rw (at_level c.args.left _ _ _ _ _ c.if-left-eq0.false (ap out-Core c.in-Source.is ∙ outs-Source _)) c.eval_source.ensures

pub eval-returns-in-Let-clause-value : goal.eval-returns-in-Let-clause-value
eval-returns-in-Let-clause-value t c =
    rw (at_level c.args.left _ _ _ _ _ c.if-left-eq0.false (ap out-Core c.in-Let.is ∙ outs-Let _ _)) (rw (c.as_slice-in-Let.ensures, c.get.ensures) at c.eval_let.ensures.value)

pub eval-returns-in-If-clause-value : goal.eval-returns-in-If-clause-value
eval-returns-in-If-clause-value t c =
    rw (at_level c.args.left _ _ _ _ _ c.if-left-eq0.false (ap out-Core c.in-If.is ∙ outs-If _ _ _)) (rw (c.get-in-If.ensures, c.get-in-If-2.ensures, c.get-in-If-3.ensures) at c.eval_if.ensures.value)

pub eval-returns-in-Apply-clause-value : goal.eval-returns-in-Apply-clause-value
eval-returns-in-Apply-clause-value t c =
    rw (at_level c.args.left _ _ _ _ _ c.if-left-eq0.false (ap out-Core c.in-Apply.is ∙ outs-Apply _ _)) (rw c.as_slice-in-Apply.ensures at c.eval_call.ensures.value)

pub eval-returns-in-Operator-clause-value : goal.eval-returns-in-Operator-clause-value
eval-returns-in-Operator-clause-value t c =
    rw (at_level c.args.left _ _ _ _ _ c.if-left-eq0.false (ap out-Core c.in-Operator.is ∙ outs-Operator _ _)) (rw c.as_slice-in-Operator.ensures at c.eval_operator.ensures.value)

pub eval-returns-in-Handler-clause-value : goal.eval-returns-in-Handler-clause-value
eval-returns-in-Handler-clause-value t c =
    rw (at_level c.args.left _ _ _ _ _ c.if-left-eq0.false (ap out-Core c.in-Handler.is ∙ outs-Handler _ _ _)) (rw (c.as_slice-in-Handler.ensures, c.get-in-Handler.ensures) at c.eval_handler.ensures.value)

pub eval-returns-in-Loop-clause-value : goal.eval-returns-in-Loop-clause-value
eval-returns-in-Loop-clause-value t c =
    rw (at_level c.args.left _ _ _ _ _ c.if-left-eq0.false (ap out-Core c.in-Loop.is ∙ outs-Loop _ _ _)) (rw (c.as_slice-in-Loop.ensures, c.get-in-Loop.ensures) at c.eval_loop.ensures.value)

pub eval-returns-in-Feedback-clause-value : goal.eval-returns-in-Feedback-clause-value
eval-returns-in-Feedback-clause-value t c =
    rw (at_level c.args.left _ _ _ _ _ c.if-left-eq0.false (ap out-Core c.in-Feedback.is ∙ outs-Feedback _ _)) (rw (c.get-in-Feedback.ensures, c.get-in-Feedback-2.ensures) at c.eval_feedback.ensures.value)

or_none : (f : First) → option_or f None ≡ f
or_none None = refl
or_none (Some f) = refl

fed_alike : (x y : Evaluated) (l : Line) → lined (with_kept (with_kept unbegun_around 0 x.kept x.first) 1 y.kept y.first) l ≡ without_cost (line_done (join_part 0 x (join_part 1 y no_parts)) l)
fed_alike x y l = rw (or_none (under 1 y.first)) refl

pub eval_feedback-returns-clause-value : goal.eval_feedback-returns-clause-value
eval_feedback-returns-clause-value t c = grind (arith, common_steps, fed_alike)
