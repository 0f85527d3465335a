use Rattle.std.proofs.Common.{◌≡◌, ap, sym, ◌∙◌, None}
use Rattle.fr_forms.specs.Lent.{earlier}
use Rattle.fr_meaning.specs.States.{gives}
use Rattle.fr_events.proofs.Early.{late_line, prompt_line}
use Rattle.fr_events.proofs.operators.early_line.Goals as goal

pub returns-then-is_late : goal.returns-then-is_late
returns-then-is_late c =
    c.value_alone.ensures ∙ ap (λ l. gives l.value None) c.in_ok-line.ensures ∙ late_line c.args.operator (earlier c.args.cell) c.args.inputs.now (sym c.if-is_late.ensures)

pub returns-else-is_late : goal.returns-else-is_late
returns-else-is_late c = c.in_ok-line.ensures ∙ prompt_line c.args.operator (earlier c.args.cell) c.args.inputs.now (sym c.if-is_late.ensures)
