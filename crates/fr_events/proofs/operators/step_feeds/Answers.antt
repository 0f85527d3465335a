use Rattle.fr_forms.specs.Lent.{earlier}
use Rattle.fr_events.proofs.Early.{feeds_told}
use Rattle.fr_events.proofs.operators.step_feeds.Goals as goal

pub returns : goal.returns
returns c = λ left t n. feeds_told c.step_operator.result left t n (earlier c.args.cell) c.args.inputs.now (c.step_operator.ensures left)
