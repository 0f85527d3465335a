use Rattle.fr_meaning.specs.Evaluation.{most_levels}
use Rattle.fr_afresh.proofs.Instants.{told_cleanly}
use Rattle.fr_afresh.proofs.bodies.eval_body.Goals as goal

pub returns-clause-clean : goal.returns-clause-clean
returns-clause-clean c = told_cleanly c.eval_items.result most_levels c.of-world.result c.args.kept.now c.as_slice-2.result.now c.eval_items.ensures
