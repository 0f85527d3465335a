use Rattle.fr_value.proofs.Runs.{run_get}
use Rattle.fr_value.proofs.list.List.at.Goals as goal

pub returns : goal.returns
returns c = run_get c.args.self.now c.args.at c.run.result.0.now c.run.result.1.now c.run.ensures
