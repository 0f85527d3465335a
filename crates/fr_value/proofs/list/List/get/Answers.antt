use Rattle.std.proofs.Common.{sym, arith}
use Rattle.std.proofs.lemmas.Option.{slice_get_past}
use Rattle.fr_value.proofs.Runs.{run_get}
use Rattle.fr_value.proofs.list.List.get.Goals as goal

pub returns-then-at-len : goal.returns-then-at-len
returns-then-at-len c = sym (run_get c.args.self.now c.args.at c.run.result.0.now c.run.result.1.now c.run.ensures)

pub returns-else-at-len : goal.returns-else-at-len
returns-else-at-len c = sym (slice_get_past c.args.self.now c.args.at (omega arith))
