use Rattle.std.proofs.Common.{length}
use Rattle.fr_value.proofs.list.List.+run.Given as goal

abbrev pub decreases-run : goal.decreases-run
decreases-run l = length l.self.now
