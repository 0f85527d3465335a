use Rattle.std.proofs.Common.{length}
use Rattle.fr_value.specs.Data.{tree_data}
use Rattle.fr_value.proofs.tree.Tree.+run.Given as goal

abbrev pub decreases-run : goal.decreases-run
decreases-run l = length (tree_data l.self.now)
