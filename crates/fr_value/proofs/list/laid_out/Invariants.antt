use Rattle.std.proofs.Common.{◌≡◌, ◌++◌, length}
use Rattle.fr_value.specs.Data.{data_of, more_data}
use Rattle.fr_value.proofs.list.laid_out.Given as goal

abbrev pub invariant-loop-items : goal.invariant-loop-items
invariant-loop-items l = data_of l.items.items ++ more_data l.more ≡ data_of l.fn.items.items ++ more_data l.fn.more

abbrev pub decreases-loop-items : goal.decreases-loop-items
decreases-loop-items l = length l.items.items
