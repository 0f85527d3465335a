use Rattle.std.proofs.Common.{◌≡◌, ◌+◌, ◌-◌, ◌*◌, take, length}
use Rattle.fr_value.specs.Data.{data_of, data_size, value_size}
use Rattle.fr_value.proofs.equality.+same.Given as goal

abbrev pub decreases-same_value : goal.decreases-same_value
decreases-same_value l = 3 * value_size l.a.now + 2

abbrev pub decreases-same_lists : goal.decreases-same_lists
decreases-same_lists l = 3 * data_size l.a.now + 1

abbrev pub decreases-same_items : goal.decreases-same_items
decreases-same_items l = 3 * data_size (data_of l.a.now)

abbrev pub invariant-same_lists-loop-at : goal.invariant-same_lists-loop-at
invariant-same_lists-loop-at l = take l.at l.a ≡ take l.at l.b

abbrev pub decreases-same_lists-loop-at : goal.decreases-same_lists-loop-at
decreases-same_lists-loop-at l = length l.a - l.at

abbrev pub invariant-same_items-loop-i : goal.invariant-same_items-loop-i
invariant-same_items-loop-i l = take l.i l.a ≡ take l.i l.b
