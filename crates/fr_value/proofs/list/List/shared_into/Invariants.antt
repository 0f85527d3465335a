use Rattle.std.proofs.Common.{◌≡◌, ◌++◌, ◌-◌, length, take}
use Rattle.fr_value.specs.Data.{data_of}
use Rattle.fr_value.proofs.list.List.shared_into.Given as goal

abbrev pub invariant-loop-at : goal.invariant-loop-at
invariant-loop-at l = data_of l.out.items ≡ data_of l.fn.out.items ++ take l.at l.self

abbrev pub decreases-loop-at : goal.decreases-loop-at
decreases-loop-at l = length l.self - l.at
