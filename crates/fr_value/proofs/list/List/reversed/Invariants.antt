use Rattle.std.proofs.Common.{◌≡◌, ◌++◌, ◌-◌, length, take}
use Rattle.std.specs.Prelude.{reverse}
use Rattle.fr_value.specs.Data.{data_of, more_data}
use Rattle.fr_value.proofs.list.List.reversed.Given as goal

abbrev pub invariant-loop-at : goal.invariant-loop-at
invariant-loop-at l = data_of l.front.items ++ more_data l.more ≡ reverse (take l.at l.self)

abbrev pub decreases-loop-at : goal.decreases-loop-at
decreases-loop-at l = length l.self - l.at
