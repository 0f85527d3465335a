use Rattle.std.proofs.Common.{◌≡◌, ◌≤◌, length, take}
use Rattle.fr_build.proofs.building.cut.Given as goal

abbrev pub invariant-loop-env : goal.invariant-loop-env
invariant-loop-env l = record { enough : l.many ≤ length l.env; front : take l.many l.env ≡ take l.many l.fn.env }

abbrev pub decreases-loop-env : goal.decreases-loop-env
decreases-loop-env l = length l.env
