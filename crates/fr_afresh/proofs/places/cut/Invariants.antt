use Rattle.std.proofs.Common.{◌≡◌, ◌≤◌, length, take}
use Rattle.fr_afresh.proofs.places.cut.Given as goal

abbrev pub invariant-loop-env : goal.invariant-loop-env
invariant-loop-env l = record { enough : l.len ≤ length l.env; front : take l.len l.env ≡ take l.len l.fn.env }

abbrev pub decreases-loop-env : goal.decreases-loop-env
decreases-loop-env l = length l.env
