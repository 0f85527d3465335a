use Rattle.std.proofs.Common.{◌≡◌, ◌++◌}
use Rattle.fr_world.specs.Calls.{late_among}
use Rattle.fr_world.proofs.parts.list_late_members.Given as goal

abbrev pub invariant-loop-id : goal.invariant-loop-id
invariant-loop-id l = l.late.items ≡ l.initial.late.items ++ late_among l.store l.yielded
