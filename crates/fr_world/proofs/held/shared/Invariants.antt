use Rattle.std.proofs.Common.{◌≡◌, take}
use Rattle.fr_world.proofs.held.shared.Given as goal

abbrev pub invariant-loop-part : goal.invariant-loop-part
invariant-loop-part l = l.held.items ≡ take l.part-index l.parts
