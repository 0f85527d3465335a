use Rattle.std.proofs.Common.{◌≡◌, take}
use Rattle.fr_switch.proofs.choosing.all_shared.Given as goal

abbrev pub invariant-loop-part : goal.invariant-loop-part
invariant-loop-part l = l.items ≡ take l.part-index l.parts
