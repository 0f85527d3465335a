use Rattle.std.proofs.Common.{◌≡◌, take}
use Rattle.fr_lower.proofs.copying.copy_inputs.Given as goal

abbrev pub invariant-loop-input : goal.invariant-loop-input
invariant-loop-input l = l.copies ≡ take l.input-index l.inputs
