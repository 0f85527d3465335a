use Rattle.std.proofs.Common.{◌≡◌, take}
use Rattle.fr_store.proofs.inputs.shared.Given as goal

abbrev pub invariant-loop-input : goal.invariant-loop-input
invariant-loop-input l = l.row.items ≡ take l.input-index l.inputs
