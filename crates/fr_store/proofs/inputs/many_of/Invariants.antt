use Rattle.std.proofs.Common.{◌≡◌, take}
use Rattle.fr_store.specs.Rows.{signals}
use Rattle.fr_store.proofs.inputs.many_of.Given as goal

abbrev pub invariant-loop-input : goal.invariant-loop-input
invariant-loop-input l = signals l.ids.items ≡ take l.input-index l.inputs
