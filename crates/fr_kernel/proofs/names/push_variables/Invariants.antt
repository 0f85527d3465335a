use Rattle.std.proofs.Common.{◌≡◌, ◌++◌, map, take}
use Rattle.fr_kernel.specs.Slots.{slot_of_variable}
use Rattle.fr_kernel.proofs.names.push_variables.Given as goal

abbrev pub invariant-loop-variable : goal.invariant-loop-variable
invariant-loop-variable l = l.slots ≡ l.fn.slots ++ map slot_of_variable (take l.variable-index l.variables)
