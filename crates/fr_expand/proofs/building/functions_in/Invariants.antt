use Rattle.std.proofs.Common.{◌≡◌, ◌++◌, drop}
use Rattle.fr_expand.specs.Expansion.{functions_in}
use Rattle.fr_expand.proofs.building.functions_in.Given as goal

abbrev pub invariant-loop-form : goal.invariant-loop-form
invariant-loop-form l = l.functions ++ functions_in l.globals (drop l.form-index l.forms) ≡ functions_in l.globals l.forms
