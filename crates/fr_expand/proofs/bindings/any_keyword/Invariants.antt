use Rattle.std.proofs.Common.{◌≡◌, drop}
use Rattle.fr_expand.specs.Faults.{any_keyword}
use Rattle.fr_expand.proofs.bindings.any_keyword.Given as goal

abbrev pub invariant-loop-name : goal.invariant-loop-name
invariant-loop-name l = any_keyword (drop l.name-index l.names) ≡ any_keyword l.names
