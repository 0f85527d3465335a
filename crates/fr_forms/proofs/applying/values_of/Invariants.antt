use Rattle.std.proofs.Common.{◌≡◌, ◌++◌, drop}
use Rattle.std.specs.Option.{option_map}
use Rattle.fr_meaning.specs.Primitives.{plain_values}
use Rattle.fr_forms.proofs.applying.values_of.Given as goal

abbrev pub invariant-loop-arg : goal.invariant-loop-arg
invariant-loop-arg l = option_map (λ rest. l.values ++ rest) (plain_values (drop l.arg-index l.args)) ≡ plain_values l.args
