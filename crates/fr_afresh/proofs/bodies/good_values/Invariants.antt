use Rattle.std.proofs.Common.{◌≡◌, ◌++◌, drop}
use Rattle.std.specs.Option.{option_map}
use Rattle.fr_afresh.specs.Bodies.{all_good}
use Rattle.fr_afresh.proofs.bodies.good_values.Given as goal

abbrev pub invariant-loop-value : goal.invariant-loop-value
invariant-loop-value l = option_map (λ rest. l.good ++ rest) (all_good (drop l.value-index l.values)) ≡ all_good l.values
