use Rattle.std.proofs.Common.{◌≡◌, map, take}
use Rattle.fr_afresh.proofs.sources.first_values.Given as goal

abbrev pub invariant-loop-input : goal.invariant-loop-input
invariant-loop-input l = l.values ≡ map (λ i. i.first) (take l.input-index l.inputs)
