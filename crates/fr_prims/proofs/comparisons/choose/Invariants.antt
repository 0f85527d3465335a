use Rattle.std.proofs.Common.{◌≡◌, drop}
use Rattle.fr_prims.specs.Integers.{chosen}
use Rattle.fr_prims.specs.Choices.{stands_of}
use Rattle.fr_prims.proofs.comparisons.choose.Given as goal

abbrev pub invariant-loop-value : goal.invariant-loop-value
invariant-loop-value l = chosen (stands_of l.relation) l.best (drop l.value-index l.values) ≡ chosen (stands_of l.relation) l.first l.values
