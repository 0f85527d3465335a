use Rattle.std.proofs.Common.{◌≡◌, drop}
use Rattle.fr_prims.specs.Integers.{neighbours}
use Rattle.fr_prims.specs.Choices.{stands_of}
use Rattle.fr_prims.proofs.comparisons.all_stand.Given as goal

abbrev pub invariant-loop-value : goal.invariant-loop-value
invariant-loop-value l = neighbours (stands_of l.relation) l.last (drop l.value-index l.values) ≡ neighbours (stands_of l.relation) l.first l.values
