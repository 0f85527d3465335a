use Rattle.std.proofs.Common.{◌≡◌, drop}
use Rattle.fr_prims.specs.Integers.{all_pass}
use Rattle.fr_prims.specs.Choices.{kind_of}
use Rattle.fr_prims.proofs.kinds.all_of.Given as goal

abbrev pub invariant-loop-value : goal.invariant-loop-value
invariant-loop-value l = all_pass (kind_of l.kind) (drop l.value-index l.values) ≡ all_pass (kind_of l.kind) l.values
