use Rattle.std.proofs.Common.{◌≡◌, drop}
use Rattle.fr_prims.specs.Strings.{all_same}
use Rattle.fr_prims.proofs.strings.all_like.Given as goal

abbrev pub invariant-loop-value : goal.invariant-loop-value
invariant-loop-value l = all_same l.first (drop l.value-index l.others) ≡ all_same l.first l.others
