use Rattle.std.proofs.Common.{◌≡◌, drop}
use Rattle.fr_sources.specs.Writes.{firsts_put}
use Rattle.fr_sources.proofs.beginning.put_firsts.Given as goal

abbrev pub invariant-loop-input : goal.invariant-loop-input
invariant-loop-input l = firsts_put (drop l.input-index l.inputs) l.values.items ≡ firsts_put l.inputs l.initial.values.items
