use Rattle.std.proofs.Common.{◌≡◌, ◌++◌, drop}
use Rattle.fr_meaning.specs.Afresh.{latest}
use Rattle.fr_afresh.proofs.sources.latest_values.Given as goal

abbrev pub invariant-loop-i : goal.invariant-loop-i
invariant-loop-i l = l.new ++ latest (drop l.i l.inputs) (drop l.i l.values) l.sets ≡ latest l.inputs l.values l.sets
