use Rattle.std.proofs.Common.{◌≡◌, ◌++◌, ◌+◌, ◌-◌, drop}
use Rattle.fr_meaning.specs.Afresh.{sources_at}
use Rattle.fr_afresh.specs.Walks.{AreBehind, left_from}
use Rattle.fr_afresh.proofs.sources.source_values.Given as goal

abbrev pub invariant-loop-i : goal.invariant-loop-i
invariant-loop-i l = record {
  behind : AreBehind l.i (drop l.next l.program.inputs);
  so_far : l.sources ++ left_from l.program.inputs l.values l.inputs.sets l.next (l.i + 1) (l.last - l.i) ≡ sources_at l.program l.values l.inputs;
}
