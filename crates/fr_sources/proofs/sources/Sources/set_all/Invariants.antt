use Rattle.std.proofs.Common.{◌≡◌, drop}
use Rattle.fr_sources.specs.Instants.{Keeps}
use Rattle.fr_sources.specs.Writes.{all_written}
use Rattle.fr_sources.proofs.sources.Sources.set_all.Given as goal

abbrev pub invariant-loop-i : goal.invariant-loop-i
invariant-loop-i l = record {
  values : all_written (drop l.i l.sets) l.self.values.items ≡ all_written l.sets l.initial.self.values.items;
  keeps : Keeps l.initial.self l.self;
}
