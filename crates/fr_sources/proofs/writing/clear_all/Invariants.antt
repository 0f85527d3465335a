use Rattle.std.proofs.Common.{◌≡◌, drop}
use Rattle.fr_sources.specs.Writes.{all_cleared}
use Rattle.fr_sources.proofs.writing.clear_all.Given as goal

abbrev pub invariant-loop-source : goal.invariant-loop-source
invariant-loop-source l = all_cleared (drop l.source-index l.sources) l.values.items ≡ all_cleared l.sources l.initial.values.items
