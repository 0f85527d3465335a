use Rattle.std.proofs.Common.{◌≡◌, ◌++◌, map, take}
use Rattle.fr_kernel.specs.Slots.{slot_of_source}
use Rattle.fr_kernel.proofs.names.push_sources.Given as goal

abbrev pub invariant-loop-source : goal.invariant-loop-source
invariant-loop-source l = l.slots ≡ l.fn.slots ++ map slot_of_source (take l.source-index l.sources)
