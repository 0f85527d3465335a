use Rattle.std.proofs.Common.{◌≡◌, false, take}
use Rattle.fr_expand.specs.Faults.{any_twice}
use Rattle.fr_expand.proofs.Repeats.{Seen}
use Rattle.fr_expand.proofs.bindings.any_twice.Given as goal

abbrev pub invariant-loop-name : goal.invariant-loop-name
invariant-loop-name l = record {
  seen : Seen (take l.name-index l.names) l.seen;
  apart : any_twice (take l.name-index l.names) ≡ false;
}
