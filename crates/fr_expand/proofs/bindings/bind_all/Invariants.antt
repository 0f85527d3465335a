use Rattle.std.proofs.Common.{◌≡◌, ◌++◌, ◌+◌, drop, length}
use Rattle.fr_expand.specs.Faults.{named}
use Rattle.fr_expand.proofs.bindings.bind_all.Given as goal

abbrev pub invariant-loop-name : goal.invariant-loop-name
invariant-loop-name l = record {
  bound : l.scope ++ named (drop l.name-index l.names) ≡ l.fn.scope ++ named l.names;
  counted : length l.scope ≡ length l.fn.scope + l.name-index;
}
