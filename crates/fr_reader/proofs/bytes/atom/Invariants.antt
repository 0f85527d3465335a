use Rattle.std.proofs.Common.{◌≡◌, ◌++◌, take, drop}
use Rattle.fr_value.specs.Bytes.{atom, past_atom}
use Rattle.fr_reader.proofs.bytes.atom.Given as goal

abbrev pub invariant-loop-i : goal.invariant-loop-i
invariant-loop-i l = record {
  value : take l.i l.bytes ++ atom (drop l.i l.bytes) ≡ atom l.fn.bytes;
  rest : past_atom (drop l.i l.bytes) ≡ past_atom l.fn.bytes;
}
