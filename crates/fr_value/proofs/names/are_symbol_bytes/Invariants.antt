use Rattle.std.proofs.Common.{◌≡◌, drop}
use Rattle.fr_value.specs.Bytes.{are_symbol_bytes}
use Rattle.fr_value.proofs.names.are_symbol_bytes.Given as goal

abbrev pub invariant-loop-b : goal.invariant-loop-b
invariant-loop-b l = are_symbol_bytes (drop l.b-index l.bytes) ≡ are_symbol_bytes l.fn.bytes
