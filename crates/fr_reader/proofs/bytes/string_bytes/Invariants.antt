use Rattle.std.proofs.Common.{◌≡◌, ◌≤◌, length, false}
use Rattle.std.specs.Option.{option_map}
use Rattle.fr_value.specs.Bytes.{string, behind}
use Rattle.fr_reader.proofs.bytes.string_bytes.Given as goal

abbrev pub invariant-loop-b : goal.invariant-loop-b
invariant-loop-b l = record {
  value : option_map (behind l.out.items) (string false l.rest) ≡ string false l.fn.bytes;
  less : length l.rest ≤ length l.fn.bytes;
}

abbrev pub decreases-loop-b : goal.decreases-loop-b
decreases-loop-b l = length l.rest
