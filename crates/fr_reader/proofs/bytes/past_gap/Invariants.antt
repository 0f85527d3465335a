use Rattle.std.proofs.Common.{◌≡◌, ◌≤◌, length, false}
use Rattle.fr_value.specs.Bytes.{skip}
use Rattle.fr_reader.proofs.bytes.past_gap.Given as goal

abbrev pub invariant-loop-b : goal.invariant-loop-b
invariant-loop-b l = record {
  value : skip l.comment l.rest ≡ skip false l.fn.bytes;
  less : length l.rest ≤ length l.fn.bytes;
}

abbrev pub decreases-loop-b : goal.decreases-loop-b
decreases-loop-b l = length l.rest
