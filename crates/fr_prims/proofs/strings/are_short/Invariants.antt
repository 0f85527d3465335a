use Rattle.std.proofs.Common.{◌≡◌, ◌+◌, ◌≤◌, length, drop}
use Rattle.std.specs.List.{flat_map}
use Rattle.fr_prims.specs.Strings.{text_of}
use Rattle.fr_prims.proofs.strings.are_short.Given as goal

abbrev pub invariant-loop-value : goal.invariant-loop-value
invariant-loop-value l = record {
  so_far : l.size + length (flat_map text_of (drop l.value-index l.strings)) ≡ length (flat_map text_of l.strings);
  small : l.size ≤ 1048575;
}
