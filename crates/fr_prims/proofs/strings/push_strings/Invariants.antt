use Rattle.std.proofs.Common.{◌≡◌, ◌++◌, drop}
use Rattle.std.specs.String.{string_bytes}
use Rattle.std.specs.List.{flat_map}
use Rattle.fr_prims.specs.Strings.{text_of}
use Rattle.fr_prims.proofs.strings.push_strings.Given as goal

abbrev pub invariant-loop-value : goal.invariant-loop-value
invariant-loop-value l = string_bytes l.text ++ flat_map text_of (drop l.value-index l.strings) ≡ string_bytes l.fn.text ++ flat_map text_of l.strings
