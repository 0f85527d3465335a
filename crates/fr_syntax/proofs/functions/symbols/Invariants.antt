use Rattle.std.proofs.Common.{◌≡◌, ◌++◌, drop}
use Rattle.std.specs.Option.{option_map}
use Rattle.fr_value.specs.Data.{data_of}
use Rattle.fr_syntax.specs.Shapes.{symbols}
use Rattle.fr_syntax.proofs.functions.symbols.Given as goal

abbrev pub invariant-loop-item : goal.invariant-loop-item
invariant-loop-item l = option_map (λ ss. l.names ++ ss) (symbols (data_of (drop l.item-index l.items))) ≡ symbols (data_of l.items)
