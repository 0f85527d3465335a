-- Each part of a list is smaller than the list.
use Rattle.std.specs.Prelude.{◌+◌, ◌*◌, ◌≤◌, max, List, [], ◌∷◌, ◌++◌}
use Rattle.std.proofs.Common.{arith}
use denote.Param.Weighed.{most}
use Rattle.fr_value.specs.declared.value.Value.{Value}
use Rattle.fr_value.specs.declared.value.Value.TheVariants as value
use Rattle.fr_value.specs.declared.list.Block.{Block}
use Rattle.fr_value.specs.declared.list.More.{More}
use Rattle.fr_value.specs.declared.list.More.TheVariants as more
use Rattle.fr_value.specs.declared.tree.Kids.{Kids}
use Rattle.fr_value.specs.declared.tree.Kids.TheVariants as kids
use Rattle.fr_value.specs.declared.list.List.TheDeep.{deep-Value, deep-Kids, deep-More, deep-Block}
use Rattle.fr_value.specs.Data.{data_of, data_size, datum_of, datum_size, seq_size, datum_positive, total-append, kids_data, more_data}

falls_one : (v : Value) → deep-Value v ≤ 2 * datum_size (datum_of v) + 2
falls_one (value.Int n) = omega arith
falls_one (value.Bool n) = omega arith
falls_one (value.Sym n) = omega arith
falls_one (value.Str n) = omega arith
falls_one (value.List ds) = omega (arith, seq_size ds)

falls_each : (vs : List Value) → most deep-Value vs ≤ 2 * data_size (data_of vs)
falls_each [] = omega arith
falls_each (v ∷ vs) = omega (arith, falls_one v, falls_each vs)

falls_kids : (k : Kids) → deep-Kids k ≤ 2 * data_size (kids_data k) + 1
falls_kids kids.Zero = omega arith
falls_kids (kids.Two a b) = omega (arith, total-append (a.value.0 ∷ a.value.1) (b.value.0 ∷ b.value.1))

falls_more : (m : More) → deep-More m ≤ 2 * data_size (more_data m) + 1
falls_more more.Zero = omega arith
falls_more (more.Row t ds) = omega (arith, datum_positive t.value.0, total-append (t.value.0 ∷ t.value.1) ds)

pub chunk_falls : (v : Value) (vs : List Value) (k : Kids) → max (deep-Value v) (max (most deep-Value vs) (deep-Kids k)) ≤ 2 * data_size (datum_of v ∷ (data_of vs ++ kids_data k))
chunk_falls v vs k = omega (arith, falls_one v, falls_each vs, falls_kids k, datum_positive (datum_of v), total-append (data_of vs) (kids_data k))

pub block_falls : (b : Block) → deep-Block b ≤ 2 * data_size (data_of b.front.items ++ more_data b.more) + 1
block_falls b = omega (arith, falls_each b.front.items, falls_more b.more, total-append (data_of b.front.items) (more_data b.more))
