use Rattle.std.proofs.Common.{arith}
use Rattle.std.proofs.lemmas.List.{length-map}
use Rattle.fr_value.specs.Data.{data_of, datum_of, length_small}
use Rattle.fr_value.proofs.slices.measure_few.Goals as goal

pub overflow_cast-result : goal.overflow_cast-result
overflow_cast-result c = omega (arith, length_small (data_of c.args.items.now), length-map c.args.items.now datum_of, c.requires.0)
