use Rattle.std.proofs.Common.{arith}
use Rattle.fr_value.specs.Data.{datum_of, size-of, depth-of}
use Rattle.fr_reader.proofs.Printed.{valid_again}
use Rattle.fr_reader.proofs.reader.printed_text_reads.Goals as goal

pub returns : goal.returns
returns c = valid_again (datum_of c.args.v.now) c.size.ensures.valid (omega (arith, depth-of c.args.v.now, c.depth.ensures)) (omega (arith, size-of c.args.v.now, c.size.ensures))
