use Rattle.std.proofs.Common.{sym}
use Rattle.fr_reader.proofs.Numerals.{parsed}
use Rattle.fr_reader.proofs.atoms.integer.Goals as goal

pub returns-in-Ok : goal.returns-in-Ok
returns-in-Ok c = rw (c.ok.ensures.value, sym c.in-Ok.ensures.cases.0) (parsed c.in-Ok.text.now c.parse.result c.parse.ensures.value.0)
