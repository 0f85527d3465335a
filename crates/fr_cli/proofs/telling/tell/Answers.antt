use Rattle.fr_cli.proofs.Writing.{writes_line}
use Rattle.fr_cli.proofs.telling.tell.Goals as goal

pub returns : goal.returns
returns g c = writes_line _ _ _ _ _ _ c.write_line.ensures.ok c.write_line.ensures.err c.write_line.ensures.counts
