use Rattle.std.proofs.Common.{codes}
use Rattle.fr_cli.proofs.top.fulfil.Goals as goal

pub returns-in-Run : goal.returns-in-Run
returns-in-Run g c = rw c.in-Run.is (c.run.ensures (codes "run"))

pub returns-in-Afresh : goal.returns-in-Afresh
returns-in-Afresh g c = rw c.in-Afresh.is (c.run-in-Afresh.ensures (codes "afresh"))
