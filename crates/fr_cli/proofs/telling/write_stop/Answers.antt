use Rattle.fr_cli.specs.Lines.{failure_line}
use Rattle.fr_cli.proofs.telling.write_stop.Goals as goal

pub returns-in-Program-clause-ok : goal.returns-in-Program-clause-ok
unfolding failure_line
returns-in-Program-clause-ok g c = rw c.in-Program.is (rw c.program_end.ensures at c.write_place.ensures.ok)

pub returns-in-Program-clause-err : goal.returns-in-Program-clause-err
unfolding failure_line
returns-in-Program-clause-err g c = rw c.in-Program.is (rw c.program_end.ensures at c.write_place.ensures.err)

pub returns-in-Script-clause-ok : goal.returns-in-Script-clause-ok
unfolding failure_line
returns-in-Script-clause-ok g c = rw c.in-Script.is (rw c.script_end.ensures at c.write_place-in-Script.ensures.ok)

pub returns-in-Script-clause-err : goal.returns-in-Script-clause-err
unfolding failure_line
returns-in-Script-clause-err g c = rw c.in-Script.is (rw c.script_end.ensures at c.write_place-in-Script.ensures.err)

pub returns-in-Evaluation-clause-ok : goal.returns-in-Evaluation-clause-ok
unfolding failure_line
returns-in-Evaluation-clause-ok g c = rw c.in-Evaluation.is c.write_place-in-Evaluation.ensures.ok

pub returns-in-Evaluation-clause-err : goal.returns-in-Evaluation-clause-err
unfolding failure_line
returns-in-Evaluation-clause-err g c = rw c.in-Evaluation.is c.write_place-in-Evaluation.ensures.err

pub returns-in-Read-clause-ok : goal.returns-in-Read-clause-ok
unfolding failure_line
returns-in-Read-clause-ok g c = rw c.in-Read.is c.write_all.ensures.ok

pub returns-in-Read-clause-err : goal.returns-in-Read-clause-err
unfolding failure_line
returns-in-Read-clause-err g c = rw c.in-Read.is c.write_all.ensures.err
