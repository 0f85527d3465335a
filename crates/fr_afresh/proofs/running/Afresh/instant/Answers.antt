use Rattle.fr_afresh.specs.Stands.{state_of}
use Rattle.fr_afresh.proofs.Instants.{stands_behind, errs_behind}
use Rattle.fr_afresh.proofs.running.Afresh.instant.Goals as goal

pub returns-clause-ok : goal.returns-clause-ok
returns-clause-ok c =
    stands_behind c.stand_behind.result c.in_ok-values.values c.in_ok-done.done c.args.self.program (state_of c.args.self) c.args.inputs.now
    (rw (c.as_slice.ensures, c.as_slice-2.ensures) at c.in_ok-values.ensures) (rw c.as_slice-3.ensures at c.in_ok-done.ensures.evaluated) c.stand_behind.ensures.ok

pub returns-clause-err : goal.returns-clause-err
returns-clause-err c =
    errs_behind c.stand_behind.result c.in_ok-values.values c.in_ok-done.done c.args.self.program (state_of c.args.self) c.args.inputs.now
    (rw (c.as_slice.ensures, c.as_slice-2.ensures) at c.in_ok-values.ensures) (rw c.as_slice-3.ensures at c.in_ok-done.ensures.evaluated) c.stand_behind.ensures.err
