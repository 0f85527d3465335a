use Rattle.std.proofs.Common.{subst, sym}
use Rattle.fr_meaning.specs.Afresh.{State, instant}
use Rattle.fr_afresh.specs.Stands.{state_of}
use Rattle.fr_run.specs.Standing.{IsBehind, IsCause}
use Rattle.fr_run.specs.Whole.{standing_of, IsItsState}
use Rattle.fr_run.proofs.Results.{ok_map, err_map}
use Rattle.fr_run.proofs.whole.WholeEvaluatorEvaluator.instant.Goals as goal

pub returns-clause-ok : goal.returns-clause-ok
returns-clause-ok c =
    let p = (standing_of c.args.self).program in
    let i = c.args.inputs.now in
    ok_map c.stand_behind.result _ _ (λ e h s is.
    subst (λ (t : State). IsBehind (IsItsState e) (standing_of e) p (instant p t i)) (sym is) (h p (instant p (state_of c.args.self.afresh) i) c.instant.ensures.ok))
    c.stand_behind.ensures.ok

pub returns-clause-changed : goal.returns-clause-changed
returns-clause-changed c = ok_map c.stand_behind.result _ _ (λ e h. h (standing_of c.args.self).shown) c.stand_behind.ensures.changed

pub returns-clause-err : goal.returns-clause-err
returns-clause-err c =
    let p = (standing_of c.args.self).program in
    let i = c.args.inputs.now in
    err_map c.stand_behind.result _ _ (λ stop h s is.
    subst (λ (t : State). IsCause stop (instant p t i)) (sym is) (h i.time (instant p (state_of c.args.self.afresh) i) c.instant.ensures.err))
    c.stand_behind.ensures.err
