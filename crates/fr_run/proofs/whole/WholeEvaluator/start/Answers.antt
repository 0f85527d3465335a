use Rattle.std.proofs.Common.{[]}
use Rattle.fr_meaning.specs.Afresh.{beginning, first_instant, instant}
use Rattle.fr_run.specs.Whole.{standing_of, IsItsState}
use Rattle.fr_run.proofs.Begun.{has_begun}
use Rattle.fr_run.proofs.Results.{ok_both, err_map}
use Rattle.fr_run.proofs.whole.WholeEvaluator.start.Goals as goal

pub returns : goal.returns
returns c =
    let p = c.args.program in
    let n = instant p (beginning p) first_instant in
    record {
      well_formed = c.requires.well_formed;
      ok = ok_both c.stand_behind.result _ _ _ (λ e behind changed. has_begun (IsItsState e) (standing_of e) p (behind p n c.start.ensures.ok) (changed [])) c.stand_behind.ensures.ok c.stand_behind.ensures.changed;
      err = err_map c.stand_behind.result _ _ (λ stop h. h 0 n c.start.ensures.err) c.stand_behind.ensures.err;
    }
