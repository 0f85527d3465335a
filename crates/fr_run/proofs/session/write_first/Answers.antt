use Rattle.std.proofs.Common.{[]}
use Rattle.fr_meaning.specs.Afresh.{beginning, first_instant}
use Rattle.fr_run.proofs.Changes.{all_printed, none_kept}
use Rattle.fr_run.proofs.Each.{one_each}
use Rattle.fr_run.proofs.Says.{cut_says}
use Rattle.fr_run.proofs.session.write_first.Goals as goal

pub write_text-requires : goal.write_text-requires
write_text-requires g c =
    let e = g.E.Evaluator.standing c.args.evaluator.now in
    let begun = c.requires.begun in
    let long = one_each (g.E.Evaluator.stands_for c.args.evaluator.now) e e.program (beginning e.program) first_instant c.args.shows.now begun.behind c.requires.one_each in
    record {
      one_each = long;
      all = all_printed 0 c.args.shows.now [] e long (none_kept c.args.shows.now) begun.changed;
    }

pub returns-in-Err-clause-err : goal.returns-in-Err-clause-err
returns-in-Err-clause-err g c =
    let e = g.E.Evaluator.standing c.args.evaluator.now in
    cut_says c.in-Err.stop (g.E.Evaluator.stands_for c.args.evaluator.now) e e.program (beginning e.program) first_instant c.args.shows.now
    (g.O.Sink.written c.args.out.now) (g.O.Sink.written c.write_text.new.out) c.requires.begun.behind c.in-Err.ensures.err
