use Rattle.fr_run.proofs.Changes.{all_printed}
use Rattle.fr_run.proofs.Each.{one_each}
use Rattle.fr_run.proofs.Says.{cut_says}
use Rattle.fr_run.proofs.session.step.Goals as goal

pub write_text-requires : goal.write_text-requires
write_text-requires g c =
    let e = g.E.Evaluator.standing c.args.evaluator in
    let next = g.E.Evaluator.standing c.in-Ok.next in
    let some = c.requires.stands in
    let long = one_each (g.E.Evaluator.stands_for c.in-Ok.next) next e.program some.0 c.args.inputs.now c.args.shows.now (c.in-Ok.ensures.ok some.0 some.1) c.requires.one_each in
    record {
      one_each = long;
      all = all_printed c.args.inputs.now.time c.args.shows.now e.shown next long c.requires.texts c.in-Ok.ensures.changed;
    }

pub returns-in-Err-write_text-clause-err : goal.returns-in-Err-write_text-clause-err
returns-in-Err-write_text-clause-err g c s stands =
    let e = g.E.Evaluator.standing c.args.evaluator in
    cut_says c.in-Err-write_text.stop (g.E.Evaluator.stands_for c.in-Ok.next) (g.E.Evaluator.standing c.in-Ok.next) e.program s c.args.inputs.now c.args.shows.now
    (g.O.Sink.written c.args.out.now) (g.O.Sink.written c.write_text.new.out) (c.in-Ok.ensures.ok s stands) c.in-Err-write_text.ensures.err
