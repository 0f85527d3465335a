use Rattle.std.proofs.Common.{◌∙◌, ap, Err, Option, refl, subst, sym}
use Rattle.fr_core.specs.WellFormed.{IsWellFormed}
use Rattle.fr_core.specs.declared.inputs.Inputs.{Inputs}
use Rattle.fr_meaning.specs.Afresh.{handed_on, instant}
use Rattle.fr_run.specs.Written.{course_behind}
use Rattle.fr_run.proofs.Changes.{have_texts}
use Rattle.fr_run.proofs.Each.{shows_after}
use Rattle.fr_run.proofs.Loops.{GivesNext, none_done, one_done, all_done, ends_here, stops_here}
use Rattle.fr_run.proofs.Times.{next_in_range}
use Rattle.fr_run.proofs.session.run_on.Goals as goal

pub instants-init : goal.instants-init
instants-init g c =
    let e = c.args.evaluator in
    record {
      well_formed = c.requires.well_formed;
      stands = c.requires.stands;
      each = c.requires.one_each;
      texts = c.requires.texts;
      so_far = λ s stands ss script given h.
          none_done ss script given c.args.reader.now (g.E.Evaluator.stands_for e) (g.E.Evaluator.standing e).program s c.args.shows.now (g.O.Sink.written c.args.out.now) stands h;
      counts = refl;
    }

pub returns-in-Ok-None-clause-ok : goal.returns-in-Ok-None-clause-ok
returns-in-Ok-None-clause-ok g c s stands ss script given h =
    let tells = subst (λ (o : Option Inputs). GivesNext c.instants.reader c.next_instant.new.reader o) c.in-Ok-None.field-0-is c.in-Ok-None.ensures.ok in
    let now = c.instants.evaluator in
    all_done ss script (course_behind (g.E.Evaluator.standing c.args.evaluator).program s ss script given c.args.shows.now) c.instants.reader c.next_instant.new.reader
    (g.E.Evaluator.stands_for now) (g.E.Evaluator.standing now).program c.instants.shows
    (g.O.Sink.written c.args.out.now) (g.O.Sink.written c.instants.out) (λ k fed. tells ss script k fed) (c.instants.invariant.so_far s stands ss script given h)

pub returns-in-Err-clause-err : goal.returns-in-Err-clause-err
returns-in-Err-clause-err g c s stands ss script given h =
    let now = c.instants.evaluator in
    ends_here c.in-Err.stop ss script (course_behind (g.E.Evaluator.standing c.args.evaluator).program s ss script given c.args.shows.now) c.instants.reader
    (g.E.Evaluator.stands_for now) (g.E.Evaluator.standing now).program c.instants.shows
    (g.O.Sink.written c.args.out.now) (g.O.Sink.written c.instants.out) (λ e. c.in-Err.ensures.no_read (ap Err e)) (λ k fed. c.in-Err.ensures.err ss script k fed)
    (c.instants.invariant.so_far s stands ss script given h)

pub returns-in-Err-step-clause-err : goal.returns-in-Err-step-clause-err
returns-in-Err-step-clause-err g c s stands ss script given h =
    let tells = subst (λ (o : Option Inputs). GivesNext c.instants.reader c.next_instant.new.reader o) c.in-Ok-Some.field-0-is c.in-Ok-Some.ensures.ok in
    let now = c.instants.evaluator in
    stops_here c.in-Err-step.stop ss script (course_behind (g.E.Evaluator.standing c.args.evaluator).program s ss script given c.args.shows.now) c.instants.reader c.next_instant.new.reader
    (g.E.Evaluator.stands_for now) (g.E.Evaluator.standing now).program c.instants.shows c.in-Ok-Some.inputs
    (g.O.Sink.written c.args.out.now) (g.O.Sink.written c.instants.out) (g.O.Sink.written c.step.new.out) (λ e. c.in-Err-step.ensures.no_read (ap Err e)) (λ k fed. tells ss script k fed)
    (c.instants.invariant.so_far s stands ss script given h) c.in-Err-step.ensures.err

pub instants-preserved : goal.instants-preserved
instants-preserved g c =
    let before = c.instants.evaluator in
    let next = c.in-Ok.next in
    let stands_for = g.E.Evaluator.stands_for next in
    let e = g.E.Evaluator.standing next in
    let p = (g.E.Evaluator.standing before).program in
    let i = c.in-Ok-Some.inputs in
    let tells = subst (λ (o : Option Inputs). GivesNext c.instants.reader c.next_instant.new.reader o) c.in-Ok-Some.field-0-is c.in-Ok-Some.ensures.ok in
    let some = c.instants.invariant.stands in
    let n = instant p some.0 i in
    let wrote = c.in-Ok.ensures.ok some.0 some.1 in
    record {
      well_formed = subst IsWellFormed (sym wrote.behind.program) c.instants.invariant.well_formed;
      stands = (handed_on n, wrote.behind.state);
      each = shows_after stands_for e p n i.time c.instants.shows c.step.new.shows (g.O.Sink.written c.instants.out) (g.O.Sink.written c.step.new.out) wrote c.instants.invariant.each;
      texts = have_texts stands_for e p n i.time c.instants.shows c.step.new.shows (g.O.Sink.written c.instants.out) (g.O.Sink.written c.step.new.out) wrote;
      so_far = λ s stands ss script given h.
          one_done ss script (course_behind (g.E.Evaluator.standing c.args.evaluator).program s ss script given c.args.shows.now) c.instants.reader c.next_instant.new.reader
          (g.E.Evaluator.stands_for before) stands_for p e c.instants.shows c.step.new.shows i
          (g.O.Sink.written c.args.out.now) (g.O.Sink.written c.instants.out) (g.O.Sink.written c.step.new.out) (λ k fed. tells ss script k fed)
          (c.instants.invariant.so_far s stands ss script given h) c.in-Ok.ensures.ok;
      counts = c.in-Ok.ensures.counts.stays (λ e. e) ∙ c.instants.invariant.counts;
    }

pub step-requires-clause-time : goal.step-requires-clause-time
step-requires-clause-time g c =
    let tells = subst (λ (o : Option Inputs). GivesNext c.instants.reader c.next_instant.new.reader o) c.in-Ok-Some.field-0-is c.in-Ok-Some.ensures.ok in
    let fed = c.requires.fed in
    let some = c.requires.stands in
    let far = c.instants.invariant.so_far some.0 some.1 fed.0 fed.1 fed.2 fed.3 in
    let gives = tells fed.0 fed.1 far.given far.fed in
    next_in_range fed.0 fed.1 far.given c.in-Ok-Some.inputs _ gives.0
