use Rattle.std.proofs.Common.{◌∙◌, List, ℕ, None, true, subst, ap, length}
use Rattle.fr_core.specs.declared.program.Program.{Program}
use Rattle.fr_script.specs.Sources.{sources}
use Rattle.fr_meaning.specs.Texts.{Shown}
use Rattle.fr_meaning.specs.Afresh.{beginning, first_instant, instant}
use Rattle.fr_show.specs.Ends.{EndsThere, StopSays}
use Rattle.fr_show.specs.Output.{program_course, shows_of}
use Rattle.fr_run.specs.Written.{Wrote, course_behind}
use Rattle.fr_run.proofs.Changes.{have_texts}
use Rattle.fr_run.proofs.Each.{shows_after}
use Rattle.fr_run.proofs.Wholes.{told_map, first_state, first_ends, first_stops, first_begins}
use Rattle.fr_run.proofs.session.run_from.Goals as goal

pub run_script-requires-clause-stands : goal.run_script-requires-clause-stands
run_script-requires-clause-stands g c = (first_state (g.E.Evaluator.standing c.args.evaluator).program, c.requires.begun.behind.state)

pub run_script-requires-clause-one_each : goal.run_script-requires-clause-one_each
run_script-requires-clause-one_each g c =
    let stands_for = g.E.Evaluator.stands_for c.args.evaluator in
    let e = g.E.Evaluator.standing c.args.evaluator in
    shows_after stands_for e e.program (instant e.program (beginning e.program) first_instant) 0 c.in-Ok.shows c.write_first.new.shows
    (g.O.Sink.written c.args.out.now) (g.O.Sink.written c.write_first.new.out) c.in-Ok-write_first.ensures.ok (ap (λ (shows : List Shown). length shows) (c.in-Ok.ensures ∙ ap (λ (q : Program). shows_of q.body) c.program.ensures))

pub run_script-requires-clause-texts : goal.run_script-requires-clause-texts
run_script-requires-clause-texts g c =
    let stands_for = g.E.Evaluator.stands_for c.args.evaluator in
    let e = g.E.Evaluator.standing c.args.evaluator in
    have_texts stands_for e e.program (instant e.program (beginning e.program) first_instant) 0 c.in-Ok.shows c.write_first.new.shows
    (g.O.Sink.written c.args.out.now) (g.O.Sink.written c.write_first.new.out) c.in-Ok-write_first.ensures.ok

pub returns-in-Ok-run_script-clause-ok : goal.returns-in-Ok-run_script-clause-ok
returns-in-Ok-run_script-clause-ok g c =
    let stands_for = g.E.Evaluator.stands_for c.args.evaluator in
    let e = g.E.Evaluator.standing c.args.evaluator in
    let p = e.program in
    let later = c.write_first.new.shows in
    let x = g.O.Sink.written c.args.out.now in
    let y = g.O.Sink.written c.write_first.new.out in
    let z = g.O.Sink.written c.run_script.new.out in
    let wrote = subst (λ (shows : List Shown). Wrote stands_for e p (instant p (beginning p) first_instant) 0 shows later x y) (c.in-Ok.ensures ∙ ap (λ (q : Program). shows_of q.body) c.program.ensures) c.in-Ok-write_first.ensures.ok in
    told_map (g.S.Shelf.holds c.args.shelf.now c.args.script.now)
    (λ (file : List ℕ). EndsThere None (course_behind p (first_state p) (sources p) file 0 later) y z)
    (λ (file : List ℕ). EndsThere None (program_course p file true) x z)
    (λ file ends. first_ends p stands_for e later x y z file wrote ends)
    (c.in-Ok-run_script.ensures.ok (first_state p) wrote.behind.state)

pub returns-clause-err : goal.returns-clause-err
returns-clause-err g c =
    let stands_for = g.E.Evaluator.stands_for c.args.evaluator in
    let e = g.E.Evaluator.standing c.args.evaluator in
    let p = e.program in
    let later = c.write_first.new.shows in
    let x = g.O.Sink.written c.args.out.now in
    let y = g.O.Sink.written c.write_first.new.out in
    let z = g.O.Sink.written c.run_script.new.out in
    let wrote = subst (λ (shows : List Shown). Wrote stands_for e p (instant p (beginning p) first_instant) 0 shows later x y) (c.in-Ok.ensures ∙ ap (λ (q : Program). shows_of q.body) c.program.ensures) c.in-Ok-write_first.ensures.ok in
    told_map (g.S.Shelf.holds c.args.shelf.now c.args.script.now)
    (λ (file : List ℕ). StopSays c.in-Err-run_script.stop (course_behind p (first_state p) (sources p) file 0 later) y z)
    (λ (file : List ℕ). StopSays c.in-Err-run_script.stop (program_course p file true) x z)
    (λ file says. first_stops c.in-Err-run_script.stop p stands_for e later x y z file wrote c.in-Err-run_script.ensures.unread says)
    (c.in-Err-run_script.ensures.err (first_state p) wrote.behind.state)

pub returns-clause-began : goal.returns-clause-began
returns-clause-began g c is_read file =
    let stands_for = g.E.Evaluator.stands_for c.args.evaluator in
    let e = g.E.Evaluator.standing c.args.evaluator in
    let p = e.program in
    let wrote = subst (λ (shows : List Shown). Wrote stands_for e p (instant p (beginning p) first_instant) 0 shows c.write_first.new.shows (g.O.Sink.written c.args.out.now) (g.O.Sink.written c.write_first.new.out)) (c.in-Ok.ensures ∙ ap (λ (q : Program). shows_of q.body) c.program.ensures) c.in-Ok-write_first.ensures.ok in
    first_begins p stands_for e c.write_first.new.shows _ _ _ file wrote (c.in-Err-run_script.ensures.unread is_read)
