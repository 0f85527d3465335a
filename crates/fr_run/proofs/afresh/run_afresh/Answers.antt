use Rattle.std.proofs.Common.{true, None, Ok}
use Rattle.fr_show.specs.Course.{Course}
use Rattle.fr_show.specs.Ends.{EndsThere, StopSays, Begins}
use Rattle.fr_show.specs.Output.{program_course, course_over}
use Rattle.fr_show.proofs.Judged.{says_judged}
use Rattle.fr_run.proofs.Wholes.{told_all, over_told, says_unaccepted}
use Rattle.fr_run.proofs.afresh.run_afresh.Goals as goal

pub returns-in-Err-clause-err : goal.returns-in-Err-clause-err
returns-in-Err-clause-err g c =
    rw c.into_stop.ensures.value (says_unaccepted c.args.program.now (g.S.Shelf.holds c.args.shelf.now c.args.script.now) c.in-Err.stop (g.O.Sink.written c.args.out.now) c.in-Err.ensures.refused)

pub returns-in-Ok-run_begun-clause-ok : goal.returns-in-Ok-run_begun-clause-ok
returns-in-Ok-run_begun-clause-ok g c =
    let held = g.S.Shelf.holds c.args.shelf.now c.args.script.now in (
      Ok c.in-Ok.program,
      c.in-Ok.ensures.accepted,
      over_told c.in-Ok.program held (λ (d : Course). EndsThere None d (g.O.Sink.written c.args.out.now) (g.O.Sink.written c.run_begun.new.out)) (c.in-Ok-run_begun.ensures.ok c.in-Ok.program c.start-begun.ensures),
    )

pub returns-in-Err-run_begun-clause-err : goal.returns-in-Err-run_begun-clause-err
returns-in-Err-run_begun-clause-err g c =
    let held = g.S.Shelf.holds c.args.shelf.now c.args.script.now in
    says_judged (course_over held) c.args.program.now (Ok c.in-Ok.program) c.in-Err-run_begun.stop (g.O.Sink.written c.args.out.now) (g.O.Sink.written c.run_begun.new.out)
    c.in-Ok.ensures.accepted
    (over_told c.in-Ok.program held (λ (d : Course). StopSays c.in-Err-run_begun.stop d (g.O.Sink.written c.args.out.now) (g.O.Sink.written c.run_begun.new.out)) (c.in-Err-run_begun.ensures.err c.in-Ok.program c.start-begun.ensures))

pub returns-in-Err-run_begun-clause-began : goal.returns-in-Err-run_begun-clause-began
returns-in-Err-run_begun-clause-began g c e any =
    let p = c.in-Ok.program in
    let begins = λ (d : Course). Begins d (g.O.Sink.written c.args.out.now) (g.O.Sink.written c.run_begun.new.out) in
    (Ok p, c.in-Ok.ensures.accepted, over_told p any begins (told_all any (λ file. begins (program_course p file true)) (c.in-Err-run_begun.ensures.began e p c.start-begun.ensures)))

pub run_begun-requires : goal.run_begun-requires
run_begun-requires g c = (c.in-Ok.program, c.start-begun.ensures)
