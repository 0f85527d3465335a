use Rattle.std.proofs.Common.{◌≡◌, List, ℕ, None, take, length}
use Rattle.fr_io.specs.Files.{ReachesFront}
use Rattle.fr_script.specs.Sources.{sources}
use Rattle.fr_show.specs.declared.stop.Stop.TheVariants.{Memory, Read}
use Rattle.fr_show.specs.Ends.{EndsThere, StopSays}
use Rattle.fr_show.proofs.Courses.{nothing_whole}
use Rattle.fr_run.specs.Written.{course_behind}
use Rattle.fr_run.proofs.Wholes.{told_all, told_map, fed_file, read_whole}
use Rattle.fr_run.proofs.session.run_script.Goals as goal

pub returns-in-Err-Memory-clause-err : goal.returns-in-Err-Memory-clause-err
returns-in-Err-Memory-clause-err g c s stands =
    let e = g.E.Evaluator.standing c.args.evaluator in
    told_all (g.S.Shelf.holds c.args.shelf.now c.args.script.now)
    (λ (file : List ℕ). StopSays (Memory c.in-Err-Memory.e) (course_behind e.program s (sources e.program) file 0 c.args.shows.now) (g.O.Sink.written c.args.out.now) (g.O.Sink.written c.args.out.now))
    (λ file. nothing_whole (course_behind e.program s (sources e.program) file 0 c.args.shows.now).texts (g.O.Sink.written c.args.out.now))

pub returns-in-Err-Failed-clause-err : goal.returns-in-Err-Failed-clause-err
returns-in-Err-Failed-clause-err g c s stands =
    let e = g.E.Evaluator.standing c.args.evaluator in
    told_all (g.S.Shelf.holds c.args.shelf.now c.args.script.now)
    (λ (file : List ℕ). StopSays Read (course_behind e.program s (sources e.program) file 0 c.args.shows.now) (g.O.Sink.written c.args.out.now) (g.O.Sink.written c.args.out.now))
    (λ file. nothing_whole (take 1 (course_behind e.program s (sources e.program) file 0 c.args.shows.now).texts) (g.O.Sink.written c.args.out.now))

pub returns-in-Err-clause-err : goal.returns-in-Err-clause-err
returns-in-Err-clause-err g c s stands =
    let e = g.E.Evaluator.standing c.args.evaluator in
    told_all (g.S.Shelf.holds c.args.shelf.now c.args.script.now)
    (λ (file : List ℕ). StopSays (Memory c.in-Err.e) (course_behind e.program s (sources e.program) file 0 c.args.shows.now) (g.O.Sink.written c.args.out.now) (g.O.Sink.written c.args.out.now))
    (λ file. nothing_whole (course_behind e.program s (sources e.program) file 0 c.args.shows.now).texts (g.O.Sink.written c.args.out.now))

pub returns-in-Ok-run_on-clause-ok : goal.returns-in-Ok-run_on-clause-ok
returns-in-Ok-run_on-clause-ok g c s stands =
    let e = g.E.Evaluator.standing c.args.evaluator in
    told_map (g.S.Shelf.holds c.args.shelf.now c.args.script.now) (λ (file : List ℕ). c.in-Ok.bytes.items ≡ take 1099511627777 file)
    (λ (file : List ℕ). EndsThere None (course_behind e.program s (sources e.program) file 0 c.args.shows.now) (g.O.Sink.written c.args.out.now) (g.O.Sink.written c.run_on.new.out))
    (λ file is. c.in-Ok-run_on.ensures.ok s stands (sources e.program) file 0 (fed_file c.in-Ok-reader_of.reader e.program c.program.result.now c.deref.result.now c.in-Ok.bytes.items file c.in-Ok-reader_of.ensures.file c.program.ensures c.deref.ensures.value is))
    c.in-Ok.ensures.bytes

pub returns-in-Ok-run_on-clause-to_end : goal.returns-in-Ok-run_on-clause-to_end
returns-in-Ok-run_on-clause-to_end g c =
    let e = g.E.Evaluator.standing c.args.evaluator in
    let s = c.requires.stands.0 in
    let stands = c.requires.stands.1 in
    told_map (g.S.Shelf.holds c.args.shelf.now c.args.script.now) (λ (file : List ℕ). c.in-Ok.bytes.items ≡ take 1099511627777 file)
    (λ (file : List ℕ). ReachesFront (g.S.Shelf.reached c.args.shelf.now c.args.script.now) (g.S.Shelf.reached c.read_up_to.new.shelf c.args.script.now) (length file))
    (λ file is.
    read_whole e.program s (sources e.program) file c.in-Ok.bytes.items 0 c.args.shows.now (g.O.Sink.written c.args.out.now) (g.O.Sink.written c.run_on.new.out) _ _ is
    (c.in-Ok-run_on.ensures.ok s stands (sources e.program) file 0 (fed_file c.in-Ok-reader_of.reader e.program c.program.result.now c.deref.result.now c.in-Ok.bytes.items file c.in-Ok-reader_of.ensures.file c.program.ensures c.deref.ensures.value is))
    c.in-Ok.ensures.reached)
    c.in-Ok.ensures.bytes

pub returns-clause-err : goal.returns-clause-err
returns-clause-err g c s stands =
    let e = g.E.Evaluator.standing c.args.evaluator in
    told_map (g.S.Shelf.holds c.args.shelf.now c.args.script.now) (λ (file : List ℕ). c.in-Ok.bytes.items ≡ take 1099511627777 file)
    (λ (file : List ℕ). StopSays c.in-Err-run_on.stop (course_behind e.program s (sources e.program) file 0 c.args.shows.now) (g.O.Sink.written c.args.out.now) (g.O.Sink.written c.run_on.new.out))
    (λ file is. c.in-Err-run_on.ensures.err s stands (sources e.program) file 0 (fed_file c.in-Ok-reader_of.reader e.program c.program.result.now c.deref.result.now c.in-Ok.bytes.items file c.in-Ok-reader_of.ensures.file c.program.ensures c.deref.ensures.value is))
    c.in-Ok.ensures.bytes
