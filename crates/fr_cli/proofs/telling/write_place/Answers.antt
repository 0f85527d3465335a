use Rattle.std.proofs.Common.{◌++◌, ◌∙◌, decimal, List, ℕ, subst}
use Rattle.std.specs.Io.KnownBytes.{Appends}
use Rattle.fr_io.specs.Files.{AppendsSome}
use Rattle.fr_io.proofs.Appending.{appends_more}
use Rattle.fr_show.proofs.Writing.{some_front, some_behind}
use Rattle.fr_cli.proofs.telling.write_place.Goals as goal

pub returns-in-Err-write_all-clause-err : goal.returns-in-Err-write_all-clause-err
returns-in-Err-write_all-clause-err g c =
    let number = c.as_bytes.ensures.value ∙ c.format.ensures.text in
    some_front _ _ (c.args.before.now ++ decimal c.args.number) c.args.behind.now
    (some_behind _ _ _ c.args.before.now (decimal c.args.number) c.in-Ok.ensures.ok
    (subst (λ (z : List ℕ). AppendsSome (g.E.Sink.written c.write_all.new.sink) (g.E.Sink.written c.write_all-2.new.sink) z) number c.in-Err-write_all.ensures.err))

pub returns-in-Err-write_all-2-clause-err : goal.returns-in-Err-write_all-2-clause-err
returns-in-Err-write_all-2-clause-err g c =
    let number = c.as_bytes.ensures.value ∙ c.format.ensures.text in
    some_behind _ _ _ (c.args.before.now ++ decimal c.args.number) c.args.behind.now
    (appends_more _ _ _ c.args.before.now (decimal c.args.number) c.in-Ok.ensures.ok
    (subst (λ (z : List ℕ). Appends (g.E.Sink.written c.write_all.new.sink) (g.E.Sink.written c.write_all-2.new.sink) z) number c.in-Ok-write_all.ensures.ok))
    c.in-Err-write_all-2.ensures.err
