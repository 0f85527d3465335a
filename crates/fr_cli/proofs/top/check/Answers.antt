use Rattle.std.proofs.Common.{List, ℕ, subst, rules}
use Rattle.fr_show.specs.Accepted.{IsProgram}
use Rattle.fr_show.specs.Stops.{Explains}
use Rattle.fr_cli.specs.Command.{check}
use Rattle.fr_cli.proofs.Runs.{unread, told_refused, told_whole, told_cut}
use Rattle.fr_cli.proofs.top.check.Goals as goal

pub returns-in-Err : goal.returns-in-Err
returns-in-Err g c =
    unread (check c.args.program.now) c.in-Err.stop _ _ _ _ _ _ _ _ c.in-Err.ensures.err (search rules) (search rules) c.in-Err.ensures.shelf

pub returns-in-Err-accept : goal.returns-in-Err-accept
returns-in-Err-accept g c =
    let told = subst (λ (b : List ℕ). Explains b c.in-Err-accept.stop) c.deref.ensures.value c.in-Err-accept.ensures.refused in
    rw c.into_stop.ensures.value (told_refused c.args.program.now c.in-Ok.text.items c.in-Err-accept.stop _ _ _ _ _ _ _ _ c.in-Ok.ensures.text told c.in-Ok.ensures.shelf)

pub returns-in-Ok-write_all : goal.returns-in-Ok-write_all
returns-in-Ok-write_all g c =
    let is = subst (λ (b : List ℕ). IsProgram b c.in-Ok-accept._program) c.deref.ensures.value c.in-Ok-accept.ensures.accepted in
    told_whole c.args.program.now c.in-Ok.text.items _ c.in-Ok-accept._program _ _ _ _ _ _ _ _ _ _ c.in-Ok.ensures.text c.in-Ok.ensures.reached is c.in-Ok.ensures.shelf
    c.in-Ok-write_all.ensures.ok (c.write_all.ensures.counts.stays (search rules))

pub returns : goal.returns
returns g c =
    let is = subst (λ (b : List ℕ). IsProgram b c.in-Ok-accept._program) c.deref.ensures.value c.in-Ok-accept.ensures.accepted in
    told_cut c.args.program.now c.in-Ok.text.items c.in-Ok-accept._program _ _ _ _ _ _ _ _ _ _ c.in-Ok.ensures.text is c.in-Ok.ensures.shelf
    c.in-Err-write_all.ensures.err c.in-Err-write_all.ensures.counts
