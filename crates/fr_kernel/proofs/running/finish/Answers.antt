use Rattle.std.proofs.Common.{Option, Some, refl, ap, subst, ◌∙◌}
use Rattle.fr_meaning.specs.Words.{Seen}
use Rattle.fr_kernel.specs.Answers.{TakesOr}
use Rattle.fr_kernel.proofs.Runs.{ran_ok, ran_bad, ran_none}
use Rattle.fr_kernel.proofs.running.finish.Goals as goal

pub returns-in-Some-Ok : goal.returns-in-Some-Ok
returns-in-Some-Ok c =
    let t = subst (λ (o : Option Seen). TakesOr o c.args.kind c.args.machine.now c.value_of.new.m) (c.in-Some-Ok.is ∙ ap Some c.in-Some-Ok.field-0-is) c.value_of.ensures in
    λ start d h. ran_ok c.in-Some-Ok.now c.args.kind start c.args.machine.now c.value_of.new.m d start.fuel refl t h

pub returns-in-Some-Err : goal.returns-in-Some-Err
returns-in-Some-Err c =
    let t = subst (λ (o : Option Seen). TakesOr o c.args.kind c.args.machine.now c.value_of.new.m) (c.in-Some-Err.is ∙ ap Some c.in-Some-Err.field-0-is) c.value_of.ensures in
    λ start d h. ran_bad c.in-Some-Err.bad c.args.kind start c.args.machine.now c.value_of.new.m d start.fuel c.args.machine.now.fuel t h

pub returns-in-None : goal.returns-in-None
returns-in-None c =
    let t = subst (λ (o : Option Seen). TakesOr o c.args.kind c.args.machine.now c.value_of.new.m) c.in-None.is c.value_of.ensures in
    λ start d h. ran_none c.args.kind start c.args.machine.now c.value_of.new.m d start.fuel c.args.machine.now.fuel refl t h
