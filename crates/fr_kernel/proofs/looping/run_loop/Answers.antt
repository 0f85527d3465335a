use Rattle.std.proofs.Common.{◌+◌, List, drop, map, Ok, ap, subst, ◌∙◌}
use Rattle.std.proofs.lemmas.List.{append-nil}
use Rattle.fr_value.specs.declared.now.Now.{Now}
use Rattle.fr_meaning.specs.Words.{Env}
use Rattle.fr_meaning.specs.Evaluation.{eval, body_with}
use Rattle.fr_kernel.specs.Answers.{world, Ran}
use Rattle.fr_kernel.specs.Loops.{loop_over}
use Rattle.fr_kernel.proofs.Turning.{first_two}
use Rattle.fr_kernel.proofs.looping.run_loop.Goals as goal

pub returns-in-Ok : goal.returns-in-Ok
returns-in-Ok c =
    let after = c.loop_begun.new.fuel.left in
    let turn = λ (env : Env). body_with (eval (world c.args.functions.now) (c.args.nest + 1)) env c.args.body.now in
    let good = λ (vs : List Now). map (λ v. Ok v) vs in
    let slots = c.in-Ok.ensures.slots ∙ append-nil (good c.split_at.result.1.now) ∙ ap good c.split_at.ensures.back in
    let over = subst (λ env. Ran c.loop_begun.result c.begin.new.m.fuel after (loop_over c.args.looped (turn env) (good c.split_at.result.0.now))) slots c.loop_begun.ensures in
    let paid = subst (λ before. Ran c.loop_begun.result before after (loop_over c.args.looped (turn (good (drop 2 c.args.inputs.now))) (good c.split_at.result.0.now))) c.in-Ok.ensures.fuel over in
    let parts = subst (λ vs. Ran c.loop_begun.result c.args.fuel.now.left after (loop_over c.args.looped (turn (good (drop 2 c.args.inputs.now))) (good vs))) c.split_at.ensures.front paid in
    subst (Ran c.loop_begun.result c.args.fuel.now.left after) (first_two c.args.looped (turn (good (drop 2 c.args.inputs.now))) c.args.inputs.now) parts
