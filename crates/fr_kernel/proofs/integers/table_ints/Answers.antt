use Rattle.std.proofs.Common.{sym, subst, ◌∙◌}
use Rattle.std.proofs.lemmas.Int.{to_z-of_z}
use mir.Syntax.{w64}
use Rattle.fr_meaning.specs.Words.{own}
use Rattle.fr_kernel.specs.Answers.{Answers}
use Rattle.fr_kernel.proofs.Operands.{applied_ints}
use Rattle.fr_kernel.proofs.integers.table_ints.Goals as goal

pub returns-in-Ok : goal.returns-in-Ok
returns-in-Ok c =
    let value = rw (to_z-of_z w64 c.args.x c.ranges.x, to_z-of_z w64 c.args.y c.ranges.y) at c.in-Ok.ensures in
    subst (λ v. Answers c.give.result c.args.m.now c.give.new.m v 0 (own v)) (value ∙ sym (applied_ints c.args.prim c.args.x c.args.y)) c.give.ensures
