use Rattle.std.proofs.Common.{◌≡◌, ◌-◌, length, take, drop, ap, ◌∙◌, arith}
use Rattle.std.proofs.lemmas.List.{take_all, length-drop}
use Rattle.fr_core.specs.declared.core_form.Core.{out-Core}
use Rattle.fr_core.specs.declared.core_form.Core.TheVariants.{outs-Lit, outs-Var}
use Rattle.fr_meaning.specs.Words.{plain, part}
use Rattle.fr_meaning.proofs.Levels.{at_level}
use Rattle.fr_kernel.specs.Answers.{here, world}
use Rattle.fr_kernel.proofs.Operands.{leaf_or}
use Rattle.fr_kernel.proofs.integers.leaf_int.Goals as goal

pub returns-in-Lit : goal.returns-in-Lit
returns-in-Lit c = λ fs k. leaf_or c.literal_int.result (plain c.in-Lit.value) (here fs c.args.left c.args.expr.now (drop c.args.base c.args.slots.now) k)
    (at_level c.args.left (world fs) (drop c.args.base c.args.slots.now) k c.args.expr.now _ c.if-left-eq0.false (ap out-Core c.in-Lit.is ∙ outs-Lit _)) c.literal_int.ensures

pub returns-in-Var : goal.returns-in-Var
returns-in-Var c =
    let env = drop c.args.base c.args.slots.now in
    let whole : take (length c.args.slots.now - c.args.base) env ≡ env = take_all _ env (omega (arith, length-drop c.args.base c.args.slots.now)) in
    λ fs k. leaf_or c.slot_int.result (part env c.in-Var.id.0) (here fs c.args.left c.args.expr.now env k)
    (at_level c.args.left (world fs) env k c.args.expr.now _ c.if-left-eq0.false (ap out-Core c.in-Var.is ∙ outs-Var _)) (rw whole at c.slot_int.ensures)
