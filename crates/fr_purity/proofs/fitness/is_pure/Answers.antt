use Rattle.std.proofs.Common.{◌∙◌, ap, sym}
use Rattle.fr_purity.proofs.ClassLemmas.{is_pure_expr}
use Rattle.fr_purity.proofs.fitness.is_pure.Goals as goal

pub returns : goal.returns
returns c =
    let told = ap (λ j. j.pure) (rw c.deref.ensures.value at c.judge.ensures) in
    let law = is_pure_expr c.args.program.now _ _ c.args.expr.now c.requires in
    ((λ h. law.0 (sym told ∙ h)), (λ h. told ∙ law.1 h))
