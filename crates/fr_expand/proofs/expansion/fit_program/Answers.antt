use Rattle.std.proofs.Common.{◌+◌, [], Err, arith, refl, sym, subst}
use Rattle.fr_expand.specs.Expansion.{cores_from, IsFirstUnfit}
use Rattle.fr_expand.specs.Stops.{Decides}
use Rattle.fr_expand.proofs.Sizes.{few_forms}
use Rattle.fr_expand.proofs.expansion.fit_program.Goals as goal

pub refused-requires : goal.refused-requires
refused-requires c = omega (arith, c.requires, few_forms c.args.forms.now, c.in-Some.ensures.within)

pub returns-in-Some : goal.returns-in-Some
returns-in-Some c =
    let globals = c.args.globals.now in
    let forms = c.args.forms.now in
    subst (λ s. Decides globals forms (Err s)) (sym c.refused.ensures)
    (refl, subst (λ p. IsFirstUnfit p (cores_from globals [] forms) (c.in-Some.at + 1)) c.in_ok-program.ensures (c.in-Some.ensures.found globals c.in_ok-program.ensures))

pub returns-in-None : goal.returns-in-None
returns-in-None c = (c.in_ok-program.ensures, c.in-None.ensures.found c.args.globals.now c.in_ok-program.ensures)
