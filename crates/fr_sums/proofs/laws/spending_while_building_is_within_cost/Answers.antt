use Rattle.std.specs.Prelude.{◌≡◌, true}
use Rattle.fr_core.specs.declared.kept.Kept.TheVariants as kept
use Rattle.fr_sums.proofs.Bodies.{spends_while_building, first_keeps, next_keeps}
use Rattle.fr_sums.proofs.laws.spending_while_building_is_within_cost.Goals as goal

pub returns-clause-first : goal.returns-clause-first
returns-clause-first c = λ was g known pr p is ms firsts bound sources before q w lowered empty go way members program pays.
    spends_while_building g known pr p is ms firsts bound sources before kept.Nothing lowered way members program (first_keeps was g p (λ m. known m ≡ true) is ms before empty go way.eras way.items) q w pays

pub returns-clause-further : goal.returns-clause-further
returns-clause-further c = λ was g known pr p is ms firsts bound sources before q w k lowered go had way stood members program pays.
    spends_while_building g known pr p is ms firsts bound sources before k lowered way members program (next_keeps was g p (λ m. known m ≡ true) is ms before k go had way.eras way.items stood) q w pays
