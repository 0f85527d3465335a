use Rattle.fr_core.specs.declared.kept.Kept.TheVariants as kept
use Rattle.fr_sums.proofs.Bodies.{spends_at_most, spends_all, first_keeps_all, next_keeps_all}
use Rattle.fr_sums.proofs.laws.spending_is_within_cost.Goals as goal

pub returns-clause-first : goal.returns-clause-first
returns-clause-first c = λ was g pr p is ms firsts bound sources before q lowered empty go has settled members program pays.
    spends_at_most g pr p is ms firsts bound sources before kept.Nothing lowered has settled members program (first_keeps_all was g p is ms before empty go has) q pays

pub returns-clause-exact : goal.returns-clause-exact
returns-clause-exact c = λ was g pr p is ms firsts bound sources before q lowered empty go has settled members program pays.
    spends_all g pr p is ms firsts bound sources before kept.Nothing lowered has settled members program (first_keeps_all was g p is ms before empty go has) q pays

pub returns-clause-further : goal.returns-clause-further
returns-clause-further c = λ was g pr p is ms firsts bound sources before q k lowered go had has settled stood members program pays.
    spends_at_most g pr p is ms firsts bound sources before k lowered has settled members program (next_keeps_all was g p is ms before k go had has stood) q pays
