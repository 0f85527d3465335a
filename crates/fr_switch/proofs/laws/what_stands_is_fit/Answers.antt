use Rattle.fr_switch.proofs.Fit.{expression_fits, items_fit}
use Rattle.fr_switch.proofs.laws.what_stands_is_fit.Goals as goal

pub returns-clause-expression : goal.returns-clause-expression
returns-clause-expression c = expression_fits

pub returns-clause-items : goal.returns-clause-items
returns-clause-items c = items_fit
