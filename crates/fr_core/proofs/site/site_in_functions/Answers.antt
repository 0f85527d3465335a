use Rattle.fr_core.proofs.Found.{none_next, none_of_all}
use Rattle.fr_core.proofs.site.site_in_functions.Goals as goal

pub loop-function-preserved : goal.loop-function-preserved
loop-function-preserved c = none_next c.args.site (λ f. f.body) c.args.functions.now c.loop-function.function-index c.function-item.result c.loop-function-test.true c.function-item.is c.loop-function.invariant c.in_default.ensures

pub returns : goal.returns
returns c = none_of_all c.args.site (λ f. f.body) c.args.functions.now c.loop-function.function-index c.loop-function-test.false c.loop-function.invariant
