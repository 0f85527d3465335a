use Rattle.std.proofs.Common.{arith, ap, length}
use Rattle.fr_syntax.specs.Weights.{form_weight}
use Rattle.fr_expand.proofs.Sizes.{weight_at}
use Rattle.fr_expand.proofs.building.functions_in.Goals as goal

pub function_of-requires : goal.function_of-requires
function_of-requires c =
    omega (arith, c.requires, ap form_weight c.in-Function.is, ap length c.as_slice.ensures, weight_at c.args.forms.now c.loop-form.form-index c.form-item.result c.loop-form-test.true c.form-item.is)
