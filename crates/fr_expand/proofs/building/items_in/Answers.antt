use Rattle.std.proofs.Common.{arith}
use Rattle.fr_expand.proofs.Sizes.{few_forms, weight_at}
use Rattle.fr_expand.proofs.building.items_in.Goals as goal

pub item_of-requires-clause-few : goal.item_of-requires-clause-few
item_of-requires-clause-few c =
    omega (arith, c.requires, c.loop-form-test.true, c.loop-form.invariant.few, few_forms c.args.forms.now, weight_at c.args.forms.now c.loop-form.form-index c.form-item.result c.loop-form-test.true c.form-item.is)

pub add_value-requires-clause-few : goal.add_value-requires-clause-few
add_value-requires-clause-few c = rw c.in_ok-item.ensures.values (omega (arith, c.requires, c.loop-form-test.true, c.loop-form.invariant.few, few_forms c.args.forms.now))
