use Rattle.std.proofs.Common.{arith}
use Rattle.fr_expand.proofs.Sizes.{few_forms}
use Rattle.fr_expand.proofs.building.sources_in.Goals as goal

pub overflow_add-next : goal.overflow_add-next
overflow_add-next c = omega (arith, c.requires, c.loop-form-test.true, c.loop-form.invariant.counted, few_forms c.args.forms.now)

pub overflow_add-next-in-Event : goal.overflow_add-next-in-Event
overflow_add-next-in-Event c = omega (arith, c.requires, c.loop-form-test.true, c.loop-form.invariant.counted, few_forms c.args.forms.now)
