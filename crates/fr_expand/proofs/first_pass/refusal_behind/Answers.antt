use Rattle.std.proofs.Common.{arith, sym, ◌∙◌}
use Rattle.fr_expand.specs.Shaped.{earlier_of}
use Rattle.fr_expand.proofs.Fresh.{fresh}
use Rattle.fr_expand.proofs.Sizes.{few_forms, weight_at}
use Rattle.fr_expand.proofs.first_pass.refusal_behind.Goals as goal

pub form_kind-requires-clause-few : goal.form_kind-requires-clause-few
form_kind-requires-clause-few c =
    omega (arith, c.requires.few, c.requires.small, c.loop-at-test.true, c.loop-at.invariant.few, few_forms c.args.forms.now, weight_at c.args.forms.now c.loop-at.at c.index-forms-at.result c.loop-at-test.true c.index-forms-at.is)

pub at-requires : goal.at-requires
at-requires c = omega (arith, c.requires.few, c.requires.small, c.loop-at-test.true, few_forms c.args.forms.now)

pub add-requires-clause-fresh : goal.add-requires-clause-fresh
add-requires-clause-fresh c = rw c.in_ok-kind.ensures.unchanged (fresh c.args.globals.now (earlier_of c.loop-at.earlier) c.index-forms-at.result (sym c.in_ok-kind.ensures.found ∙ c.in_default.is))

pub add-requires-clause-few : goal.add-requires-clause-few
add-requires-clause-few c = rw c.in_ok-kind.ensures.unchanged (omega (arith, c.requires.few, c.requires.small, c.loop-at-test.true, c.loop-at.invariant.few, few_forms c.args.forms.now))
