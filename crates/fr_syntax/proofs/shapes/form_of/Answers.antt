use Rattle.std.proofs.Common.{sym, ap, ◌∙◌}
use Rattle.fr_value.specs.Data.{datum_of, data_of}
use Rattle.fr_syntax.proofs.Heads.{opened_form, no_list, at_list, no_items, headed}
use Rattle.fr_syntax.proofs.SmallForms.{result_small}
use Rattle.fr_syntax.proofs.shapes.form_of.Goals as goal

pub returns-in_default-clause-shape : goal.returns-in_default-clause-shape
returns-in_default-clause-shape c = sym (opened_form c.args.v.now ∙ no_list c.args.v.now c.in_default.not-List)

pub returns-in_default-split_first-clause-shape : goal.returns-in_default-split_first-clause-shape
returns-in_default-split_first-clause-shape c =
    sym (at_list c.args.v.now c.in-List.list c.deref.result.now c.in-List.is (ap data_of c.deref.ensures.value ∙ c.in_ok-items.ensures.value)
    ∙ no_items c.deref.result.now c.in_default-split_first.ensures.cases)

pub returns-clause-shape : goal.returns-clause-shape
returns-clause-shape c =
    rw (
      at_list c.args.v.now c.in-List.list c.deref.result.now c.in-List.is (ap data_of c.deref.ensures.value ∙ c.in_ok-items.ensures.value),
      headed c.deref.result.now c.in-Some.rest.now c.in-Some.head.now c.in-Some.ensures.cases.0,
      ← c.keyword_of.ensures,
    )
    c.form_with.ensures

pub returns-clause-small : goal.returns-clause-small
returns-clause-small c = result_small (datum_of c.args.v.now) c.form_with.result (returns-clause-shape c)
