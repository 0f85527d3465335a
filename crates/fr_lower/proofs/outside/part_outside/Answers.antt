use Rattle.std.proofs.Common.{length, slice_get, sym, ap, ◌∙◌}
use Rattle.fr_lower.proofs.Parts.{outer_body, outer_entry, outside_let}
use Rattle.fr_lower.proofs.outside.part_outside.Goals as goal

pub returns-then-number-binds-clause-value : goal.returns-then-number-binds-clause-value
returns-then-number-binds-clause-value c =
    rw (outside_let c.args.e.now c.in-Let.es c.in-Let.body c.in-Let.is, c.as_slice-entries.ensures, c.get.ensures) (outer_body c.in-Let.es (length c.in-Let.es) c.in-Let.body c.args.number (rw c.as_slice-entries.ensures at c.if-number-binds.true))

pub returns-else-number-binds-clause-value : goal.returns-else-number-binds-clause-value
returns-else-number-binds-clause-value c =
    (rw c.as_slice-entries.ensures at c.part_among.ensures.value) ∙ (outer_entry c.in-Let.es (length c.in-Let.es) c.in-Let.body c.args.number (rw c.as_slice-entries.ensures at c.if-number-binds.false)
    ∙ sym (ap (λ l. slice_get l c.args.number) (outside_let c.args.e.now c.in-Let.es c.in-Let.body c.in-Let.is)))
