use Rattle.std.proofs.Common.{sym}
use Rattle.fr_core.proofs.Parts.{list_parts, body_parts}
use Rattle.fr_core.proofs.PartLists.{body_at, entry_at}
use Rattle.fr_core.proofs.core_form.Core.part.Goals as goal

pub returns-then-number-entries-clause-value : goal.returns-then-number-entries-clause-value
returns-then-number-entries-clause-value c = rw (body_parts c.args.self.now _ _ c.in-Let.is, c.get-then-number-entries.ensures) (sym (body_at c.in-Let.es c.in-Let.body _ (rw c.as_slice-entries.ensures at c.if-number-entries.true)))

pub returns-else-number-entries-clause-value : goal.returns-else-number-entries-clause-value
returns-else-number-entries-clause-value c = rw (body_parts c.args.self.now _ _ c.in-Let.is, entry_at c.in-Let.es c.in-Let.body _ (rw c.as_slice-entries.ensures at c.if-number-entries.false)) (rw c.as_slice-entries.ensures at c.at.ensures)

pub returns-in-Apply-clause-value : goal.returns-in-Apply-clause-value
returns-in-Apply-clause-value c = rw (list_parts c.args.self.now _ c.in-Apply.is) (rw c.as_slice.ensures at c.at-in-Apply.ensures)
