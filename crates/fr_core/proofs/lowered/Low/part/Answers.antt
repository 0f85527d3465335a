use Rattle.std.proofs.Common.{sym}
use Rattle.fr_core.specs.declared.lowered.Low.TheVariants.{outs-Let}
use Rattle.fr_core.proofs.PartLists.{body_at, entry_at}
use Rattle.fr_core.proofs.lowered.Low.part.Goals as goal

pub returns-then-number-entries-clause-value : goal.returns-then-number-entries-clause-value
returns-then-number-entries-clause-value c = rw (c.in-Let.is, outs-Let, c.get.ensures) (sym (body_at c.in-Let.es c.in-Let.body _ (rw c.as_slice-entries.ensures at c.if-number-entries.true)))

pub returns-else-number-entries-clause-value : goal.returns-else-number-entries-clause-value
returns-else-number-entries-clause-value c = rw (c.in-Let.is, outs-Let, entry_at c.in-Let.es c.in-Let.body _ (rw c.as_slice-entries.ensures at c.if-number-entries.false)) (rw c.as_slice-entries.ensures at c.at.ensures)
