use Rattle.std.proofs.Common.{sym, ◌∙◌}
use Rattle.fr_sources.proofs.Wrote.{clears, clears_nothing}
use Rattle.fr_sources.proofs.writing.clear.Goals as goal

pub returns-then-is_event : goal.returns-then-is_event
returns-then-is_event c = c.put.ensures ∙ clears c.args.values.now.items c.args.source.0 (rw c.deref.ensures.value at (sym c.is_event.ensures ∙ c.if-is_event.true))

pub returns-else-is_event : goal.returns-else-is_event
returns-else-is_event c = clears_nothing c.args.values.now.items c.args.source.0 (rw c.deref.ensures.value at (sym c.is_event.ensures ∙ c.if-is_event.false))
