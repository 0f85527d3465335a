use Rattle.std.proofs.Common.{sym, ◌∙◌}
use Rattle.fr_sources.proofs.Wrote.{occurs, has_value}
use Rattle.fr_sources.proofs.writing.write.Goals as goal

pub returns-then-is_event : goal.returns-then-is_event
returns-then-is_event c = c.put.ensures ∙ occurs c.args.values.now.items c.args.source.0 c.args.value (rw c.deref.ensures.value at (sym c.is_event.ensures ∙ c.if-is_event.true))

pub returns-else-is_event : goal.returns-else-is_event
returns-else-is_event c = c.put-else-is_event.ensures ∙ has_value c.args.values.now.items c.args.source.0 c.args.value (rw c.deref.ensures.value at (sym c.is_event.ensures ∙ c.if-is_event.false))
