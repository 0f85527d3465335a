use Rattle.fr_ready.specs.Seen.{entries_seen}
use Rattle.fr_ready.proofs.Table.{noted}
use Rattle.fr_ready.proofs.choices.note.Goals as goal

pub returns-in-If : goal.returns-in-If
returns-in-If c =
    noted c.put.result (entries_seen c.args.found.now.items) (entries_seen c.put.new.found.items) c.args.e.now c.in-If.site c.in-If.field-1 c.in-If.yes c.in-If.no c.get.result.now c.get-in-If.result.now c.in-If.is c.get.ensures c.get-in-If.ensures
    c.put.ensures.here c.put.ensures.elsewhere
