use Rattle.fr_sources.proofs.Wrote.{event_found}
use Rattle.fr_sources.proofs.writing.is_event.Goals as goal

pub returns-in-Some-Occ : goal.returns-in-Some-Occ
returns-in-Some-Occ c = rw (c.in-Some-Occ.is, c.in-Some-Occ.field-0-is) at (event_found c.args.values.now c.args.source.0 c.get.result c.get.ensures.lookup)

pub returns-in-Some-Plain : goal.returns-in-Some-Plain
returns-in-Some-Plain c = rw (c.in-Some-Plain.is, c.in-Some-Plain.field-0-is) at (event_found c.args.values.now c.args.source.0 c.get.result c.get.ensures.lookup)

pub returns-in-None : goal.returns-in-None
returns-in-None c = rw c.in-None.is at (event_found c.args.values.now c.args.source.0 c.get.result c.get.ensures.lookup)
