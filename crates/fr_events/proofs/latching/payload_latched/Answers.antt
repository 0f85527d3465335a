use Rattle.fr_forms.specs.Lent.{form_line}
use Rattle.fr_meaning.specs.Words.{event_of}
use Rattle.fr_meaning.specs.States.{payload_next}
use Rattle.fr_events.proofs.Latches.{payload_left}
use Rattle.fr_events.proofs.latching.payload_latched.Goals as goal

pub returns : goal.returns
returns c = c.next_of.ensures (payload_next (event_of c.args.source)) (payload_left c.args.source (form_line c.in-Ok.line) c.in-Ok.ensures)
