use Rattle.fr_forms.specs.Lent.{form_line}
use Rattle.fr_meaning.specs.Words.{datum_in}
use Rattle.fr_meaning.specs.States.{datum_next}
use Rattle.fr_events.proofs.Latches.{datum_left}
use Rattle.fr_events.proofs.latching.datum_latched.Goals as goal

pub returns-in-Ok : goal.returns-in-Ok
returns-in-Ok c = c.next_of.ensures (datum_next (datum_in c.args.source.now)) (datum_left c.args.source.now (form_line c.in-Ok.line) c.in-Ok.ensures)
