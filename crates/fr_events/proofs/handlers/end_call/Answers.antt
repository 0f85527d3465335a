use Rattle.fr_forms.specs.Begins.{args_of}
use Rattle.fr_events.proofs.Begins.{ended_told}
use Rattle.fr_events.proofs.handlers.end_call.Goals as goal

pub returns : goal.returns
returns c = λ start after call given clean paid.
    ended_told c.args.handler (args_of c.args.args) c.line_stepped.result c.args.given c.in-Ok.line start after call c.in-Ok.ensures c.line_stepped.ensures given clean paid
