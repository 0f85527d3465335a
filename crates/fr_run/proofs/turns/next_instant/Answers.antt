use Rattle.std.proofs.Common.{subst}
use Rattle.fr_script.specs.declared.turn.Turn.{Turn}
use Rattle.fr_script.specs.Stands.{TurnStands, left, Falls}
use Rattle.fr_run.proofs.Readers.{gives_instant, gives_more, gives_end, ends_bad}
use Rattle.fr_run.proofs.turns.next_instant.Goals as goal

pub returns-in-Ok-Instant-clause-ok : goal.returns-in-Ok-Instant-clause-ok
returns-in-Ok-Instant-clause-ok c =
    gives_instant c.args.reader.now c.next.new.self c.in-Ok-Instant.inputs c.next.ensures.told
    (subst (λ (t : Turn). TurnStands t c.args.reader.now c.next.new.self) c.in-Ok-Instant.field-0-is c.in-Ok-Instant.ensures.ok)

pub returns-in-Ok-Instant-clause-falls : goal.returns-in-Ok-Instant-clause-falls
returns-in-Ok-Instant-clause-falls c =
    subst (λ (t : Turn). Falls t (left c.args.reader.now) (left c.next.new.self)) c.in-Ok-Instant.field-0-is c.in-Ok-Instant.ensures.falls

pub returns-in-Ok-More-clause-ok : goal.returns-in-Ok-More-clause-ok
returns-in-Ok-More-clause-ok c =
    gives_more c.args.reader.now c.next.new.self
    (subst (λ (t : Turn). TurnStands t c.args.reader.now c.next.new.self) c.in-Ok-More.field-0-is c.in-Ok-More.ensures.ok)

pub returns-in-Ok-End-clause-ok : goal.returns-in-Ok-End-clause-ok
returns-in-Ok-End-clause-ok c =
    gives_end c.args.reader.now c.next.new.self
    (subst (λ (t : Turn). TurnStands t c.args.reader.now c.next.new.self) c.in-Ok-End.field-0-is c.in-Ok-End.ensures.ok)

pub returns-in-Ok-Refused-clause-err : goal.returns-in-Ok-Refused-clause-err
returns-in-Ok-Refused-clause-err c =
    ends_bad c.args.reader.now c.next.new.self c.in-Ok-Refused.line c.in-Ok-Refused.kind
    (subst (λ (t : Turn). TurnStands t c.args.reader.now c.next.new.self) c.in-Ok-Refused.field-0-is c.in-Ok-Refused.ensures.ok)
