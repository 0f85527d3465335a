use Rattle.std.proofs.Common.{sym, ap, Err}
use Rattle.fr_script.specs.Kinds.{says_value}
use Rattle.fr_script.proofs.Readings.{value_read, unread}
use Rattle.fr_script.proofs.said.said_value.Goals as goal

pub returns-in-Ok : goal.returns-in-Ok
returns-in-Ok c = value_read c.args.text.now c.in-Ok.value c.args.time c.args.source c.in-Ok.ensures.reads

pub returns-in-Err-Refused : goal.returns-in-Err-Refused
returns-in-Err-Refused c = sym (ap (says_value c.args.time c.args.source) (unread c.args.text.now (c.in-Err-Refused.ensures.refused (ap Err c.in-Err-Refused.field-0-is))))
