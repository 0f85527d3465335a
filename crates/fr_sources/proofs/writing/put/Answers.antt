use Rattle.std.proofs.Common.{sym, arith}
use Rattle.fr_sources.proofs.Wrote.{set_is, past_end}
use Rattle.fr_sources.proofs.writing.put.Goals as goal

pub returns-then-at-len : goal.returns-then-at-len
returns-then-at-len c = set_is c.args.values.now.items c.args.source.0 c.args.now

pub returns-else-at-len : goal.returns-else-at-len
returns-else-at-len c = sym (past_end (λ _. c.args.now) c.args.values.now.items c.args.source.0 (omega (arith, c.args.values.now.ok.0)))
