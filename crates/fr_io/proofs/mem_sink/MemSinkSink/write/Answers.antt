use Rattle.std.proofs.Common.{rules}
use Rattle.fr_io.proofs.Fails.{not_failed}
use Rattle.fr_io.proofs.mem_sink.MemSinkSink.write.Goals as goal

pub returns-clause-fails : goal.returns-clause-fails
returns-clause-fails c = not_failed (λ listed. search rules) (λ full. search rules)
