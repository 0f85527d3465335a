use Rattle.std.proofs.Common.{◌≡◌, length}
use Rattle.fr_script.specs.Settled.{settled}
use Rattle.fr_script.proofs.line_reader.LineReader.next.Given as goal

abbrev pub invariant-lines : goal.invariant-lines
invariant-lines l = settled l.self ≡ settled l.fn.self

abbrev pub decreases-lines : goal.decreases-lines
decreases-lines l = length l.self.rest
