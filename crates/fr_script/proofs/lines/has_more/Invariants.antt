use Rattle.std.proofs.Common.{◌≡◌, drop}
use Rattle.fr_script.specs.Lines.{has_more}
use Rattle.fr_script.proofs.lines.has_more.Given as goal

abbrev pub invariant-loop-b : goal.invariant-loop-b
invariant-loop-b l = has_more (drop l.b-index l.bytes) ≡ has_more l.bytes
