use Rattle.std.proofs.Common.{◌≡◌, drop}
use Rattle.fr_script.specs.Lines.{past_spaces}
use Rattle.fr_script.proofs.lines.past_spaces.Given as goal

abbrev pub invariant-loop-i : goal.invariant-loop-i
invariant-loop-i l = past_spaces (drop l.i l.bytes) ≡ past_spaces l.bytes
