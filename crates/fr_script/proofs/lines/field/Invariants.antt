use Rattle.std.proofs.Common.{◌≡◌, ◌++◌, take, drop}
use Rattle.fr_script.specs.Lines.{field, past_field}
use Rattle.fr_script.proofs.lines.field.Given as goal

abbrev pub invariant-loop-i : goal.invariant-loop-i
invariant-loop-i l = (take l.i l.bytes ++ field (drop l.i l.bytes) ≡ field l.bytes) × (past_field (drop l.i l.bytes) ≡ past_field l.bytes)
