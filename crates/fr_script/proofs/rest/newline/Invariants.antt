use Rattle.std.proofs.Common.{◌≡◌, ◌+◌, drop}
use Rattle.std.specs.Option.{option_map}
use Rattle.fr_script.specs.Lines.{line_end}
use Rattle.fr_script.proofs.rest.newline.Given as goal

abbrev pub invariant-loop-i : goal.invariant-loop-i
invariant-loop-i l = option_map (λ n. l.i + n) (line_end (drop l.i l.bytes)) ≡ line_end l.bytes
