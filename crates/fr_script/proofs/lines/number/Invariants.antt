use Rattle.std.proofs.Common.{◌≡◌, drop}
use Rattle.std.specs.Str.{all_ascii_digits}
use Rattle.fr_script.proofs.Saturated.{IsSum}
use Rattle.fr_script.proofs.lines.number.Given as goal

abbrev pub invariant-loop-b : goal.invariant-loop-b
invariant-loop-b l = record { digits : all_ascii_digits (drop l.b-index l.digits) ≡ all_ascii_digits l.digits; sum : IsSum l.value (drop l.b-index l.digits) l.digits }
