use Rattle.std.proofs.Common.{◌≡◌, ◌++◌, drop, map}
use Rattle.fr_ready.specs.Seen.{lows_seen}
use Rattle.fr_ready.proofs.choices.wait_for_functions.Given as goal

abbrev pub invariant-loop-function : goal.invariant-loop-function
invariant-loop-function l = lows_seen l.waiting.items ++ map (λ f. f.body) (drop l.function-index l.functions) ≡ lows_seen l.fn.waiting.items ++ map (λ f. f.body) l.functions
