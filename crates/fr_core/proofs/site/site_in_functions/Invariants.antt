use Rattle.std.proofs.Common.{map}
use Rattle.fr_core.proofs.Found.{NoneBefore}
use Rattle.fr_core.proofs.site.site_in_functions.Given as goal

abbrev pub invariant-loop-function : goal.invariant-loop-function
invariant-loop-function l = NoneBefore l.site (map (λ f. f.body) l.functions) l.function-index
