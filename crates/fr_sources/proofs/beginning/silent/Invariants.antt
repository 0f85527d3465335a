use Rattle.std.proofs.Common.{◌≡◌, ◌+◌, None, replicate}
use Rattle.fr_value.specs.declared.now.Now.TheVariants as now
use Rattle.fr_sources.proofs.beginning.silent.Given as goal

abbrev pub invariant-loop-i : goal.invariant-loop-i
invariant-loop-i l = l.values.items ≡ replicate (l._i + 1) (now.Occ None)
