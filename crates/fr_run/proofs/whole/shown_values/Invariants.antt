use Rattle.std.proofs.Common.{◌≡◌, take}
use Rattle.fr_afresh.specs.Stands.{shown_of}
use Rattle.fr_run.proofs.whole.shown_values.Given as goal

abbrev pub invariant-loop-show : goal.invariant-loop-show
invariant-loop-show l = l.values.items ≡ take l.show (shown_of l.afresh)
