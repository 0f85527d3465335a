use Rattle.std.proofs.Common.{◌≡◌, drop}
use Rattle.fr_purity.specs.Removal.{with_caller}
use Rattle.fr_purity.proofs.calling.add_caller.Given as goal

abbrev pub invariant-loop-number : goal.invariant-loop-number
invariant-loop-number l = with_caller l.callers l.caller (drop l.number-index l.called) ≡ with_caller l.fn.callers l.caller l.called
