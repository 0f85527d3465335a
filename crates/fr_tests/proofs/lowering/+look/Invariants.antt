use Rattle.std.proofs.Common.{◌-◌, length}
use Rattle.fr_core.specs.declared.lowered.Low.{size-Low}
use Rattle.fr_core.specs.Sites.{parts}
use Rattle.fr_tests.proofs.lowering.+look.Given as goal

abbrev pub decreases-look : goal.decreases-look
decreases-look l = size-Low l.e.now

abbrev pub decreases-loop-part : goal.decreases-loop-part
decreases-loop-part l = length (parts l.e) - l.number
