use Rattle.std.proofs.Common.{◌-◌, length}
use Rattle.fr_core.specs.declared.lowered.Low.{size-Low}
use Rattle.fr_core.specs.Sites.{parts}
use Rattle.fr_core.proofs.Found.{NoneBefore}
use Rattle.fr_core.proofs.site.+site_in.Given as goal

abbrev pub decreases-site_in : goal.decreases-site_in
decreases-site_in l = size-Low l.e.now

abbrev pub invariant-loop-part : goal.invariant-loop-part
invariant-loop-part l = NoneBefore l.site (parts l.e) l.number

abbrev pub decreases-loop-part : goal.decreases-loop-part
decreases-loop-part l = length (parts l.e) - l.number
