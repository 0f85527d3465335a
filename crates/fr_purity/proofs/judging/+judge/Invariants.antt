use Rattle.std.proofs.Common.{◌-◌, drop, length}
use Rattle.fr_core.specs.Classes.{calls_of}
use Rattle.fr_core.specs.WellFormed.{nesting}
use Rattle.fr_core.specs.Shapes.{parts_of}
use Rattle.fr_purity.specs.Judgements.{judged}
use Rattle.fr_purity.specs.Marks.{set_of}
use Rattle.fr_purity.proofs.Parts.{Judging}
use Rattle.fr_purity.proofs.judging.+judge.Given as goal

abbrev pub decreases-judge : goal.decreases-judge
decreases-judge l = nesting l.e.now

abbrev pub invariant-loop-part : goal.invariant-loop-part
invariant-loop-part l = Judging (calls_of l.program (set_of l.marks)) l.e (judged l.all) l.last_is_pure (drop l.number (parts_of l.e))

abbrev pub decreases-loop-part : goal.decreases-loop-part
decreases-loop-part l = length (parts_of l.e) - l.number
