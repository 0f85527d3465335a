use Rattle.fr_purity.proofs.Removing.{removing_on, removing_falls}
use Rattle.fr_purity.proofs.removal.take_callers.Goals as goal

pub loop-number-smaller : goal.loop-number-smaller
loop-number-smaller c =
    removing_falls c.loop-number.marks c.take_marks.new.marks c.loop-number.taken.items c.pop.new.self.items c.take_marks.new.taken.items c.callers_of.result.now c.in-Some.number
    c.in-Some.ensures.items c.in_ok-take_marks.ensures.marks c.in_ok-take_marks.ensures.taken

pub loop-number-preserved : goal.loop-number-preserved
loop-number-preserved c =
    removing_on c.args.callers.now c.args.marks.now c.loop-number.marks c.take_marks.new.marks c.loop-number.taken.items c.pop.new.self.items c.take_marks.new.taken.items c.callers_of.result.now c.in-Some.number
    c.in-Some.ensures.items c.callers_of.ensures c.in_ok-take_marks.ensures.marks c.in_ok-take_marks.ensures.taken c.loop-number.invariant
