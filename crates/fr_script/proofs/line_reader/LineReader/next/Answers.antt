use Rattle.std.proofs.Common.{sym, ◌∙◌}
use Rattle.fr_script.proofs.Settles.{same_place, turn_settles, told_settles, turn_falls}
use Rattle.fr_script.proofs.line_reader.LineReader.next.Goals as goal

pub lines-preserved : goal.lines-preserved
lines-preserved c = sym (same_place c.lines.self c.step.new.self (rw c.in-Ok-None.field-0-is at c.in-Ok-None.ensures.passes)) ∙ c.lines.invariant

pub returns-in-Ok-Some-clause-ok : goal.returns-in-Ok-Some-clause-ok
returns-in-Ok-Some-clause-ok c =
    turn_settles c.in-Ok-Some.turn c.args.self.now c.lines.self c.step.new.self c.lines.invariant
    (rw c.in-Ok-Some.field-0-is at c.in-Ok-Some.ensures.passes) (rw c.in-Ok-Some.field-0-is at c.in-Ok-Some.ensures.ok)

pub returns-in-Ok-Some-clause-falls : goal.returns-in-Ok-Some-clause-falls
returns-in-Ok-Some-clause-falls c =
    turn_falls c.in-Ok-Some.turn c.args.self.now c.lines.self c.step.new.self c.lines.invariant
    (rw c.in-Ok-Some.field-0-is at c.in-Ok-Some.ensures.passes) (rw c.in-Ok-Some.field-0-is at c.in-Ok-Some.ensures.falls)

pub returns-in-Ok-Some-clause-told : goal.returns-in-Ok-Some-clause-told
returns-in-Ok-Some-clause-told c =
    told_settles c.in-Ok-Some.turn c.args.self.now c.lines.self c.step.new.self c.lines.invariant (rw c.in-Ok-Some.field-0-is at c.in-Ok-Some.ensures.ok)
