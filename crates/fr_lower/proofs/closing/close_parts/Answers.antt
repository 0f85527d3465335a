use Rattle.std.proofs.Common.{◌+◌, drop, ◌∙◌}
use Rattle.fr_core.proofs.PartLists.{drop_part, drop_none}
use Rattle.fr_lower.specs.Making.{outside, part_seen}
use Rattle.fr_lower.proofs.Added.{nothing_off}
use Rattle.fr_lower.proofs.Steps.{closing_none, closing_next, closing_last}
use Rattle.fr_lower.proofs.closing.close_parts.Goals as goal

pub unreachable-requires : goal.unreachable-requires
unreachable-requires c =
    let empty = nothing_off c.loop-part.found.items (c.in_default-pop_front.ensures.items ∙ c.in_default-pop_front.ensures.rest) in
    closing_none c.args.variables c.args.made.now c.loop-part.made (outside c.args.e.now) c.args.found.items (part_seen c.in-Some.part) (drop (c.loop-part.number + 1) (outside c.args.e.now)) c.loop-part.parts
    (rw (drop_part (outside c.args.e.now) c.loop-part.number (part_seen c.in-Some.part) c.in-Some.ensures.value, empty) at c.loop-part.invariant)

pub closed-requires : goal.closed-requires
closed-requires c =
    (rw (drop_part (outside c.args.e.now) c.loop-part.number (part_seen c.in-Some.part) c.in-Some.ensures.value, c.in-Some-pop_front.ensures.items) at c.loop-part.invariant).ready.0

pub loop-part-preserved : goal.loop-part-preserved
loop-part-preserved c =
    rw c.in_ok-push.ensures.ok
    (closing_next c.args.variables c.args.made.now c.loop-part.made c.closed.new.made (outside c.args.e.now) c.args.found.items (part_seen c.in-Some.part) (drop (c.loop-part.number + 1) (outside c.args.e.now)) c.in-Some-pop_front.lowered
    c.pop_front.new.self.items c.loop-part.parts c.in_ok-closed.field-0 c.in_ok-closed.ensures
    (rw (drop_part (outside c.args.e.now) c.loop-part.number (part_seen c.in-Some.part) c.in-Some.ensures.value, c.in-Some-pop_front.ensures.items) at c.loop-part.invariant))

pub returns : goal.returns
returns c =
    closing_last c.args.variables c.args.made.now c.loop-part.made (outside c.args.e.now) c.args.found.items (drop c.loop-part.number (outside c.args.e.now)) c.loop-part.found.items c.loop-part.parts
    (drop_none (outside c.args.e.now) c.loop-part.number c.in_default.ensures.value) c.loop-part.invariant
