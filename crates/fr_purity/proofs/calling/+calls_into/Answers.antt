use Rattle.std.proofs.Common.{append-nil, append_assoc, arith}
use Rattle.fr_core.specs.Shapes.{parts_of}
use Rattle.fr_core.proofs.Folds.{part_nests_less}
use Rattle.fr_core.proofs.PartLists.{within_parts, drop_part, drop_none}
use Rattle.fr_purity.proofs.Parts.{calls-opens}
use Rattle.fr_purity.proofs.calling.+calls_into.Goals as goal

pub loop-part-init : goal.loop-part-init
loop-part-init t c = rw (c.in_ok-own_call_into.ensures, append_assoc, calls-opens c.args.e.now)

pub calls_into-requires : goal.calls_into-requires
calls_into-requires t c = (omega (arith, part_nests_less c.args.e.now _ _ c.in-Some.ensures.value), tt)

pub loop-part-smaller : goal.loop-part-smaller
loop-part-smaller t c = omega (arith, within_parts (parts_of c.args.e.now) c.loop-part.number c.in-Some.part.now c.in-Some.ensures.value)

pub loop-part-preserved : goal.loop-part-preserved
loop-part-preserved t c = rw (c.in_ok-calls_into.ensures, append_assoc) (rw (drop_part _ _ _ c.in-Some.ensures.value) at c.loop-part.invariant)

pub returns : goal.returns
returns t c = rw (drop_none _ _ c.in_default.ensures.value, append-nil) at c.loop-part.invariant
