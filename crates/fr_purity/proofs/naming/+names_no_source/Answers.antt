use Rattle.std.proofs.Common.{sym, arith}
use Rattle.fr_core.specs.Shapes.{parts_of}
use Rattle.fr_core.proofs.Folds.{part_nests_less, names-opens}
use Rattle.fr_core.proofs.PartLists.{within_parts, drop_part, drop_none}
use Rattle.fr_purity.specs.Marks.{below}
use Rattle.fr_purity.proofs.naming.+names_no_source.Goals as goal

pub returns-then-not-is_no_source : goal.returns-then-not-is_no_source
returns-then-not-is_no_source t c = sym (rw (← c.is_no_source.ensures, c.if-not-is_no_source.true) at (names-opens (below c.args.functions) c.args.e.now))

pub loop-part-init : goal.loop-part-init
loop-part-init t c = sym (rw (← c.is_no_source.ensures, c.if-not-is_no_source.false) at (names-opens (below c.args.functions) c.args.e.now))

pub names_no_source-requires : goal.names_no_source-requires
names_no_source-requires t c = (omega (arith, part_nests_less c.args.e.now _ _ c.in-Some.ensures.value), tt)

pub returns-then-not-names_no_source : goal.returns-then-not-names_no_source
returns-then-not-names_no_source t c = rw (drop_part _ _ _ c.in-Some.ensures.value, ← c.names_no_source.ensures, c.if-not-names_no_source.true) at c.loop-part.invariant

pub loop-part-smaller : goal.loop-part-smaller
loop-part-smaller t c = omega (arith, within_parts (parts_of c.args.e.now) c.loop-part.number c.in-Some.part.now c.in-Some.ensures.value)

pub loop-part-preserved : goal.loop-part-preserved
loop-part-preserved t c = rw (drop_part _ _ _ c.in-Some.ensures.value, ← c.names_no_source.ensures, c.if-not-names_no_source.false) at c.loop-part.invariant

pub returns : goal.returns
returns t c = rw (drop_none _ _ c.in_default.ensures.value) at c.loop-part.invariant
