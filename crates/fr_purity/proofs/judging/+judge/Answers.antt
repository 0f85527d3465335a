use Rattle.std.proofs.Common.{◌∙◌, arith}
use Rattle.fr_core.specs.Shapes.{parts_of}
use Rattle.fr_core.proofs.Folds.{part_nests_less}
use Rattle.fr_core.proofs.PartLists.{within_parts, drop_part, drop_none}
use Rattle.fr_purity.specs.Judgements.{judged}
use Rattle.fr_purity.proofs.Parts.{judging_first, judging_next, judging_last}
use Rattle.fr_purity.proofs.judging.+judge.Goals as goal

pub loop-part-init : goal.loop-part-init
loop-part-init t c = rw c.is_pure_itself.ensures (judging_first _ c.args.e.now)

pub judge-found-requires : goal.judge-found-requires
judge-found-requires t c = (omega (arith, part_nests_less c.args.e.now _ _ c.in-Some.ensures.value), tt)

pub loop-part-smaller : goal.loop-part-smaller
loop-part-smaller t c = omega (arith, within_parts (parts_of c.args.e.now) c.loop-part.number c.in-Some.part.now c.in-Some.ensures.value)

pub loop-part-preserved : goal.loop-part-preserved
loop-part-preserved t c =
    judging_next _ c.args.e.now c.in-Some.part.now (judged c.loop-part.all) (judged c.and-all.result) (judged c.judge-found.result) c.loop-part.last_is_pure _ c.judge-found.ensures c.and-all.ensures
    (rw (drop_part _ _ _ c.in-Some.ensures.value) at c.loop-part.invariant)

pub returns : goal.returns
returns t c =
    c.and.ensures ∙ judging_last _ c.args.e.now (judged c.loop-part.all) c.loop-part.last_is_pure c.body_allows.result c.body_allows.ensures (rw (drop_none _ _ c.in_default.ensures.value) at c.loop-part.invariant)
