use Rattle.std.proofs.Common.{arith, inl, inr}
use Rattle.fr_value.proofs.Measured.{is_few, not_few}
use Rattle.fr_value.proofs.list.List.cons.Goals as goal
use Rattle.fr_value.proofs.list.List.cons.Goals.{then-size-via-then-size, then-size-via-else-size+then-depth-gt-MAX_DEPTH}

pub returns-then-size-clause-too_big : goal.returns-then-size-clause-too_big
returns-then-size-clause-too_big c e = not_few _ _
    (elim c.then-size.branch [ then-size-via-then-size w ↦ inl (omega (arith, w.if-size, c.size.ensures.value, c.measure-size.ensures.size_is, c.measure-size.ensures.small)) | then-size-via-else-size+then-depth-gt-MAX_DEPTH w ↦ inr (omega (arith, w.if-depth-gt-MAX_DEPTH, w.depth.ensures.value)) ])

pub few_cons-requires : goal.few_cons-requires
few_cons-requires c = rw c.in_ok-share.ensures (is_few c.args.item.now c.args.rest.now (omega (arith, c.if-size.false, c.size.ensures.value, c.measure-size.ensures.size_is, c.measure-size.ensures.small)) (omega (arith, c.if-depth-gt-MAX_DEPTH.false, c.depth.ensures.value)) c.measure-size.ensures.shallow)
