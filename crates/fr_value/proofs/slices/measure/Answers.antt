use Rattle.std.proofs.Common.{arith, inl, inr}
use Rattle.fr_value.proofs.Lists.{step, too_big, done}
use Rattle.fr_value.proofs.slices.measure.Goals as goal
use Rattle.fr_value.proofs.slices.measure.Goals.{then-s-size-via-then-s-size, then-s-size-via-else-s-size+then-d-gt-MAX_DEPTH}

pub returns-then-s-size : goal.returns-then-s-size
returns-then-s-size c = too_big _ _ _ _ c.loop-v-test.true c.loop-v.invariant.so_far c.v-item.result c.v-item.is c.size-s.ensures.valid
    (elim c.then-s-size.branch [ then-s-size-via-then-s-size w ↦ inl (omega (arith, w.if-s-size, c.size-s.ensures.value)) | then-s-size-via-else-s-size+then-d-gt-MAX_DEPTH w ↦ inr (omega (arith, w.if-d-gt-MAX_DEPTH, c.depth-d.ensures.value)) ])

pub loop-v-preserved : goal.loop-v-preserved
loop-v-preserved c = record {
  so_far = rw (c.max-depth.ensures, c.depth-d.ensures.value, c.size-s.ensures.value) (step _ _ _ _ c.loop-v-test.true c.loop-v.invariant.so_far c.v-item.result c.v-item.is c.size-s.ensures.valid);
  small = omega arith;
  shallow = omega arith;
}

pub returns : goal.returns
returns c = let e = done _ _ _ _ c.loop-v-test.false c.loop-v.invariant.so_far in (e.0, e.1, (omega (arith, e.0), omega (arith, e.1)), e.2)
