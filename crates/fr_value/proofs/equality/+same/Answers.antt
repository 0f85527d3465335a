use Rattle.std.proofs.Common.{◌+◌, arith, refl, length-take}
use Rattle.fr_value.proofs.Items.{item_smaller}
use Rattle.fr_value.proofs.Lists.{item_smaller as slice_smaller}
use Rattle.fr_value.proofs.Runs.{run_get, run_within, run_smaller, run_same, same_next, taken_smaller}
use Rattle.fr_value.proofs.equality.+same.Goals as goal
use Rattle.fr_value.proofs.equality.+same.Goals.{same_lists-then-not-same_value-via-then-not-same_value, same_lists-then-not-same_value-via-else-not-same_value+then-not-same_items}

pub same_items-same_value-requires : goal.same_items-same_value-requires
same_items-same_value-requires t c = (omega (arith, c.decreases, slice_smaller c.args.a.now c.loop-i.i c.index-a-i.result (omega (arith, c.loop-i-test.true)) c.index-a-i.is), tt)

pub same_lists-same_value-requires : goal.same_lists-same_value-requires
same_lists-same_value-requires t c = (omega (arith, c.decreases, item_smaller c.args.a.now c.loop-at.at c.run.result.0.now (run_get _ _ _ c.run.result.1.now c.run.ensures)), tt)

pub same_lists-same_items-requires : goal.same_lists-same_items-requires
same_lists-same_items-requires t c = (
  omega (arith, c.decreases, run_smaller c.args.a.now c.loop-at.at c.run.result.0.now c.run.result.1.now c.run.ensures, taken_smaller c.run.result.1.now c.min-near.result),
  simp length-take (omega arith),
)

pub same_lists-returns-then-not-same_value : goal.same_lists-returns-then-not-same_value
same_lists-returns-then-not-same_value t c =
    let parts = run_same c.args.a.now c.args.b.now c.loop-at.at c.min-near.result c.run.result.0.now c.run-in-loop-at.result.0.now c.run.result.1.now c.run-in-loop-at.result.1.now c.run.ensures c.run-in-loop-at.ensures (omega arith) (omega arith) in (
      (λ h. cc h),
      (λ e. elim c.then-not-same_value.branch [
        | same_lists-then-not-same_value-via-then-not-same_value w ↦ rw w.if-not-same_value.true at (c.same_value.ensures.1 (parts e).0)
        | same_lists-then-not-same_value-via-else-not-same_value+then-not-same_items w ↦ rw w.if-not-same_items.true at (w.same_items.ensures.1 (parts e).1)
      ]),
    )

pub same_lists-overflow_add-at-in-loop-at : goal.same_lists-overflow_add-at-in-loop-at
same_lists-overflow_add-at-in-loop-at t c = omega (arith, run_within c.args.a.now c.loop-at.at c.run.result.0.now c.run.result.1.now c.run.ensures, c.len.ensures, c.min-near.ensures)

pub same_lists-loop-at-preserved : goal.same_lists-loop-at-preserved
same_lists-loop-at-preserved t c = same_next c.args.a.now c.args.b.now c.loop-at.at c.min-near.result (c.loop-at.at + (1 + c.min-near.result)) c.run.result.0.now c.run-in-loop-at.result.0.now c.run.result.1.now c.run-in-loop-at.result.1.now
    c.run.ensures c.run-in-loop-at.ensures (omega arith) (omega arith) (c.same_value.ensures.0 c.if-not-same_value.false) (c.same_items.ensures.0 c.if-not-same_items.false) c.loop-at.invariant refl
