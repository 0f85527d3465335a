use Rattle.std.proofs.Common.{◌≡◌, ◌-◌, refl, arith}
use Rattle.fr_afresh.proofs.Walks.{begins_behind, sources_next}
use Rattle.fr_afresh.proofs.sources.source_values.Goals as goal

pub loop-i-init : goal.loop-i-init
loop-i-init c =
    let all : c.in_ok-last.last - 0 ≡ c.in_ok-last.last = omega arith in
    record { behind = begins_behind c.args.program.now c.requires.numbered; so_far = rw (c.in_ok-push.ensures.ok, c.new-sources.ensures, c.time_value.ensures, all, c.in_ok-last.ensures.ok) refl }

pub loop-i-preserved : goal.loop-i-preserved
loop-i-preserved c = record {
  behind = rw c.as_slice.ensures at c.in_ok-now.ensures.behind;
  so_far = rw c.in_ok-push-2.ensures.ok (sources_next c.loop-i.sources _ c.args.program.now.inputs c.as_slice.result.now c.args.values.now c.args.inputs.now.sets c.loop-i.next c.in_ok-now.field-0.next c.loop-i.i c.in_ok-last.last c.in_ok-now.field-0.now c.loop-i-test.true
      c.as_slice.ensures c.in_ok-now.ensures.left c.loop-i.invariant.so_far);
}
