use Rattle.std.proofs.Common.{refl}
use Rattle.fr_value.specs.Data.{data_of}
use Rattle.fr_value.proofs.Runs.{gathered, with_run}
use Rattle.fr_value.proofs.list.List.shared_into.Goals as goal

pub loop-at-preserved : goal.loop-at-preserved
loop-at-preserved c = gathered (data_of c.args.out.now.items) (data_of c.loop-at.out.items) (data_of c.push_shared.new.v.items) c.args.self.now c.loop-at.at _ c.run.result.0.now c.run.result.1.now c.loop-at.invariant c.run.ensures
    (with_run c.loop-at.out.items c.push.new.self.items c.push_shared.new.v.items c.in_ok-share.field-0 c.run.result.0.now c.run.result.1.now c.in_ok-push.ensures.items c.in_ok-share.ensures c.in_ok-push_shared.ensures) refl
