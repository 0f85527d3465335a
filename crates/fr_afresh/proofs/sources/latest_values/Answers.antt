use Rattle.fr_afresh.proofs.SourceSteps.{latest_ends}
use Rattle.fr_afresh.proofs.sources.latest_values.Goals as goal

pub returns-in-None : goal.returns-in-None
returns-in-None c = latest_ends c.loop-i.new _ c.args.inputs.now c.args.values.now c.args.sets.now c.loop-i.i c.in-None.ensures.lookup.3 c.loop-i.invariant
