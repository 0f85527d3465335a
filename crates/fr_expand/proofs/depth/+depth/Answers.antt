use Rattle.std.proofs.Common.{arith}
use Rattle.fr_expand.proofs.Chains.{one_more}
use Rattle.fr_expand.proofs.depth.+depth.Goals as goal

pub depth_of_chain-loop-at-preserved : goal.depth_of_chain-loop-at-preserved
depth_of_chain-loop-at-preserved t c = one_more c.args.parts.now c.args.count c.loop-at.at c.args.last c.loop-at.rest c.above-rest.result c.index-parts-at.result
    (omega arith) (omega arith) (omega arith) c.index-parts-at.is c.loop-at.invariant (omega arith)
