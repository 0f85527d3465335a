use Rattle.std.proofs.Common.{ap, ◌∙◌, sym, arith}
use Rattle.fr_expand.specs.Faults.{with}
use Rattle.fr_expand.proofs.Walks.{weight_at, chain_end}
use Rattle.fr_expand.proofs.faults.+faults.Goals as goal

pub faults_in_chain-faults_in-requires : goal.faults_in_chain-faults_in-requires
faults_in_chain-faults_in-requires t c = let w = weight_at c.args.parts.now c.loop-at.at c.index-parts-at.result (omega arith) c.index-parts-at.is in (omega arith, omega arith)

pub faults_in_chain-returns-clause-found : goal.faults_in_chain-returns-clause-found
faults_in_chain-returns-clause-found t c = c.with-found-2.ensures ∙ ap (with c.loop-at.found) (c.in_ok-faults_in-2.ensures.found ∙ sym (chain_end c.args.globals.now c.args.names.now c.args.parts.now c.args.body.now c.loop-at.at c.loop-at.scope (omega arith))) ∙ c.loop-at.invariant.found

pub faults_in_each-faults_in-requires : goal.faults_in_each-faults_in-requires
faults_in_each-faults_in-requires t c = let w = weight_at c.args.parts.now c.loop-part.part-index c.part-item.result c.loop-part-test.true c.part-item.is in (omega arith, rw c.loop-part.invariant.scope (omega arith))
