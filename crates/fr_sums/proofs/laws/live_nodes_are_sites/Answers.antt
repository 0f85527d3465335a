use Rattle.fr_graph.specs.Keeps.{everything}
use Rattle.fr_sums.proofs.Bodies.{live_sites, first_keeps, next_keeps}
use Rattle.fr_core.specs.declared.kept.Kept.TheVariants as kept
use Rattle.fr_sums.proofs.laws.live_nodes_are_sites.Goals as goal

pub returns-clause-first : goal.returns-clause-first
returns-clause-first c = λ was g pr p is ms firsts bound sources before weigh lowered empty go has settled members program.
    live_sites g pr p is ms firsts bound sources before kept.Nothing lowered has settled members program weigh (first_keeps was g p everything is ms before empty go has.eras has.items)

pub returns-clause-further : goal.returns-clause-further
returns-clause-further c = λ was g pr p is ms firsts bound sources before weigh k lowered go had has settled stood members program.
    live_sites g pr p is ms firsts bound sources before k lowered has settled members program weigh (next_keeps was g p everything is ms before k go had has.eras has.items stood)
