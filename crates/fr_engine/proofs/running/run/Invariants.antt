use Rattle.fr_store.specs.Nodes.{most_nodes}
use Rattle.fr_engine.specs.Running.{Runs}
use Rattle.fr_engine.proofs.Counting.{undone}
use Rattle.fr_engine.proofs.running.run.Given as goal

abbrev pub invariant-taking : goal.invariant-taking
invariant-taking g l = Runs (g.C.Choices.can l.choices) (g.C.Choices.plan l.choices) (g.C.Choices.many l.choices) l.sources
    (g.N.Nodes.way l.fn.nodes (g.C.Choices.sites l.choices)) (g.N.Nodes.way l.nodes (g.C.Choices.sites l.choices)) l.fn.notes l.notes l.fn.late.items l.late.items

abbrev pub decreases-taking : goal.decreases-taking
decreases-taking g l = undone most_nodes (g.N.Nodes.way l.nodes (g.C.Choices.sites l.choices))
