use Rattle.std.proofs.Common.{sym, ◌∙◌}
use Rattle.fr_tests.proofs.Edges.{next_edge}
use Rattle.fr_tests.proofs.nodes.tell_readers.Goals as goal
use Rattle.fr_tests.proofs.nodes.tell_readers.Goals.{in-Some, in_default}

pub loop-preserved : goal.loop-preserved
loop-preserved c = elim c.match-at.branch [
  | in-Some w ↦ λ edge e. next_edge c.args.store.now w.in-Some.edge w.next_dependent-at.result (c.loop.invariant w.in-Some.edge w.in-Some.is) w.next_dependent-at.ensures edge (sym w.at-is ∙ e)
  | in_default w ↦ λ edge e. c.loop.invariant edge (sym w.at-is ∙ e)
]
