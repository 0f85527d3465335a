use Rattle.std.proofs.Common.{sym}
use Rattle.fr_queue.proofs.Agree.{agree_drop, heights_of, pairs_in}
use Rattle.fr_queue.proofs.tree.TreeAgendaAgenda.drop_node.Goals as goal

pub invariant_of-self : goal.invariant_of-self
invariant_of-self c = record {
  agree =
      agree_drop (pairs_in c.args.self.now.order) (pairs_in c.remove-in-Some.new.self) (heights_of c.args.self.now.heights) (heights_of c.remove.new.self)
      c.args.node.0 c.in-Some.old c.args.self.now.agree (sym c.in-Some.ensures.value) c.remove-in-Some.ensures.updates.0 c.in-Some.ensures.updates.0;
}
