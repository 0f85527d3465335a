use Rattle.std.proofs.Common.{List, ℕ, ap}
use Rattle.std.specs.BTreeMap as map
use Rattle.std.specs.Map.{lookup}
use Rattle.std.specs.Ordering.{nat_cmp}
use Rattle.fr_queue.proofs.Agree.{agree_add, agree_undo, heights_of, pairs_in}
use Rattle.fr_queue.proofs.tree.TreeAgendaAgenda.add.Goals as goal

pub invariant_of-self-in-Ok : goal.invariant_of-self-in-Ok
invariant_of-self-in-Ok c = record {
  agree =
      agree_add (pairs_in c.args.self.now.order) (pairs_in c.insert.new.self) (heights_of c.args.self.now.heights) (heights_of c.insert-2.new.self)
      c.args.node.0 c.args.height c.args.self.now.agree c.requires c.in_ok-insert.ensures.updates.0 c.in-Ok.ensures.updates.0;
}

pub invariant_of-self-in-Err : goal.invariant_of-self-in-Err
invariant_of-self-in-Err c = record {
  agree =
      agree_undo (pairs_in c.args.self.now.order) (pairs_in c.insert.new.self) (heights_of c.args.self.now.heights) (heights_of c.insert-2.new.self)
      c.args.node.0 c.args.height (pairs_in c.remove.new.self) c.args.self.now.agree c.requires c.in_ok-insert.ensures.updates.0 c.remove.ensures.updates.0
      (λ i. ap (λ (es : List (ℕ × ℕ)). lookup (map.is_at (nat_cmp i)) es) c.in-Err.ensures.err);
}
