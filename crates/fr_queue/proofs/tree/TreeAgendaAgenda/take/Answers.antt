use Rattle.std.proofs.Common.{◌≡◌, ℕ, true, false}
use Rattle.std.specs.BTreeMap as map
use Rattle.fr_queue.specs.Pairs.{by_height}
use Rattle.fr_queue.proofs.Agree.{agree_drop, heights_of, no_keys, nothing_left, pairs_in, taken_at, takes}
use Rattle.fr_queue.proofs.tree.TreeAgendaAgenda.take.Goals as goal

never : false ≡ true → ⊥
never e = cc

pub returns-in_err-node-clause-empty : goal.returns-in_err-node-clause-empty
returns-in_err-node-clause-empty c = λ e.
    nothing_left (pairs_in c.args.self.now.order) (heights_of c.args.self.now.heights) c.args.self.now.agree
    (λ q. no_keys c.args.self.now.order.keys (λ k. map.is_at (by_height q) k) (λ some. never (c.in_err-node.ensures.variant.1 some)))

pub invariant_of-self-2 : goal.invariant_of-self-2
invariant_of-self-2 c = record {
  agree =
      agree_drop (pairs_in c.args.self.now.order) (pairs_in c.pop_first.new.self) (heights_of c.args.self.now.heights) (heights_of c.remove.new.self)
      c.in_ok-node.node c.in_ok-node.field-0-0 c.args.self.now.agree
      (taken_at (pairs_in c.args.self.now.order) (heights_of c.args.self.now.heights) c.in_ok-node.node c.in_ok-node.field-0-0
      c.args.self.now.agree c.in_ok-node.ensures.member)
      c.in_ok-node.ensures.updates.0 c.remove.ensures.updates.0;
}

pub returns-clause-taken : goal.returns-clause-taken
returns-clause-taken c =
    takes (pairs_in c.args.self.now.order) (heights_of c.args.self.now.heights) (heights_of c.remove.new.self)
    c.in_ok-node.node c.in_ok-node.field-0-0 c.args.self.now.agree c.in_ok-node.ensures.member c.in_ok-node.ensures.least c.remove.ensures.updates.0
