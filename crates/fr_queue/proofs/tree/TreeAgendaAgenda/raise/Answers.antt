use Rattle.std.proofs.Common.{IsSome, ℕ, Option, refl, sym, ◌∙◌, subst}
use Rattle.fr_queue.proofs.Agree.{agree_raise, heights_of, pairs_in}
use Rattle.fr_queue.proofs.tree.TreeAgendaAgenda.raise.Goals as goal

pub invariant_of-self-in-Some-get_mut : goal.invariant_of-self-in-Some-get_mut
invariant_of-self-in-Some-get_mut c = record {
  agree =
      agree_raise (pairs_in c.args.self.now.order) (pairs_in c.insert.new.self) (pairs_in c.remove.new.self)
      (heights_of c.args.self.now.heights) (heights_of (c.get_mut.follows.lender c.args.height))
      c.args.node.0 c.in-Some.old c.args.height c.args.self.now.agree
      (sym c.get.ensures.value ∙ sym c.copied.ensures ∙ c.in-Some.is) c.in_ok-insert.ensures.updates.0 c.remove.ensures.updates.0
      ((c.get_mut.follows.holds c.args.height).3
      (subst (λ (o : Option ℕ). IsSome o) (sym (sym c.get.ensures.value ∙ sym c.copied.ensures ∙ c.in-Some.is)) refl)).0
      c.if-old-height.false;
}
