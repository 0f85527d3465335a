use Rattle.fr_scope.proofs.Hiding.{one_less, is_found}
use Rattle.fr_scope.proofs.scope.Scope.pop.Goals as goal

pub uncover-requires : goal.uncover-requires
uncover-requires c = is_found c.pop.new.self.items c.in-Some.variable _ (rw c.in-Some.ensures.items at c.self.invariant)

pub invariant_of-self : goal.invariant_of-self
invariant_of-self c = one_less c.pop.new.self.items c.in-Some.variable _ _ (rw c.in-Some.ensures.items at c.self.invariant) c.uncover.ensures
