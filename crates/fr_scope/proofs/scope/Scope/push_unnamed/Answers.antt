use Rattle.std.proofs.Common.{refl}
use Rattle.fr_scope.proofs.Hiding.{one_more}
use Rattle.fr_scope.proofs.scope.Scope.push_unnamed.Goals as goal

pub invariant_of-self-2 : goal.invariant_of-self-2
invariant_of-self-2 c = rw c.in_ok-push.ensures.items (one_more _ _ _ _ c.self.invariant (rw c.self.view_is c.requires) refl (λ name. refl))
