use Rattle.std.proofs.Common.{◌≡◌, Some, sym, subst}
use Rattle.fr_store.specs.Nodes.{Stored, node_at}
use Rattle.fr_store.proofs.Stores.{store_freed}
use Rattle.fr_store.proofs.store.Store.give_up.Goals as goal

pub invariant_of-self : goal.invariant_of-self
invariant_of-self c =
    store_freed c.self.inside.limit c.self.inside.table c.self.inside.edges c.remove.new.self c.args.id.0 c.requires.0 c.self.invariant c.remove.ensures.sound
    c.remove.ensures.len (subst (λ (s : Stored). node_at s c.args.id.0 ≡ Some c.requires.0) (sym c.self.view_is) c.requires.1) c.requires.2 c.remove.ensures.removed
