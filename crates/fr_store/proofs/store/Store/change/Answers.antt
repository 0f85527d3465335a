use Rattle.std.proofs.Common.{IsSome, sym, subst}
use Rattle.fr_store.specs.Nodes.{Stored, node_at, node_in}
use Rattle.fr_store.specs.Kept.{changed, nodes_of}
use Rattle.fr_store.proofs.Stores.{store_changed}
use Rattle.fr_store.proofs.Tables.{some_of}
use Rattle.fr_store.proofs.store.Store.change.Goals as goal

pub invariant_of-self : goal.invariant_of-self
invariant_of-self c =
    let n = some_of (node_in (nodes_of c.self.inside.table) c.args.id.0) (subst (λ (s : Stored). IsSome (node_at s c.args.id.0)) (sym c.self.view_is) c.requires.there) in
    store_changed c.self.inside.limit c.self.inside.table c.self.inside.edges c.change.new.self c.args.id.0 n.0 (changed c.args.change n.0) c.self.invariant
    c.change.ensures.sound c.change.ensures.keys n.1 (c.change.ensures.changed n.0 n.1) (c.requires.inputs n.0)
