use Rattle.std.proofs.Common.{IsSome, sym, ap, subst, arith}
use Rattle.fr_store.specs.Nodes.{Stored, cleared, node_at, node_in}
use Rattle.fr_store.specs.Kept.{nodes_of}
use Rattle.fr_store.proofs.Stores.{store_rewired}
use Rattle.fr_store.proofs.Tables.{some_of}
use Rattle.fr_store.proofs.store.Store.clear.Goals as goal

pub invariant_of-self : goal.invariant_of-self
invariant_of-self c =
    let n = some_of (node_in (nodes_of c.self.inside.table) c.args.id.0) (subst (λ (s : Stored). IsSome (node_at s c.args.id.0)) (sym c.self.view_is) c.requires) in
    store_rewired c.self.inside.limit c.self.inside.table c.self.inside.edges c.change.new.self c.release.new.self c.args.id.0 n.0 (cleared n.0) c.self.invariant
    c.change.ensures.sound c.change.ensures.keys n.1 (c.change.ensures.changed n.0 n.1) c.release.ensures.sound (ap (λ v. v.items) c.release.ensures.runs)
    (omega arith) c.release.ensures.wired
