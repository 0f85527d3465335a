use Rattle.std.proofs.Common.{sym, ap, ◌∙◌, subst}
use Rattle.fr_store.specs.Nodes.{Edge, IsEdge, StandsAt, Stored}
use Rattle.fr_store.proofs.Dependents.{edge_item, edge_within}
use Rattle.fr_store.proofs.store.Store.edge_node.Goals as goal

pub owner-requires : goal.owner-requires
owner-requires c =
    edge_within c.self.inside.limit c.self.inside.table c.self.inside.edges c.args.edge c.self.invariant
    (subst (λ (v : Stored). IsEdge v c.args.edge) (sym c.self.view_is) c.requires)

pub returns : goal.returns
returns c = λ i place e s.
    let at = edge_item c.self.inside.limit c.self.inside.table c.self.inside.edges c.args.edge i place e (subst (λ (v : Stored). StandsAt v c.args.edge i place e) (sym c.self.view_is) s) in
    c.owner.ensures ∙ sym (ap (λ (d : Edge). d.node) at.1)
