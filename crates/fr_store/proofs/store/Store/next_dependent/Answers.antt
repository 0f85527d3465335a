use Rattle.std.proofs.Common.{◌+◌, sym, ap, ◌∙◌, subst}
use Rattle.fr_links.specs.Lists.{list_at}
use Rattle.fr_store.specs.Nodes.{IsEdge, StandsAt, Stored, dependents_at, edge_number}
use Rattle.fr_store.proofs.Dependents.{edge_item, item_there, seen_number}
use Rattle.fr_store.proofs.Lists.{in_some}
use Rattle.fr_store.proofs.store.Store.next_dependent.Goals as goal

pub next-requires : goal.next-requires
next-requires c =
    let s = subst (λ (v : Stored). IsEdge v c.args.edge) (sym c.self.view_is) c.requires in
    let at = edge_item c.self.inside.limit c.self.inside.table c.self.inside.edges c.args.edge s.0 s.1 s.2 s.3 in
    in_some c.self.inside.edges.links.lists s.0 c.args.edge (item_there (list_at c.self.inside.edges.links.lists s.0) s.1 c.args.edge at.0)

pub returns : goal.returns
returns c = λ i place e s.
    let at = edge_item c.self.inside.limit c.self.inside.table c.self.inside.edges c.args.edge i place e (subst (λ (v : Stored). StandsAt v c.args.edge i place e) (sym c.self.view_is) s) in
    c.next.ensures i place at.0 ∙ seen_number c.self.inside.limit c.self.inside.table c.self.inside.edges i (place + 1)
    ∙ ap (λ (v : Stored). edge_number (dependents_at v i) (place + 1)) c.self.view_is
