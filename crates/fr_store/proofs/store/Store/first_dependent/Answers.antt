use Rattle.std.proofs.Common.{ap, ◌∙◌, subst}
use Rattle.fr_store.specs.Nodes.{AreDependents, Stored, dependents_at, edge_number}
use Rattle.fr_store.proofs.Dependents.{exact_dependents, seen_number}
use Rattle.fr_store.proofs.store.Store.first_dependent.Goals as goal

pub returns-clause-first : goal.returns-clause-first
returns-clause-first c =
    c.first.ensures ∙ seen_number c.self.inside.limit c.self.inside.table c.self.inside.edges c.args.id.0 0
    ∙ ap (λ (s : Stored). edge_number (dependents_at s c.args.id.0) 0) c.self.view_is

pub returns-clause-exact : goal.returns-clause-exact
returns-clause-exact c =
    subst (λ (s : Stored). AreDependents s c.args.id.0 (dependents_at s c.args.id.0)) c.self.view_is
    (exact_dependents c.self.inside.limit c.self.inside.table c.self.inside.edges c.self.invariant c.args.id.0)
