-- Numbers of edges that a store gives.
use Rattle.std.proofs.Common.{◌≡◌, ℕ, ◌+◌, refl, Option, Some, None, sym, ◌∙◌}
use Rattle.std.specs.Prelude.{slice_get}
use Rattle.std.specs.Option.{option_map}
use Rattle.fr_store.specs.Nodes.{Edge, IsEdge, StandsAt, Stored, dependents_at, edge_number}

-- an edge whose number is told
record Told (o : Option Edge) (number : ℕ) : Type 0 where
  pub edge : Edge
  pub there : o ≡ Some edge
  pub same : edge.number ≡ number

told_at : (o : Option Edge) (number : ℕ) → Some number ≡ option_map (λ e. e.number) o → Told o number
told_at None number h = absurd cc
told_at (Some e) number h = record { edge = e; there = refl; same = cc }

-- what stands among the dependents is an edge
pub told_edge : (s : Stored) (i place edge : ℕ) → Some edge ≡ edge_number (dependents_at s i) place → IsEdge s edge
told_edge s i place edge e =
    let found = told_at (slice_get (dependents_at s i) place) edge e in
    (i, place, found.edge, record { here = found.there; same = found.same })

-- what comes after an edge is one
pub next_edge : (s : Stored) (edge : ℕ) (at : Option ℕ) → IsEdge s edge
    → ((i place : ℕ) (e : Edge) → StandsAt s edge i place e → at ≡ edge_number (dependents_at s i) (place + 1))
    → (next : ℕ) → at ≡ Some next → IsEdge s next
next_edge s edge at is leads next e = told_edge s is.0 (is.1 + 1) next (sym e ∙ leads is.0 is.1 is.2 is.3)
