use Rattle.std.proofs.Common.{◌≡◌, ℕ}
use Rattle.fr_nodes.specs.Kinds.{Sites}
use Rattle.fr_engine.specs.Beginning.{SourcesWoken}
use Rattle.fr_engine.proofs.beginning.wake_sources.Given as goal

abbrev pub invariant-loop-place : goal.invariant-loop-place
invariant-loop-place g l = record {
  woken : (sites : Sites) → SourcesWoken (g.N.Nodes.way l.fn.nodes sites) (g.N.Nodes.way l.nodes sites) l.sources l.place;
  eras : (x : ℕ) → g.N.Nodes.has_era l.nodes x ≡ g.N.Nodes.has_era l.fn.nodes x;
}
