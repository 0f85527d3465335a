use Rattle.std.proofs.Common.{◌≡◌, ℕ, take}
use Rattle.fr_nodes.specs.Kinds.{Sites}
use Rattle.fr_engine.specs.Beginning.{ListedWoken}
use Rattle.fr_engine.proofs.beginning.wake_listed.Given as goal

abbrev pub invariant-loop-id : goal.invariant-loop-id
invariant-loop-id g l = record {
  woken : (sites : Sites) → ListedWoken (g.N.Nodes.way l.fn.nodes sites) (g.N.Nodes.way l.nodes sites) (take l.id-index l.wakes);
  eras : (x : ℕ) → g.N.Nodes.has_era l.nodes x ≡ g.N.Nodes.has_era l.fn.nodes x;
}
