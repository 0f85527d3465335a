use Rattle.std.proofs.Common.{◌≡◌, length}
use Rattle.fr_store.specs.Kept.{Wires}
use Rattle.fr_store.specs.Nodes.{signal_at}
use Rattle.fr_store.proofs.wiring.link.Given as goal

abbrev pub invariant-loop-place : goal.invariant-loop-place
invariant-loop-place l = record {
  lists : length l.links.lists ≡ length l.initial.links.lists;
  items : l.links.items ≡ l.initial.links.items;
  wired : Wires l.initial.links.lists l.links.lists l.first l.place (signal_at l.inputs);
}
