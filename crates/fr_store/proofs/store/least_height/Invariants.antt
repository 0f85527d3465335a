use Rattle.std.proofs.Common.{◌≡◌, drop}
use Rattle.fr_store.specs.Kept.{nodes_of}
use Rattle.fr_store.specs.Nodes.{least_height}
use Rattle.fr_store.proofs.store.least_height.Given as goal

abbrev pub invariant-loop-input : goal.invariant-loop-input
invariant-loop-input l =
    least_height (nodes_of l.table) l.height (drop l.input-index l.inputs) ≡ least_height (nodes_of l.table) l.fn.floor l.inputs
