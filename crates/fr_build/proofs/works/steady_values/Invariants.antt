use Rattle.std.proofs.Common.{◌≡◌, true, take}
use Rattle.fr_graph.specs.Walk.{all_steady, steady_values}
use Rattle.fr_nodes.specs.Kinds.{parts_of}
use Rattle.fr_build.proofs.works.steady_values.Given as goal

abbrev pub invariant-loop-part : goal.invariant-loop-part
invariant-loop-part l = record {
  steady : all_steady (parts_of (take l.part-index l.parts)) ≡ true;
  values : l.values ≡ steady_values (parts_of (take l.part-index l.parts));
}
