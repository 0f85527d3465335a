use Rattle.std.proofs.Common.{◌≡◌, ◌++◌, take}
use Rattle.fr_graph.specs.Walk.{slot_parts}
use Rattle.fr_nodes.specs.Kinds.{parts_of}
use Rattle.fr_build.specs.Ready.{plan_of}
use Rattle.fr_build.proofs.works.with_slots.Given as goal

abbrev pub invariant-loop-slot : goal.invariant-loop-slot
invariant-loop-slot l = parts_of l.parts ≡ parts_of l.fn.parts ++ slot_parts (plan_of l.plan) (parts_of l.env) (take l.slot-index l.slots)
