use Rattle.std.proofs.Common.{◌≡◌, drop}
use Rattle.fr_meaning.specs.Evaluation.{eval_to, most_levels}
use Rattle.fr_afresh.specs.Bodies.{whole, unbegun}
use Rattle.fr_afresh.proofs.bodies.eval_items.Given as goal

abbrev pub invariant-loop-i : goal.invariant-loop-i
invariant-loop-i l = whole (eval_to most_levels l.world) l.kept l.i l.so_far (drop l.i l.items) ≡ whole (eval_to most_levels l.world) l.kept 0 unbegun l.items
