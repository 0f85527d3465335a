use Rattle.std.proofs.Common.{◌≡◌, ◌+◌, ◌*◌, length, drop}
use Rattle.fr_core.specs.declared.kept.Kept.{Kept}
use Rattle.fr_meaning.specs.Evaluation.{parts, body_with, turns}
use Rattle.fr_forms.specs.Rounds.{number_of, rounds_left}
use Rattle.fr_kernel.specs.Answers.{here, scope}
use Rattle.fr_kernel.proofs.Runs.{Onward, Turning}
use Rattle.fr_kernel.proofs.walking.+walk.Given as goal

abbrev pub decreases-walk : goal.decreases-walk
decreases-walk l = 6 * l.left

abbrev pub decreases-walk_parts : goal.decreases-walk_parts
decreases-walk_parts l = 6 * l.left + 1

abbrev pub decreases-walk_if : goal.decreases-walk_if
decreases-walk_if l = 6 * l.left + 5

abbrev pub decreases-walk_operator : goal.decreases-walk_operator
decreases-walk_operator l = 6 * l.left + 5

abbrev pub decreases-walk_prim : goal.decreases-walk_prim
decreases-walk_prim l = 6 * l.left + 4

abbrev pub decreases-walk_two : goal.decreases-walk_two
decreases-walk_two l = 6 * l.left + 3

abbrev pub decreases-walk_many : goal.decreases-walk_many
decreases-walk_many l = 6 * l.left + 3

abbrev pub decreases-walk_second : goal.decreases-walk_second
decreases-walk_second l = 6 * l.left + 2

abbrev pub decreases-operand : goal.decreases-operand
decreases-operand l = 6 * l.left + 1

abbrev pub decreases-walk_let : goal.decreases-walk_let
decreases-walk_let l = 6 * l.left + 5

abbrev pub decreases-walk_call : goal.decreases-walk_call
decreases-walk_call l = 6 * l.left + 5

abbrev pub decreases-walk_loop : goal.decreases-walk_loop
decreases-walk_loop l = 6 * l.left + 5

abbrev pub decreases-walk_rounds : goal.decreases-walk_rounds
decreases-walk_rounds l = 6 * l.left + 4

abbrev pub decreases-walk_turns : goal.decreases-walk_turns
decreases-walk_turns l = 6 * l.left + 3

abbrev pub decreases-walk_turn : goal.decreases-walk_turn
decreases-walk_turn l = 6 * l.left + 2

abbrev pub invariant-walk_parts-loop-i : goal.invariant-walk_parts-loop-i
invariant-walk_parts-loop-i l = record {
  same_slots : l.m.slots ≡ l.fn.m.slots;
  so_far : (k : Kept) → Onward l.fn.m l.m (parts (here l.functions l.left) (scope l.base l.fn.m) k l.i (drop l.i l.exprs)) (parts (here l.functions l.left) (scope l.base l.fn.m) k 0 l.exprs);
}

abbrev pub invariant-walk_turns-loop-item : goal.invariant-walk_turns-loop-item
invariant-walk_turns-loop-item l = record {
  same_slots : l.m.slots ≡ l.fn.m.slots;
  so_far : let body = body_with (here l.functions l.left) (scope l.base l.fn.m) l.body in
      Turning l.fn.m l.m (turns body (number_of l.rest) l.acc (rounds_left l.rest)) (turns body (number_of l.fn.rounds) l.fn.init (rounds_left l.fn.rounds));
}

abbrev pub decreases-walk_turns-loop-item : goal.decreases-walk_turns-loop-item
decreases-walk_turns-loop-item l = length (rounds_left l.rest)
