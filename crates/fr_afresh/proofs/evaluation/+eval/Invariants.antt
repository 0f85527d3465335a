use Rattle.std.proofs.Common.{ℕ, ◌≡◌, ◌+◌, ◌*◌, None, length, drop}
use Rattle.fr_meaning.specs.Evaluation.{eval_to, parts, body_with, turns}
use Rattle.fr_forms.specs.Rounds.{number_of, rounds_left}
use Rattle.fr_afresh.specs.Trees.{tree}
use Rattle.fr_afresh.specs.Outcomes.{parts_without_cost, parts_on, turns_on}
use Rattle.fr_afresh.proofs.evaluation.+eval.Given as goal

-- the measure where so many levels are left, and so many calls may follow one another at most before the next level
abbrev on_level : ℕ → ℕ → ℕ
on_level levels calls = 4 * levels + calls

abbrev pub decreases-eval : goal.decreases-eval
decreases-eval l = on_level l.left 0

abbrev pub decreases-eval_parts : goal.decreases-eval_parts
decreases-eval_parts l = on_level l.left 1

abbrev pub decreases-eval_with : goal.decreases-eval_with
decreases-eval_with l = on_level l.left 1

abbrev pub decreases-eval_let : goal.decreases-eval_let
decreases-eval_let l = on_level l.left 3

abbrev pub decreases-eval_if : goal.decreases-eval_if
decreases-eval_if l = on_level l.left 3

abbrev pub decreases-eval_call : goal.decreases-eval_call
decreases-eval_call l = on_level l.left 3

abbrev pub decreases-eval_operator : goal.decreases-eval_operator
decreases-eval_operator l = on_level l.left 3

abbrev pub decreases-eval_handler : goal.decreases-eval_handler
decreases-eval_handler l = on_level l.left 3

abbrev pub decreases-eval_called : goal.decreases-eval_called
decreases-eval_called l = on_level l.left 1

abbrev pub decreases-eval_loop : goal.decreases-eval_loop
decreases-eval_loop l = on_level l.left 3

abbrev pub decreases-eval_turns : goal.decreases-eval_turns
decreases-eval_turns l = on_level l.left 2

abbrev pub decreases-eval_turn : goal.decreases-eval_turn
decreases-eval_turn l = on_level l.left 1

abbrev pub decreases-eval_feedback : goal.decreases-eval_feedback
decreases-eval_feedback l = on_level l.left 3

abbrev pub invariant-eval_parts-loop-i : goal.invariant-eval_parts-loop-i
invariant-eval_parts-loop-i l = record {
  same_env : l.env ≡ l.fn.env;
  so_far : parts_on l.so_far (parts (eval_to l.left l.world) l.fn.env (tree l.kept) l.i (drop l.i l.exprs)) ≡ parts_without_cost (parts (eval_to l.left l.world) l.fn.env (tree l.kept) 0 l.exprs);
}

abbrev pub invariant-eval_turns-loop-number : goal.invariant-eval_turns-loop-number
invariant-eval_turns-loop-number l = record {
  same_env : l.env ≡ l.fn.env;
  so_far : turns_on l.so_far (turns (body_with (eval_to l.left l.world) l.fn.env l.body) (number_of l.rest) l.so_far.value (rounds_left l.rest))
      ≡ turns_on (record { value = l.fn.init; first = None }) (turns (body_with (eval_to l.left l.world) l.fn.env l.body) (number_of l.fn.rounds) l.fn.init (rounds_left l.fn.rounds));
}

abbrev pub decreases-eval_turns-loop-number : goal.decreases-eval_turns-loop-number
decreases-eval_turns-loop-number l = length (rounds_left l.rest)
