use Rattle.std.proofs.Common.{◌≡◌, drop}
use Rattle.std.specs.Option.{option_copied}
use Rattle.fr_meaning.specs.States.{either_event, leftmost}
use Rattle.fr_forms.proofs.operators.first_occurrence.Given as goal

abbrev pub invariant-loop-value : goal.invariant-loop-value
invariant-loop-value l = either_event (option_copied l.found) (leftmost (drop l.value-index l.parts)) ≡ leftmost l.parts
