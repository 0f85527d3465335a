-- What evaluation of the whole program stands for.
use Rattle.std.specs.Prelude.{◌≡◌}
use Rattle.fr_meaning.specs.Afresh.{State}
use Rattle.fr_afresh.specs.Stands.{evaluated_program, state_of}
use Rattle.fr_run.specs.declared.whole.WholeEvaluator.{WholeEvaluator}
use Rattle.fr_run.specs.Standing.{Standing}

-- what evaluation of the whole shows
abbrev pub standing_of : WholeEvaluator → Standing
standing_of e = record { program = evaluated_program e.afresh; shown = e.shown.items; changed = e.changed.items }

-- it stands for one state alone
abbrev pub IsItsState : WholeEvaluator → State → Type 0
IsItsState e s = s ≡ state_of e.afresh
