use Rattle.fr_way.proofs.Errs.{left_errs, first_left_errs}
use Rattle.fr_way.proofs.laws.errors_at_the_end_are_those_of_evaluating_afresh.Goals as goal

pub returns-clause-first : goal.returns-clause-first
returns-clause-first c = first_left_errs

pub returns-clause-further : goal.returns-clause-further
returns-clause-further c = left_errs
