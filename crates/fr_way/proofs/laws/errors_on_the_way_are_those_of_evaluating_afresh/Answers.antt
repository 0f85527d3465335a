use Rattle.fr_way.proofs.Errs.{taken_errs, first_taken_errs}
use Rattle.fr_way.proofs.laws.errors_on_the_way_are_those_of_evaluating_afresh.Goals as goal

pub returns-clause-first : goal.returns-clause-first
returns-clause-first c = first_taken_errs

pub returns-clause-further : goal.returns-clause-further
returns-clause-further c = taken_errs
