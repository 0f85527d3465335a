use Rattle.fr_core.specs.WellFormed.{IsWellFormed}
use Rattle.fr_afresh.specs.Stands.{evaluated_program}
use Rattle.fr_tests.proofs.errors.stop_behind.Given as goal

abbrev pub invariant-instants : goal.invariant-instants
invariant-instants l = IsWellFormed (evaluated_program l.at)
