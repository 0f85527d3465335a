use Rattle.std.specs.Prelude.{◌≡◌, true}
use Rattle.fr_graph.proofs.Errors.{first_error_afresh, error_afresh}
use Rattle.fr_graph.proofs.laws.errors_are_those_of_evaluating_afresh.Goals as goal

pub returns-clause-first : goal.returns-clause-first
returns-clause-first c = λ was g known. first_error_afresh was g (λ n. known n ≡ true)

pub returns-clause-further : goal.returns-clause-further
returns-clause-further c = λ was g known. error_afresh was g (λ n. known n ≡ true)
