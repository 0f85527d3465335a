-- How two worlds are told apart.
use Rattle.std.specs.Prelude.{List, refl}
use Rattle.std.specs.Coded.{Coded, code_by, coded×, coded_list}
use Rattle.fr_value.specs.declared.now.Now.{Now}
use Rattle.fr_value.specs.contracts.now.Now as now
use Rattle.fr_core.specs.declared.program.Function.{Function}
use Rattle.fr_core.specs.contracts.program.Function as function
use Rattle.fr_meaning.specs.Evaluation.{World}

-- a world is stored as the pair of its functions and its sources
abbrev pub world_code : Coded World
world_code =
    code_by (List Function × List Now) (coded× (coded_list function.the_row.coded) (coded_list now.the_row.coded))
    (λ w. (w.functions, w.sources)) (λ p. record { functions = p.0; sources = p.1 }) (λ _. refl)
