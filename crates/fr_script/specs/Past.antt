-- What is known of the lines before a line.
use Rattle.std.specs.Prelude.{ℕ, Option, refl}
use Rattle.std.specs.Coded.{Coded, code_by, coded×, coded_ℕ, coded_option}
use Rattle.fr_core.specs.declared.inputs.Inputs.{Inputs}
use Rattle.fr_core.specs.contracts.inputs.Inputs as inputs

-- the number of lines and of their bytes, the number of instants that they began, and the last one
pub record Past : Type 0 where
  pub lines : ℕ
  pub bytes : ℕ
  pub count : ℕ
  pub last : Option Inputs

-- how two are told apart
abbrev pub past_code : Coded Past
past_code =
    code_by (ℕ × (ℕ × (ℕ × Option Inputs))) (coded× coded_ℕ (coded× coded_ℕ (coded× coded_ℕ (coded_option inputs.the_row.coded))))
    (λ p. (p.lines, (p.bytes, (p.count, p.last)))) (λ q. record { lines = q.0; bytes = q.1.0; count = q.1.1.0; last = q.1.1.1 }) (λ _. refl)
