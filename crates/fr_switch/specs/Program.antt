-- A program whose switches' choices can be built.
use Rattle.std.specs.Prelude.{refl}
use Rattle.std.specs.Coded.{Coded, code_by, coded×}
use Rattle.fr_ready.specs.Ready.{Planned, planned_code, IsPlanReady, PlanMatches}
use Rattle.fr_ready.specs.Switches.{Found, found_code, sites_by}

-- a lowered program, and what was found at each site
pub record Program : Type 0 where
  pub planned : Planned
  pub found : Found

-- it is stored as the pair of these
abbrev pub program_code : Coded Program
program_code = code_by (Planned × Found) (coded× planned_code found_code) (λ c. (c.planned, c.found)) (λ t. record { planned = t.0; found = t.1 }) (λ _. refl)

-- all of it can be built, and at each site are the choices of its switch
pub record IsWhole (planned : Planned) (found : Found) : Type 0 where
  pub ready : IsPlanReady planned
  pub matches : PlanMatches (sites_by found) planned
