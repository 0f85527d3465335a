-- What stands behind an instant that was evaluated afresh.
use Rattle.std.specs.Prelude.{◌≡◌, ℕ, List, map, Some, None, Ok}
use Rattle.fr_value.specs.declared.now.Now.{Now}
use Rattle.fr_core.specs.declared.program.Program.{Program}
use Rattle.fr_meaning.specs.Afresh.{State, Instant, handed_on}
use Rattle.fr_afresh.specs.declared.running.Afresh.{Afresh}
use Rattle.fr_afresh.specs.declared.running.AfreshStop.{AfreshStop}
use Rattle.fr_afresh.specs.declared.running.AfreshStop.TheVariants.{Memory, First}

-- the program that it runs
abbrev pub evaluated_program : Afresh → Program
evaluated_program a = a.program

-- what its instant hands on
abbrev pub state_of : Afresh → State
state_of a = record { values = a.values; kept = a.kept }

-- the values of its shows
abbrev pub shown_of : Afresh → List Now
shown_of a = a.shown

-- it stands behind an instant of a program, in which nothing errs
pub record Leaves (a : Afresh) (p : Program) (n : Instant) : Type 0 where
  pub program : evaluated_program a ≡ p
  pub state : state_of a ≡ handed_on n
  pub shown : map (λ v. Ok v) (shown_of a) ≡ n.evaluated.shown
  pub clean : n.evaluated.first ≡ None

-- the instant of this time errs first so; want of memory tells nothing
abbrev pub ErrsBy : AfreshStop → ℕ → Instant → Type 0
ErrsBy (Memory e) time n = Unit {0}
ErrsBy (First f) time n = (f.time ≡ time) × (n.evaluated.first ≡ Some (f.path, f.bad))
