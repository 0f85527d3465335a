-- What an evaluator of instants stands for.
use Rattle.std.specs.Prelude.{ℕ, ◌≡◌, ◌≢◌, ◌<◌, ◌⊎◌, List, [], length, map, slice_get, Contains, Result, Ok, IfOk, IfErr, Some, None}
use Rattle.fr_value.specs.declared.value.Value.{Value}
use Rattle.fr_value.specs.declared.now.Now.{Now}
use Rattle.fr_value.specs.declared.now.Now.TheVariants.{Occ}
use Rattle.fr_core.specs.declared.program.Program.{Program}
use Rattle.fr_core.specs.WellFormed.{IsWellFormed}
use Rattle.fr_meaning.specs.Words.{Seen}
use Rattle.fr_meaning.specs.Afresh.{State, Instant, beginning, first_instant, handed_on, instant}
use Rattle.fr_show.specs.declared.stop.Stop.{Stop}
use Rattle.fr_show.specs.declared.stop.Stop.TheVariants as stop
use Rattle.fr_show.specs.Shows.{RiseFrom}
use Rattle.fr_run.specs.declared.evaluator.InstantStop.{InstantStop}
use Rattle.fr_run.specs.declared.evaluator.InstantStop.TheVariants.{Memory, Errs}

-- what an evaluator shows behind an instant: its program, the values of the shows, and the numbers of those that may have changed
pub record Standing : Type 0 where
  pub program : Program
  pub shown : List Now
  pub changed : List ℕ

-- the values of the shows, of which none errs
abbrev pub seen_of : Standing → List Seen
seen_of e = map (λ v. Ok v) e.shown

-- what stands for these states and shows this stands behind this instant of a program, in which nothing errs
pub record IsBehind (stands_for : State → Type 0) (e : Standing) (p : Program) (n : Instant) : Type 0 where
  pub program : e.program ≡ p
  pub state : stands_for (handed_on n)
  pub shown : seen_of e ≡ n.evaluated.shown
  pub clean : n.evaluated.first ≡ None

-- there is a state that it stands for
abbrev pub StandsForSome : (State → Type 0) → Type 0
StandsForSome stands_for = (s : State) × stands_for s

-- the show with this number has the value that it had, and doesn't occur
pub record IsAsBefore (before now : List Now) (n : ℕ) : Type 0 where
  pub same : slice_get now n ≡ slice_get before n
  pub quiet : (v : Value) → slice_get now n ≢ Some (Occ (Some v))

-- these are numbers of shows, each once and in rising order, and any other show is as it was before
pub record NamesChanges (before now : List Now) (numbers : List ℕ) : Type 0 where
  pub rising : RiseFrom 0 (length now) numbers
  pub others : (n : ℕ) → n < length now → Contains numbers n ⊎ IsAsBefore before now n

-- the instant errs; want of memory tells nothing
abbrev pub IsCause : InstantStop → Instant → Type 0
IsCause (Memory e) n = Unit {0}
IsCause Errs n = n.evaluated.first ≢ None

-- it stands behind instant 0 of its program, in which nothing errs, and names what it shows
pub record HasBegun (stands_for : State → Type 0) (e : Standing) : Type 0 where
  pub behind : IsBehind stands_for e e.program (instant e.program (beginning e.program) first_instant)
  pub changed : NamesChanges [] e.shown e.changed

-- instant 0 of a program was evaluated, or stopped
pub record WasBegun {E : Type 0} (stands_for : E → State → Type 0) (standing : E → Standing) (p : Program) (begun : Result E InstantStop) : Type 0 where
  pub well_formed : IsWellFormed p
  pub ok : IfOk begun (λ e. ((standing e).program ≡ p) × HasBegun (stands_for e) (standing e))
  pub err : IfErr begun (λ stop. IsCause stop (instant p (beginning p) first_instant))

-- the stop of an instant of this time that wasn't evaluated to its end
abbrev pub unfinished : InstantStop → ℕ → Stop
unfinished (Memory e) time = stop.Memory e
unfinished Errs time = stop.Evaluation time
