-- The run of a program: its instants in order, up to the first that errs and with it.
use Rattle.std.specs.Prelude.{ℕ, ◌+◌, List, [], ◌∷◌, Some, None}
use Rattle.fr_core.specs.declared.inputs.Inputs.{Inputs}
use Rattle.fr_core.specs.declared.program.Program.{Program}
use Rattle.fr_meaning.specs.Words.{First}
use Rattle.fr_meaning.specs.Afresh.{State, Instant, handed_on, instant}

-- an instant of a run: its number, its time, and all that its evaluation gives
pub record Run : Type 0 where
  pub number : ℕ
  pub time : ℕ
  pub instant : Instant

-- what follows an instant: nothing where it errs
abbrev pub unless_erred : First → List Run → List Run
unless_erred None behind = behind
unless_erred (Some first) behind = []

-- the run over these instants, of which the first has this number, on from a state
abbrev pub runs_from : ℕ → Program → State → List Inputs → List Run
runs_from k p s [] = []
runs_from k p s (i ∷ is) =
    let n = instant p s i in
    record { number = k; time = i.time; instant = n } ∷ unless_erred n.evaluated.first (runs_from (k + 1) p (handed_on n) is)

-- the run over these instants, numbered from 0
abbrev pub runs : Program → State → List Inputs → List Run
runs p s is = runs_from 0 p s is
