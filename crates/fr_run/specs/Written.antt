-- What a session writes at an instant, and the course that is ahead of it.
use Rattle.std.specs.Prelude.{ℕ, ◌+◌, ◌≡◌, true, List, ◌∷◌, length, Option}
use Rattle.std.specs.Io.KnownBytes.{Appends}
use Rattle.fr_io.specs.Files.{AppendsSome}
use Rattle.fr_core.specs.declared.inputs.Inputs.{Inputs}
use Rattle.fr_core.specs.declared.program.Program.{Program}
use Rattle.fr_script.specs.Sources.{Named}
use Rattle.fr_script.specs.Instants.{bad_line}
use Rattle.fr_meaning.specs.Texts.{Shown, instant_text, next_each}
use Rattle.fr_meaning.specs.Afresh.{State, Instant}
use Rattle.fr_meaning.specs.Runs.{runs_from}
use Rattle.fr_show.specs.declared.stop.Stop.{Stop}
use Rattle.fr_show.specs.declared.stop.Stop.TheVariants as stop
use Rattle.fr_show.specs.Course.{Course}
use Rattle.fr_show.specs.Ends.{StopSays}
use Rattle.fr_show.specs.Output.{shows_of, course_of, script_end}
use Rattle.fr_run.specs.Scripts.{ahead}
use Rattle.fr_run.specs.Standing.{Standing, IsBehind, seen_of}

-- there is one for each show of the program
abbrev pub AreShowsOf : List Shown → Program → Type 0
AreShowsOf shows p = length shows ≡ length (shows_of p.body)

-- the last plain text of each show is that of its value, where that is plain
abbrev pub HaveTextsOf : List Shown → Standing → Type 0
HaveTextsOf shows e = next_each shows (seen_of e) ≡ shows

-- an instant of this time in which nothing errs was run, and its text was written
pub record Wrote (stands_for : State → Type 0) (e : Standing) (p : Program) (n : Instant) (time : ℕ) (shows later : List Shown) (old new : Option (List ℕ)) : Type 0 where
  pub behind : IsBehind stands_for e p n
  pub shows_are : later ≡ next_each shows n.evaluated.shown
  pub written : Appends old new (instant_text time shows n.evaluated.shown)

-- what was written of a text: some first bytes at a write fault, and nothing where there was no memory for it
abbrev pub CutShort : Stop → List ℕ → Option (List ℕ) → Option (List ℕ) → Type 0
CutShort stop.Write text old new = AppendsSome old new text
CutShort (stop.Memory e) text old new = new ≡ old
CutShort other text old new = ⊥

-- what a stop within an instant says, whatever its number and whatever is behind it
abbrev pub StopsIn : Stop → Program → State → Inputs → List Shown → Option (List ℕ) → Option (List ℕ) → Type 0
StopsIn stop p s i shows old new = (k : ℕ) (end : Option Stop) (is : List Inputs) → StopSays stop (course_of end shows (runs_from k p s (i ∷ is))) old new

-- the course of a program over the whole instants of a script behind so many, on from a state
abbrev pub course_behind : Program → State → List Named → List ℕ → ℕ → List Shown → Course
course_behind p s ss script given shows = course_of (script_end (bad_line ss script true)) shows (runs_from (given + 1) p s (ahead ss script given))
