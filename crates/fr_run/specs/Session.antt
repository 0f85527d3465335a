-- What a session says of courses that may be unknown.
use Rattle.std.specs.Prelude.{ℕ, true, List, length, Option, Some, IfSome}
use Rattle.fr_io.specs.Files.{ReachesFront}
use Rattle.fr_io.specs.Shelves.{Holds, Reached}
use Rattle.fr_core.specs.declared.program.Program.{Program}
use Rattle.fr_script.specs.declared.reader.ScriptReader.{ScriptReader}
use Rattle.fr_script.specs.Sources.{Named, sources}
use Rattle.fr_meaning.specs.Texts.{Shown}
use Rattle.fr_meaning.specs.Afresh.{State}
use Rattle.fr_show.specs.declared.stop.Stop.{Stop}
use Rattle.fr_show.specs.Accepted.{OnJudged, OnEachJudged}
use Rattle.fr_show.specs.Course.{Course}
use Rattle.fr_show.specs.Ends.{SaysOn}
use Rattle.fr_show.specs.Output.{program_course, course_over}
use Rattle.fr_run.specs.Scripts.{IsFed}
use Rattle.fr_run.specs.Written.{course_behind}

-- the fact holds of the course that is ahead of a reader, whatever it was fed, on from each of these states
abbrev pub OnAhead : ScriptReader → (State → Type 0) → Program → List Shown → (Course → Type 0) → Type 0
OnAhead r stands_for p shows F =
    (s : State) → stands_for s → (ss : List Named) (script : List ℕ) (given : ℕ) → IsFed r ss script given → F (course_behind p s ss script given shows)

-- the fact holds of the course over a script from its first instant on, where the script is told
abbrev pub OnScript : Option (List ℕ) → (State → Type 0) → Program → List Shown → (Course → Type 0) → Type 0
OnScript script stands_for p shows F = (s : State) → stands_for s → IfSome script (λ file. F (course_behind p s (sources p) file 0 shows))

-- the fact holds of the course of a program over a script, where the script is told
abbrev pub OnProgram : Option (List ℕ) → Program → (Course → Type 0) → Type 0
OnProgram script p F = IfSome script (λ file. F (program_course p file true))

-- the fact holds of the course of a program's text over a script, where what is told of the script settles it
abbrev pub OnText : Option (List ℕ) → List ℕ → (Course → Type 0) → Type 0
OnText script text F = OnJudged (course_over script) (Some text) F

-- what a stop says of that course
abbrev pub TextSays : Stop → Option (List ℕ) → List ℕ → Option (List ℕ) → Option (List ℕ) → Type 0
TextSays stop script text old new =
    SaysOn stop (OnJudged (course_over script) (Some text)) (OnEachJudged (course_over script) (Some text)) old new

-- a file was read to its end, where that is told
abbrev pub IsReadToEnd : List ℕ → Holds → Reached → Reached → Type 0
IsReadToEnd name holds before now = IfSome (holds name) (λ file. ReachesFront (before name) (now name) (length file))
