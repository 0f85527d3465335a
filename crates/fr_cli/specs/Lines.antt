-- The status and the line of each failure.
use Rattle.std.specs.Prelude.{◌≡◌, ◌≤◌, ◌⊎◌, ℕ, List, [], ◌++◌, Option, Some, None, codes, decimal}
use Rattle.std.specs.Io.KnownBytes.{Appends}
use Rattle.fr_io.specs.Faults.{Rose}
use Rattle.fr_io.specs.Files.{AppendsSome}
use Rattle.fr_show.specs.declared.stop.Stop.{Stop}
use Rattle.fr_show.specs.declared.stop.Stop.TheVariants.{Program, Script, Evaluation, Read, Write, Memory}
use Rattle.fr_show.specs.declared.stop.ProgramKind.{ProgramKind}
use Rattle.fr_show.specs.declared.stop.ProgramKind.TheVariants as program_kind
use Rattle.fr_script.specs.declared.turn.LineKind.{LineKind}
use Rattle.fr_script.specs.declared.turn.LineKind.TheVariants as line_kind
use Rattle.fr_io.specs.Shelves.{Holds}
use Rattle.fr_show.specs.Accepted.{OnJudged}
use Rattle.fr_show.specs.Ends.{SaysOn}
use Rattle.fr_cli.specs.declared.telling.Failure.{Failure}
use Rattle.fr_cli.specs.declared.telling.Failure.TheVariants.{Usage, Stopped}
use Rattle.fr_cli.specs.Command.{Command, OnCommand, OnEachCommand}

abbrev pub status_of : Failure → ℕ
status_of Usage = 1
status_of (Stopped (Program form kind)) = 2
status_of (Stopped (Script line kind)) = 3
status_of (Stopped (Evaluation time)) = 4
status_of (Stopped Read) = 6
status_of (Stopped Write) = 7
status_of (Stopped (Memory e)) = 8

-- the status of a course's own end
abbrev pub status_of_end : Option Stop → ℕ
status_of_end None = 0
status_of_end (Some stop) = status_of (Stopped stop)

abbrev pub program_word : ProgramKind → List ℕ
program_word program_kind.Length = codes "length"
program_word program_kind.Text = codes "text"
program_word program_kind.Form = codes "form"
program_word program_kind.Name = codes "name"
program_word program_kind.Unbound = codes "unbound"
program_word program_kind.Twice = codes "twice"
program_word program_kind.Handler = codes "handler"
program_word program_kind.Nesting = codes "nesting"

abbrev pub line_word : LineKind → List ℕ
line_word line_kind.Grammar = codes "grammar"
line_word line_kind.Name = codes "name"
line_word line_kind.Twice = codes "twice"
line_word line_kind.Time = codes "time"
line_word line_kind.Value = codes "value"
line_word line_kind.Long = codes "long"
line_word line_kind.Many = codes "many"

-- how the line of a refusal ends
abbrev pub refusal_end : List ℕ → List ℕ
refusal_end word = codes ": " ++ word ++ codes "\n"

-- the line of a failure, with its newline
unfoldable pub failure_line : Failure → List ℕ
failure_line Usage = codes "usage\n"
failure_line (Stopped (Program form kind)) =
    codes "program refused at form " ++ decimal form ++ refusal_end (program_word kind)
failure_line (Stopped (Script line kind)) =
    codes "script refused at line " ++ decimal line ++ refusal_end (line_word kind)
failure_line (Stopped (Evaluation time)) =
    codes "evaluation error at time " ++ decimal time ++ codes "\n"
failure_line (Stopped Read) = codes "read fault\n"
failure_line (Stopped Write) = codes "write fault\n"
failure_line (Stopped (Memory e)) = codes "no memory\n"

-- the line was appended whole, and the count stays; or some first bytes of it were, but not all, and it rose
abbrev pub WritesLine : List ℕ → Option (List ℕ) → Option (List ℕ) → ℕ → ℕ → Type 0
WritesLine line old new before now =
    (Appends old new line × (now ≡ before))
    ⊎ (AppendsSome old new line × (before ≤ now) × Rose before now)

-- what a failure says: the words are no command, and nothing was written; or what the stop says of the command's course
abbrev pub FailureSays : Failure → Option Command → Holds
    → Option (List ℕ) → Option (List ℕ) → Type 0
FailureSays Usage w holds old new = (w ≡ None) × Appends old new []
FailureSays (Stopped stop) w holds old new =
    SaysOn stop (OnCommand w holds) (OnEachCommand w holds) old new

-- what a status other than 0 stands for: a failure, what it says, and its line
pub record StandsFor (status : ℕ) (w : Option Command) (holds : Holds)
    (old new err_old err_new : Option (List ℕ)) (before now : ℕ) : Type 0 where
  pub failure : Failure
  pub status_is : status ≡ status_of failure
  pub says : FailureSays failure w holds old new
  pub line : WritesLine (failure_line failure) err_old err_new before now

-- the status is the one that the words call for: that of the course's own end, and 1 where they are no command
abbrev pub CallsFor : Option Command → Holds → ℕ → Type 0
CallsFor None holds status = status ≡ 1
CallsFor (Some c) holds status =
    OnJudged (c.course holds) (holds c.program) (λ d. status ≡ status_of_end d.stop)
