-- The commands: what words ask for each, which files it reads, what it does, and how it may end.
use Rattle.std.specs.Prelude.{ℕ, ◌≡◌, ◌&&◌, ◌==◌, not, Bool, true, false, IsTrue, if◌then◌else◌, List, [], ◌∷◌, length, map, Option, Some, None, IfSome, Ok, Err, codes, ◌⊎◌, String, string_bytes}
use Rattle.std.specs.declared.alloc.Global.{Global}
use Rattle.std.specs.Str.{bytes_eq}
use Rattle.std.specs.Io.KnownBytes.{Appends}
use Rattle.fr_io.specs.Faults.{Rose, AnyRose}
use Rattle.fr_io.specs.Files.{ReachesFront}
use Rattle.fr_io.specs.Shelves.{Holds, Reached, Faults}
use Rattle.fr_show.specs.declared.stop.Stop.TheVariants.{Program}
use Rattle.fr_show.specs.Course.{Course, stopped}
use Rattle.fr_show.specs.Accepted.{Verdict, OnJudged, OnEachJudged}
use Rattle.fr_show.specs.Ends.{AppendsWhole, Begins}
use Rattle.fr_show.specs.Output.{course_over}

-- a command: its word, the names of its program's file and of those behind it, its course by what is told of
-- these and by what the program is judged to be, the statuses that it may answer, and whether it writes nothing
-- where it stops, but for a write fault
pub record Command : Type 0 where
  pub word : List ℕ
  pub program : List ℕ
  pub behind : List (List ℕ)
  pub course : Holds → Verdict → Option Course
  pub statuses : List ℕ
  pub quiet : Bool

-- a command that runs a program over a script, with the whole program evaluated afresh at every instant
abbrev pub script_command : List ℕ → List ℕ → List ℕ → Command
script_command word program script = record {
  word = word;
  program = program;
  behind = script ∷ [];
  course = λ holds. course_over (holds script);
  statuses = 0 ∷ 2 ∷ 3 ∷ 4 ∷ 6 ∷ 7 ∷ 8 ∷ [];
  quiet = false;
}

abbrev pub run : List ℕ → List ℕ → Command
run program script = script_command (codes "run") program script

abbrev pub afresh : List ℕ → List ℕ → Command
afresh program script = script_command (codes "afresh") program script

-- the course of `check`: an accepted program is told, and a refusal stops it
abbrev pub checked : Verdict → Option Course
checked (Ok p) = Some (record { texts = codes "accepted\n" ∷ []; stop = None })
checked (Err r) = Some (stopped (Some (Program r.form r.kind)))

abbrev pub check : List ℕ → Command
check program = record {
  word = codes "check";
  program = program;
  behind = [];
  course = λ holds. checked;
  statuses = 0 ∷ 2 ∷ 6 ∷ 7 ∷ 8 ∷ [];
  quiet = true;
}

-- the commands over one file, and those over two
abbrev pub over_one : List ℕ → List Command
over_one program = check program ∷ []

abbrev pub over_two : List ℕ → List ℕ → List Command
over_two program script = run program script ∷ afresh program script ∷ []

-- the first of these that a word asks for
abbrev pub asked_for : List ℕ → List Command → Option Command
asked_for word [] = None
asked_for word (c ∷ cs) = if bytes_eq word c.word then Some c else asked_for word cs

-- whether a word can name a file: it doesn't begin with `-`
abbrev pub names_file : List ℕ → Bool
names_file [] = true
names_file (b ∷ bs) = not (b == 45)

-- the command that the words are: a command's word, and then the names of its files
abbrev pub command_of : List (List ℕ) → Option Command
command_of (word ∷ program ∷ script ∷ []) =
    if names_file program && names_file script then asked_for word (over_two program script)
    else None
command_of (word ∷ program ∷ []) =
    if names_file program then asked_for word (over_one program) else None
command_of _ = None

-- the command that the words of a command line ask for
abbrev pub asked : List (String Global) → Option Command
asked words = command_of (map string_bytes words)

-- the words are a command, and the fact holds of its course, where what the shelf tells of its files settles it
abbrev pub OnCommand : Option Command → Holds → (Course → Type 0) → Type 0
OnCommand None holds F = ⊥
OnCommand (Some c) holds F = OnJudged (c.course holds) (holds c.program) F

-- the same where the program's file may not have been judged
abbrev pub OnEachCommand : Option Command → Holds → (Course → Type 0) → Type 0
OnEachCommand None holds F = ⊥
OnEachCommand (Some c) holds F = OnEachJudged (c.course holds) (holds c.program) F

-- a whole number of the course's texts was appended, and nothing where the words are no command
abbrev pub WritesWhole : Option Command → Holds → Option (List ℕ) → Option (List ℕ) → Type 0
WritesWhole None holds old new = Appends old new []
WritesWhole (Some c) holds old new =
    OnEachJudged (c.course holds) (holds c.program) (λ d. AppendsWhole old new d.texts)

-- the files that a command names
abbrev pub files_in : Option Command → List (List ℕ)
files_in None = []
files_in (Some c) = c.program ∷ c.behind

-- each of these files was read to its end, where that is told
abbrev pub AllRead : List (List ℕ) → Holds → Reached → Reached → Type 0
AllRead [] holds before now = Unit {0}
AllRead (f ∷ fs) holds before now =
    IfSome (holds f) (λ file. ReachesFront (before f) (now f) (length file))
    × AllRead fs holds before now

-- a file couldn't be read: the program's, and nothing was written; or one behind it, and of an accepted program,
-- whose instant 0 doesn't err, exactly the text of instant 0 was, whatever the files behind hold
abbrev pub FailsToRead : Option Command → Holds → Faults → Faults
    → Option (List ℕ) → Option (List ℕ) → Type 0
FailsToRead None holds before now old new = ⊥
FailsToRead (Some c) holds before now old new =
    (Rose (before c.program) (now c.program) × Appends old new [])
    ⊎ (AnyRose c.behind before now
    × ((any : Holds) → OnJudged (c.course any) (holds c.program) (λ d. Begins d old new)))

abbrev pub IsAmong : ℕ → List ℕ → Type 0
IsAmong n [] = ⊥
IsAmong n (m ∷ ms) = (n ≡ m) ⊎ IsAmong n ms

-- the statuses that a command may answer
abbrev pub Answers : Option Command → ℕ → Type 0
Answers None status = status ≡ 1
Answers (Some c) status = IsAmong status c.statuses

-- whether a command writes nothing where it stops, but for a write fault
abbrev pub IsQuiet : Option Command → Type 0
IsQuiet None = Unit {0}
IsQuiet (Some c) = IsTrue c.quiet
