-- What a program prints over a script: the texts of instant 0 and of the script's instants, up to the first that errs.
use Rattle.std.specs.Prelude.{ℕ, Bool, true, List, [], ◌∷◌, Option, Some, None, Ok, Err}
use Rattle.fr_core.specs.declared.program.Item.{Item}
use Rattle.fr_core.specs.declared.program.Item.TheVariants as item
use Rattle.fr_core.specs.declared.program.Program.{Program}
use Rattle.fr_script.specs.Instants.{BadLine, whole, bad_line}
use Rattle.fr_script.specs.Sources.{sources}
use Rattle.fr_meaning.specs.Words.{First}
use Rattle.fr_meaning.specs.Texts.{Shown, instant_text, next_each}
use Rattle.fr_meaning.specs.Afresh.{beginning, first_instant}
use Rattle.fr_meaning.specs.Runs.{Run, runs}
use Rattle.fr_show.specs.declared.stop.Stop.{Stop}
use Rattle.fr_show.specs.declared.stop.Stop.TheVariants as stop
use Rattle.fr_show.specs.Accepted.{Verdict}
use Rattle.fr_show.specs.Course.{Course, stopped, after}

-- the shows of a program's items, of which none was printed yet
abbrev pub shows_of : List Item → List Shown
shows_of [] = []
shows_of (item.Define e ∷ is) = shows_of is
shows_of (item.Show name e ∷ is) = record { name = name; last = None } ∷ shows_of is

-- an error stops the course; else the text is printed before what follows
abbrev pub unless_errs : First → ℕ → List ℕ → Course → Course
unless_errs None time text rest = after (text ∷ []) rest
unless_errs (Some first) time text rest = stopped (Some (stop.Evaluation time))

-- the course of a run, printed by these shows: the texts of its instants, up to the first that errs; where none does it ends so
abbrev pub course_of : Option Stop → List Shown → List Run → Course
course_of end shows [] = stopped end
course_of end shows (r ∷ rs) =
    let now = r.instant.evaluated in
    unless_errs now.first r.time (instant_text r.time shows now.shown) (course_of end (next_each shows now.shown) rs)

-- the end that a script's first bad line makes, if there is one
abbrev pub script_end : Option BadLine → Option Stop
script_end None = None
script_end (Some b) = Some (stop.Script b.0 b.1)

-- the course of a program over a script so far: instant 0, and then the script's whole instants
abbrev pub program_course : Program → List ℕ → Bool → Course
program_course p bytes ended =
    course_of (script_end (bad_line (sources p) bytes ended)) (shows_of p.body) (runs p (beginning p) (first_instant ∷ whole (sources p) bytes ended))

-- the course of what a text is judged to be, where what is told of the script settles it
abbrev pub course_over : Option (List ℕ) → Verdict → Option Course
course_over script (Err r) = Some (stopped (Some (stop.Program r.form r.kind)))
course_over None (Ok p) = None
course_over (Some bytes) (Ok p) = Some (program_course p bytes true)
