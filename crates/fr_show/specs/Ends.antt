-- What was written of a course, by how it was stopped.
use Rattle.std.specs.Prelude.{◌≡◌, ◌≤◌, ℕ, List, ◌∷◌, length, take, Option, Some}
use Rattle.std.specs.Io.KnownBytes.{Appends}
use Rattle.fr_io.specs.Files.{AppendsSome}
use Rattle.fr_show.specs.declared.stop.Stop.{Stop}
use Rattle.fr_show.specs.declared.stop.Stop.TheVariants.{Program, Script, Evaluation, Read, Write, Memory}
use Rattle.fr_show.specs.declared.stop.ProgramKind.{ProgramKind}
use Rattle.fr_script.specs.declared.turn.LineKind.{LineKind}
use Rattle.fr_show.specs.Course.{Course, all_bytes}

-- a whole number of these texts was appended, from the first on
abbrev pub AppendsWhole : Option (List ℕ) → Option (List ℕ) → List (List ℕ) → Type 0
AppendsWhole old new texts = (k : ℕ) × (k ≤ length texts) × Appends old new (all_bytes (take k texts))

-- the course ends so, and all its texts were appended
abbrev pub EndsThere : Option Stop → Course → Option (List ℕ) → Option (List ℕ) → Type 0
EndsThere stop c old new = (c.stop ≡ stop) × Appends old new (all_bytes c.texts)

-- what a stop tells of a course: that it ends so itself; or that some whole texts were written; that at most the first
-- text was; that some first bytes were, but not all
pub data Extent : Type 0 where
  own_end : Extent
  whole_texts : Extent
  first_text : Extent
  first_bytes : Extent

-- the table of stops; a read fault comes before the instants of the script, which is read whole before they are run
abbrev pub extent_of : Stop → Extent
extent_of (Program form kind) = own_end
extent_of (Script line kind) = own_end
extent_of (Evaluation time) = own_end
extent_of Read = first_text
extent_of Write = first_bytes
extent_of (Memory e) = whole_texts

-- what was appended, where the stop tells so much
abbrev pub WritesTo : Extent → Stop → Course → Option (List ℕ) → Option (List ℕ) → Type 0
WritesTo own_end stop c old new = EndsThere (Some stop) c old new
WritesTo whole_texts stop c old new = AppendsWhole old new c.texts
WritesTo first_text stop c old new = AppendsWhole old new (take 1 c.texts)
WritesTo first_bytes stop c old new = AppendsSome old new (all_bytes c.texts)

-- what a stop says of a course
abbrev pub StopSays : Stop → Course → Option (List ℕ) → Option (List ℕ) → Type 0
StopSays stop c old new = WritesTo (extent_of stop) stop c old new

-- the facts of one course, or of each that it may be: the program may not have been judged yet where whole texts were written
abbrev pub OnOrEach : Extent → ((Course → Type 0) → Type 0) → ((Course → Type 0) → Type 0) → (Course → Type 0) → Type 0
OnOrEach own_end on each = on
OnOrEach whole_texts on each = each
OnOrEach first_text on each = each
OnOrEach first_bytes on each = on

-- what a stop says of a course that may be unknown yet
abbrev pub SaysOn : Stop → ((Course → Type 0) → Type 0) → ((Course → Type 0) → Type 0) → Option (List ℕ) → Option (List ℕ) → Type 0
SaysOn stop on each old new = OnOrEach (extent_of stop) on each (λ c. StopSays stop c old new)

-- the course has a first text, which was appended whole, and no other
pub record Begins (c : Course) (old new : Option (List ℕ)) : Type 0 where
  pub text : List ℕ
  pub behind : List (List ℕ)
  pub texts : c.texts ≡ text ∷ behind
  pub written : Appends old new text

-- the course ends with a refusal of the program, with one of the script, with an instant that errs
abbrev pub RefusesProgram : Course → Option (List ℕ) → Option (List ℕ) → Type 0
RefusesProgram c old new = (form : ℕ) × (kind : ProgramKind) × EndsThere (Some (Program form kind)) c old new

abbrev pub RefusesScript : Course → Option (List ℕ) → Option (List ℕ) → Type 0
RefusesScript c old new = (line : ℕ) × (kind : LineKind) × EndsThere (Some (Script line kind)) c old new

abbrev pub Errs : Course → Option (List ℕ) → Option (List ℕ) → Type 0
Errs c old new = (time : ℕ) × EndsThere (Some (Evaluation time)) c old new
