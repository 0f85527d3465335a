-- What obeying words leaves.
use Rattle.std.specs.Prelude.{ℕ, ◌≡◌, ◌↔◌, List, [], Option, None, Result, Ok, Err, OnOk, OnErr, IfErr}
use Rattle.std.specs.Io.KnownBytes.{Appends}
use Rattle.fr_io.specs.Faults.{FailsAs, Counts}
use Rattle.fr_io.specs.Shelves.{Holds, Reached, Faults, Reads}
use Rattle.fr_show.specs.declared.stop.Stop.{Stop}
use Rattle.fr_show.specs.declared.stop.Stop.TheVariants.{Read, Write, Memory}
use Rattle.fr_show.specs.Ends.{EndsThere}
use Rattle.fr_cli.specs.declared.telling.Failure.{Failure}
use Rattle.fr_cli.specs.declared.telling.Failure.TheVariants.{Usage, Stopped}
use Rattle.fr_cli.specs.Command.{Command, OnCommand, files_in, AllRead, FailsToRead, Answers, IsQuiet}
use Rattle.fr_cli.specs.Lines.{status_of, FailureSays}

-- the status of what was obeyed
abbrev pub status_in : {T : Type 0} → Result T Failure → ℕ
status_in (Ok t) = 0
status_in (Err failure) = status_of failure

-- a program's file couldn't be read: a fault, or no memory
abbrev pub IsUnread : Stop → Type 0
IsUnread Read = Unit {0}
IsUnread (Memory e) = Unit {0}
IsUnread other = ⊥

-- a session's answer, as one of the command
abbrev pub failed : {T : Type 0} → Result T Stop → Result T Failure
failed (Ok t) = Ok t
failed (Err stop) = Err (Stopped stop)

-- what words leave that ask for this command, or for none: what their answer says of the course and of the files, and what
-- became of the shelf, of what was written and of the counts
pub record Obeys {T : Type 0} (w : Option Command) (answer : Result T Failure)
    (holds later : Holds) (reached further : Reached) (before now : Faults)
    (old new : Option (List ℕ)) (count later_count : ℕ) : Type 0 where
  pub ok : OnOk answer (OnCommand w holds (λ c. EndsThere None c old new))
  pub err : IfErr answer (λ failure. FailureSays failure w holds old new)
  pub to_end : OnOk answer (AllRead (files_in w) holds reached further)
  pub unread : FailsAs answer (Stopped Read) → FailsToRead w holds before now old new
  pub shelf : Reads (files_in w) (FailsAs answer (Stopped Read)) holds later reached further before now
  pub counts : Counts (FailsAs answer (Stopped Write)) count later_count
  pub answers : Answers w (status_in answer)
  pub usage : FailsAs answer Usage ↔ (w ≡ None)
  pub quiet : IsQuiet w → (FailsAs answer (Stopped Write) → ⊥) → OnErr answer (Appends old new [])
