-- How a script reader goes on by one line.
use Rattle.std.specs.Prelude.{ℕ, ◌+◌, ◌<◌, ◌≤◌, ◌≡◌, Bool, true, false, List, [], length, drop, Option, Some, None}
use Rattle.std.specs.Option.{option_map}
use Rattle.fr_core.specs.declared.inputs.Inputs.{Inputs}
use Rattle.fr_script.specs.declared.said.Said.{Said}
use Rattle.fr_script.specs.declared.said.Said.TheVariants as said
use Rattle.fr_script.specs.declared.turn.Turn.{Turn}
use Rattle.fr_script.specs.declared.turn.Turn.TheVariants as turn
use Rattle.fr_script.specs.declared.line_reader.LineReader.{LineReader}
use Rattle.fr_script.specs.Past.{Past}
use Rattle.fr_script.specs.Instants.{BadLine, Found}
use Rattle.fr_script.specs.Ahead.{passed, set_in, closed_by, before, nothing}
use Rattle.fr_script.specs.Stands.{is_told, MayFollow, ahead_of, Falls}

-- the turn that a line gives, if any
abbrev pub turn_of : Said → Past → Option Turn
turn_of said.Blank p = None
turn_of (said.Sets time e) p = option_map (λ i. turn.Instant i) (closed_by p.last time)
turn_of (said.Bad k) p = Some (turn.Refused (p.lines + 1) k)

-- the reader behind a line of so many bytes
abbrev pub behind_line : Said → LineReader → ℕ → LineReader
behind_line said.Blank r n = record r { past = passed r.past n; rest = drop n r.rest }
behind_line (said.Sets time e) r n = record r { past = passed (set_in r.past time e) n; rest = drop n r.rest }
behind_line (said.Bad k) r n = record r { bad = Some (r.past.lines + 1, k) }

-- ahead of the one reader is what is ahead of the other, behind an instant if there is one
pub record Onward (old : LineReader) (i : Option Inputs) (new : LineReader) : Type 0 where
  pub told : is_told new ≡ is_told old
  pub same : (more : List ℕ) (ended : Bool) → MayFollow (is_told old) more ended → ahead_of old more ended ≡ before i (ahead_of new more ended)

-- nothing is ahead but a bad line
abbrev pub only_bad : BadLine → Found
only_bad b = record { instants = []; bad = Some b }

-- a turn goes from one reader to the other
abbrev pub TurnGoes : Turn → LineReader → LineReader → Type 0
TurnGoes (turn.Instant i) old new = Onward old (Some i) new
TurnGoes turn.More old new = Onward old None new × (is_told old ≡ false) × (ahead_of old [] false ≡ nothing)
TurnGoes turn.End old new = Onward old None new × (is_told old ≡ true) × (ahead_of old [] true ≡ nothing)
TurnGoes (turn.Refused line kind) old new = Onward old None new × ((more : List ℕ) (ended : Bool) → MayFollow (is_told old) more ended → ahead_of old more ended ≡ only_bad (line, kind))

-- one step gives a turn, or goes on with fewer bytes
abbrev pub Steps : Option Turn → LineReader → LineReader → Type 0
Steps None old new = Onward old None new × (length new.rest < length old.rest)
Steps (Some t) old new = TurnGoes t old new

-- the same of a step: one without a turn leaves no more
abbrev pub StepFalls : Option Turn → ℕ → ℕ → Type 0
StepFalls None old new = new ≤ old
StepFalls (Some t) old new = Falls t old new
