-- Where a script reader stands: which bytes were fed to it, whether it was told the end, and how many instants it gave.
use Rattle.std.specs.Prelude.{ℕ, ◌+◌, ◌≡◌, ◌<◌, ◌≤◌, Bool, true, false, List, [], ◌∷◌, ◌++◌, length, drop, slice_get, Option, Some, None}
use Rattle.indexmap.specs.IndexMap.{get_by_text}
use Rattle.fr_core.specs.declared.inputs.Inputs.{Inputs}
use Rattle.fr_script.specs.declared.turn.Turn.{Turn}
use Rattle.fr_script.specs.declared.turn.Turn.TheVariants as turn
use Rattle.fr_script.specs.declared.line_reader.LineReader.{LineReader}
use Rattle.fr_script.specs.Sources.{Named}
use Rattle.fr_script.specs.Instants.{BadLine, Found, whole, bad_line}
use Rattle.fr_script.specs.Ahead.{ahead}

-- the reader was told that the script has ended
abbrev pub is_told : LineReader → Bool
is_told r = r.ended

-- what may follow: any bytes, and nothing once the end was told; the last truth value says whether the script ends behind them
abbrev pub MayFollow : Bool → List ℕ → Bool → Type 0
MayFollow true more ended = (more ≡ []) × (ended ≡ true)
MayFollow false more ended = Unit {0}

-- nothing is ahead but a bad line that was met
abbrev pub unless_bad : Option BadLine → Found → Found
unless_bad None x = x
unless_bad (Some b) x = record { instants = []; bad = Some b }

-- what is ahead of a reader, if these bytes follow
unfoldable pub ahead_of : LineReader → List ℕ → Bool → Found
ahead_of r more ended = unless_bad r.bad (ahead (get_by_text r.names) r.past (r.rest ++ more) ended)

-- these instants and what is ahead are the whole instants and the bad line of a script so far
pub record MakesUp (given : List Inputs) (x : Found) (ss : List Named) (bytes : List ℕ) (ended : Bool) : Type 0 where
  pub instants : whole ss bytes ended ≡ given ++ x.instants
  pub bad : bad_line ss bytes ended ≡ x.bad

-- the reader of a script over these sources was fed these bytes and has given so many instants: with what is ahead of it they are those of the script, whatever follows
pub record Stands (r : LineReader) (ss : List Named) (fed : List ℕ) (given : ℕ) : Type 0 where
  pub instants : List Inputs
  pub given_is : length instants ≡ given
  pub goes_on : (more : List ℕ) (ended : Bool) → MayFollow (is_told r) more ended → MakesUp instants (ahead_of r more ended) ss (fed ++ more) ended

-- the instant is the one behind those given, also in whatever follows
pub record IsNext (i : Inputs) (ss : List Named) (fed : List ℕ) (told : Bool) (given : ℕ) : Type 0 where
  pub here : slice_get (whole ss fed told) given ≡ Some i
  pub whatever : (more : List ℕ) (ended : Bool) → MayFollow told more ended → drop given (whole ss (fed ++ more) ended) ≡ i ∷ drop (given + 1) (whole ss (fed ++ more) ended)

-- all whole instants were given, and no bad line stands
pub record IsAll (ss : List Named) (fed : List ℕ) (told : Bool) (given : ℕ) : Type 0 where
  pub all : length (whole ss fed told) ≡ given
  pub good : bad_line ss fed told ≡ None

-- all whole instants were given, and this bad line stands, also in whatever follows
pub record IsBad (b : BadLine) (ss : List Named) (fed : List ℕ) (told : Bool) (given : ℕ) : Type 0 where
  pub all : length (whole ss fed told) ≡ given
  pub bad : bad_line ss fed told ≡ Some b
  pub whatever : (more : List ℕ) (ended : Bool) → MayFollow told more ended → (length (whole ss (fed ++ more) ended) ≡ given) × (bad_line ss (fed ++ more) ended ≡ Some b)

-- what a turn says of the script where the reader stands
abbrev pub TurnSays : Turn → List Named → List ℕ → Bool → ℕ → Type 0
TurnSays (turn.Instant i) ss fed told given = IsNext i ss fed told given
TurnSays turn.More ss fed told given = (told ≡ false) × IsAll ss fed told given
TurnSays turn.End ss fed told given = (told ≡ true) × IsAll ss fed told given
TurnSays (turn.Refused line kind) ss fed told given = IsBad (line, kind) ss fed told given

-- the number of instants given after a turn
abbrev pub given_after : Turn → ℕ → ℕ
given_after (turn.Instant i) given = given + 1
given_after turn.More given = given
given_after turn.End given = given
given_after (turn.Refused line kind) given = given

-- behind a further piece the reader stands where it stood
abbrev pub StandsBehind : LineReader → List ℕ → LineReader → Type 0
StandsBehind old piece new = (ss : List Named) (fed : List ℕ) (given : ℕ) → Stands old ss fed given → Stands new ss (fed ++ piece) given

-- a turn says what it is to say of any script where the reader stands, which then stands behind the turn
abbrev pub TurnStands : Turn → LineReader → LineReader → Type 0
TurnStands t old new = (ss : List Named) (fed : List ℕ) (given : ℕ) → Stands old ss fed given → TurnSays t ss fed (is_told old) given × Stands new ss fed (given_after t given)

-- an instant that isn't whole yet counts once
abbrev pub waiting : Option Inputs → ℕ
waiting None = 0
waiting (Some i) = 1

-- how much a reader has before it: its bytes count twice, and an instant that isn't whole yet once
abbrev pub left : LineReader → ℕ
left r = length r.rest + length r.rest + waiting r.past.last

-- a turn that gives an instant leaves less, and no turn leaves more
abbrev pub Falls : Turn → ℕ → ℕ → Type 0
Falls (turn.Instant i) old new = new < old
Falls turn.More old new = new ≤ old
Falls turn.End old new = new ≤ old
Falls (turn.Refused line kind) old new = new ≤ old
