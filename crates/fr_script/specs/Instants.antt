-- The instants of a script so far, and its first bad line.
use Rattle.std.specs.Prelude.{ℕ, ◌+◌, Bool, true, false, if◌then◌else◌, List, [], ◌∷◌, length, Option, Some, None}
use Rattle.fr_core.specs.declared.inputs.Entry.{Entry}
use Rattle.fr_core.specs.declared.inputs.Inputs.{Inputs}
use Rattle.fr_core.specs.Sets.{placed}
use Rattle.fr_script.specs.declared.turn.LineKind.{LineKind}
use Rattle.fr_script.specs.declared.turn.LineKind.TheVariants as kind
use Rattle.fr_script.specs.declared.said.Said.{Said}
use Rattle.fr_script.specs.declared.said.Said.TheVariants as said
use Rattle.fr_script.specs.Lines.{cut}
use Rattle.fr_script.specs.Past.{Past}
use Rattle.fr_script.specs.Sources.{Named, named}
use Rattle.fr_script.specs.Kinds.{Names, begins, is_long, is_beyond, says}

-- an instant of one line
abbrev pub alone : ℕ → Entry → Inputs
alone time e = record { time = time; sets = e ∷ [] }

-- an instant with one more line of its time
abbrev pub with_entry : Inputs → Entry → Inputs
with_entry i e = record { time = i.time; sets = placed e i.sets }

-- the instants with one more line, which joins the last one or begins a further one
abbrev pub with_line : List Inputs → ℕ → Entry → List Inputs
with_line [] time e = alone time e ∷ []
with_line (i ∷ []) time e = if begins (Some i) time then i ∷ alone time e ∷ [] else with_entry i e ∷ []
with_line (i ∷ j ∷ is) time e = i ∷ with_line (j ∷ is) time e

abbrev pub last_of : List Inputs → Option Inputs
last_of [] = None
last_of (i ∷ []) = Some i
last_of (i ∷ j ∷ is) = last_of (j ∷ is)

abbrev pub without_last : List Inputs → List Inputs
without_last [] = []
without_last (i ∷ []) = []
without_last (i ∷ j ∷ is) = i ∷ without_last (j ∷ is)

-- lines that are all good: their number, the number of their bytes, and the instants that they begin
pub record Taken : Type 0 where
  pub lines : ℕ
  pub bytes : ℕ
  pub instants : List Inputs

abbrev pub past_of : Taken → Past
past_of t = record { lines = t.lines; bytes = t.bytes; count = length t.instants; last = last_of t.instants }

-- the number of a bad line, which counts from 1, and its kind
abbrev pub BadLine : Type 0
BadLine = ℕ × LineKind

-- instants, and the first bad line
pub record Found : Type 0 where
  pub instants : List Inputs
  pub bad : Option BadLine

-- with a line of so many bytes behind the lines, found so
abbrev pub found_behind : Said → Taken → ℕ → (Taken → Found) → Found
found_behind said.Blank t n next = next (record { lines = t.lines + 1; bytes = t.bytes + n; instants = t.instants })
found_behind (said.Sets time e) t n next = next (record { lines = t.lines + 1; bytes = t.bytes + n; instants = with_line t.instants time e })
found_behind (said.Bad k) t n next = record { instants = t.instants; bad = Some (t.lines + 1, k) }

abbrev pub found_all : Taken → Found
found_all t = record { instants = t.instants; bad = None }

-- what follows the last byte 10: a line where the script has ended, and else bad where its bytes make it so already
abbrev pub found_rest : Names → Taken → List ℕ → Bool → Found
found_rest names t [] ended = found_all t
found_rest names t (b ∷ bs) true = found_behind (says names (past_of t) (b ∷ bs) (length (b ∷ bs))) t (length (b ∷ bs)) found_all
found_rest names t (b ∷ bs) false =
    if is_long t.bytes (b ∷ bs) then record { instants = t.instants; bad = Some (t.lines + 1, kind.Long) }
    else (if is_beyond t.bytes (length (b ∷ bs)) then record { instants = t.instants; bad = Some (t.lines + 1, kind.Many) }
    else found_all t)

-- the instants that the lines before the first bad one begin, behind lines that are good
unfoldable pub found_from : Names → Taken → List (List ℕ) → List ℕ → Bool → Found
found_from names t [] rest ended = found_rest names t rest ended
found_from names t (l ∷ ls) rest ended = found_behind (says names (past_of t) l (length l + 1)) t (length l + 1) (λ u. found_from names u ls rest ended)

abbrev pub none_taken : Taken
none_taken = record { lines = 0; bytes = 0; instants = [] }

-- the instants that the good lines of a script so far begin, and its first bad line; the truth value says whether it has ended
abbrev pub found : List Named → List ℕ → Bool → Found
found ss bytes ended = found_from (named ss) none_taken (cut bytes).0 (cut bytes).1 ended

-- the whole ones among them: all where the script has ended and has no bad line, and else all but the last
abbrev pub whole_of : Bool → Option BadLine → List Inputs → List Inputs
whole_of true None is = is
whole_of true (Some b) is = without_last is
whole_of false bad is = without_last is

-- the instants of a script so far that are whole
unfoldable pub whole : List Named → List ℕ → Bool → List Inputs
whole ss bytes ended = whole_of ended (found ss bytes ended).bad (found ss bytes ended).instants

-- the first bad line of a script so far
unfoldable pub bad_line : List Named → List ℕ → Bool → Option BadLine
bad_line ss bytes ended = (found ss bytes ended).bad
