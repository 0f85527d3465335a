-- What is ahead in a script, behind lines of which only the past is known.
use Rattle.std.specs.Prelude.{ℕ, ◌+◌, ◌<◌, ◌≡◌, Bool, true, false, if◌then◌else◌, List, [], ◌∷◌, length, Option, Some, None}
use Rattle.std.specs.Option.{option_to_list}
use Rattle.fr_value.specs.declared.ids.SrcId.{SrcId}
use Rattle.fr_core.specs.declared.inputs.Entry.{Entry}
use Rattle.fr_core.specs.declared.inputs.Inputs.{Inputs}
use Rattle.fr_core.specs.Sets.{value_in}
use Rattle.fr_script.specs.declared.turn.LineKind.TheVariants as kind
use Rattle.fr_script.specs.declared.said.Said.{Said}
use Rattle.fr_script.specs.declared.said.Said.TheVariants as said
use Rattle.fr_script.specs.Limits.{instant_limit}
use Rattle.fr_script.specs.Lines.{cut}
use Rattle.fr_script.specs.Past.{Past}
use Rattle.fr_script.specs.Kinds.{Names, begins, is_long, is_beyond, says}
use Rattle.fr_script.specs.Instants.{alone, with_entry, Found}

-- before the first line
abbrev pub none_before : Past
none_before = record { lines = 0; bytes = 0; count = 0; last = None }

-- behind one more line of so many bytes
abbrev pub passed : Past → ℕ → Past
passed p n = record { lines = p.lines + 1; bytes = p.bytes + n; count = p.count; last = p.last }

-- an instant with one more line of its time, where there is an instant
abbrev pub joins : Option Inputs → ℕ → Entry → Inputs
joins None time e = alone time e
joins (Some i) time e = with_entry i e

-- with a value set at a time, which begins a further instant or joins the last
abbrev pub set_in : Past → ℕ → Entry → Past
set_in p time e =
    if begins p.last time then record { lines = p.lines; bytes = p.bytes; count = p.count + 1; last = Some (alone time e) }
    else record { lines = p.lines; bytes = p.bytes; count = p.count; last = Some (joins p.last time e) }

-- the instant that a line of this time makes whole
abbrev pub closed_by : Option Inputs → ℕ → Option Inputs
closed_by last time = if begins last time then last else None

-- setting a value at a time made this instant whole, and led from the one past to the other
abbrev pub IsSetIn : Past → ℕ → Entry → Option Inputs → Past → Type 0
IsSetIn old time e closed new = (closed ≡ closed_by old.last time) × (new ≡ set_in old time e)

-- there is an instant, and it has no value for the source
abbrev pub CanJoin : Option Inputs → SrcId → Type 0
CanJoin None source = ⊥
CanJoin (Some i) source = value_in source i.sets ≡ None

-- the limit of instants leaves room for the line, and no source is set twice at its time
pub record MaySet (p : Past) (time : ℕ) (source : SrcId) : Type 0 where
  pub room : begins p.last time ≡ true → p.count < instant_limit
  pub free : begins p.last time ≡ false → CanJoin p.last source

-- an instant, if there is one, before what is ahead
abbrev pub before : Option Inputs → Found → Found
before None x = x
before (Some i) x = record { instants = i ∷ x.instants; bad = x.bad }

-- what is ahead with a line of so many bytes, which says so
abbrev pub ahead_behind : Said → Past → ℕ → (Past → Found) → Found
ahead_behind said.Blank p n next = next (passed p n)
ahead_behind (said.Sets time e) p n next = before (closed_by p.last time) (next (passed (set_in p time e) n))
ahead_behind (said.Bad k) p n next = record { instants = []; bad = Some (p.lines + 1, k) }

-- the end of the script makes the last instant whole
abbrev pub ahead_end : Past → Found
ahead_end p = record { instants = option_to_list p.last; bad = None }

abbrev pub nothing : Found
nothing = record { instants = []; bad = None }

-- what is ahead in the bytes behind the last byte 10
abbrev pub ahead_rest : Names → Past → List ℕ → Bool → Found
ahead_rest names p [] true = ahead_end p
ahead_rest names p [] false = nothing
ahead_rest names p (b ∷ bs) true = ahead_behind (says names p (b ∷ bs) (length (b ∷ bs))) p (length (b ∷ bs)) ahead_end
ahead_rest names p (b ∷ bs) false =
    if is_long p.bytes (b ∷ bs) then record { instants = []; bad = Some (p.lines + 1, kind.Long) }
    else (if is_beyond p.bytes (length (b ∷ bs)) then record { instants = []; bad = Some (p.lines + 1, kind.Many) }
    else nothing)

-- what is ahead in lines: the instants that become whole, and the first bad line
unfoldable pub ahead_from : Names → Past → List (List ℕ) → List ℕ → Bool → Found
ahead_from names p [] rest ended = ahead_rest names p rest ended
ahead_from names p (l ∷ ls) rest ended = ahead_behind (says names p l (length l + 1)) p (length l + 1) (λ q. ahead_from names q ls rest ended)

-- what is ahead in bytes
unfoldable pub ahead : Names → Past → List ℕ → Bool → Found
ahead names p bytes ended = ahead_from names p (cut bytes).0 (cut bytes).1 ended
