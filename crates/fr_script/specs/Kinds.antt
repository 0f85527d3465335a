-- What one line of a script says, behind others.
use Rattle.std.specs.Prelude.{ℕ, ◌+◌, ◌-◌, min, Bool, true, false, ◌&&◌, ◌==◌, not, nat_lt, nat_le, if◌then◌else◌, List, length, Option, Some, None, is_some}
use Rattle.std.specs.Str.Parse.{digits_value}
use Rattle.fr_value.specs.declared.ids.SrcId.{SrcId}
use Rattle.fr_value.specs.declared.value.Datum.{Datum}
use Rattle.fr_value.specs.Data.{value_of}
use Rattle.fr_core.specs.declared.inputs.Inputs.{Inputs}
use Rattle.fr_core.specs.Sets.{value_in, greatest_time}
use Rattle.fr_script.specs.declared.turn.LineKind.TheVariants as kind
use Rattle.fr_script.specs.declared.sources.Source.{Source}
use Rattle.fr_script.specs.declared.said.Said.{Said}
use Rattle.fr_script.specs.declared.said.Said.TheVariants as said
use Rattle.fr_script.specs.Limits.{line_limit, script_limit, instant_limit}
use Rattle.fr_script.specs.Reading.{reading}
use Rattle.fr_script.specs.Lines.{Fields, is_blank_line, fields}
use Rattle.fr_script.specs.Past.{Past}

-- the source that a name means
abbrev pub Names : Type 0
Names = List ℕ → Option Source

-- more bytes than a line may have stand among those that a script may have, so many of which are before the line
abbrev pub is_long : ℕ → List ℕ → Bool
is_long before line = nat_lt line_limit (min (length line) (script_limit - before))

-- behind so many bytes, so many more are more than a script may have
abbrev pub is_beyond : ℕ → ℕ → Bool
is_beyond before more = nat_lt script_limit (before + more)

-- the time of the last instant, or 0 where there is none
abbrev pub last_time : Option Inputs → ℕ
last_time None = 0
last_time (Some i) = i.time

-- 1 to the greatest time
abbrev pub is_time : ℕ → Bool
is_time time = nat_lt 0 time && nat_le time greatest_time

-- a line of this time begins a further instant
abbrev pub begins : Option Inputs → ℕ → Bool
begins None time = true
begins (Some i) time = nat_lt i.time time

-- a line of this time begins an instant beyond the limit
abbrev pub is_full : Past → ℕ → Bool
is_full p time = is_time time && (begins p.last time && nat_le instant_limit p.count)

-- the time is out of range or below the last one
abbrev pub is_wrong : Past → ℕ → Bool
is_wrong p time = not (is_time time && nat_le (last_time p.last) time)

-- the source is set at this time already
abbrev pub stands : Option Inputs → ℕ → SrcId → Bool
stands None time source = false
stands (Some i) time source = i.time == time && is_some (value_in source i.sets)

-- the value was looked for
abbrev pub says_value : ℕ → SrcId → Option Datum → Said
says_value time source None = said.Bad kind.Value
says_value time source (Some d) = said.Sets time (record { source = source; value = value_of d })

-- the source was looked for
abbrev pub says_source : Past → ℕ → List ℕ → Option Source → Said
says_source p time rest None = said.Bad kind.Name
says_source p time rest (Some s) = if stands p.last time s.source then said.Bad kind.Twice else says_value time s.source (reading rest)

-- the time is known
abbrev pub says_at : Names → Past → ℕ → List ℕ → List ℕ → Said
says_at names p time name rest =
    if is_full p time then said.Bad kind.Many
    else (if is_wrong p time then said.Bad kind.Time
    else says_source p time rest (names name))

-- the fields were looked for
abbrev pub says_fields : Names → Past → Option Fields → Said
says_fields names p None = said.Bad kind.Grammar
says_fields names p (Some f) = says_at names p (digits_value 10 f.time) f.name f.rest

-- what a line says: nothing where it is blank, a value for a source at a time, or its kind where it is bad; the number is that of its bytes with the byte 10 that ends it
unfoldable pub says : Names → Past → List ℕ → ℕ → Said
says names p line n =
    if is_long p.bytes line then said.Bad kind.Long
    else (if is_beyond p.bytes n then said.Bad kind.Many
    else (if is_blank_line line then said.Blank
    else says_fields names p (fields line)))
