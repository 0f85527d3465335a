-- Lines of a script and their fields.
use Rattle.std.specs.Prelude.{ℕ, ◌≡◌, ◌+◌, min, Bool, true, false, ◌||◌, ◌&&◌, ◌==◌, not, if◌then◌else◌, List, [], ◌∷◌, Option, Some, None}
use Rattle.std.specs.Option.{option_map}
use Rattle.std.specs.Str.Parse.{digits_value}
use Rattle.fr_value.specs.Bytes.{is_blank, is_name}
use Rattle.fr_value.specs.Grammar.{is_numeral}
use Rattle.fr_script.specs.Limits.{greatest_number}

-- the lines that a byte 10 ends, without it, and what follows the last byte 10
abbrev pub Cut : Type 0
Cut = List (List ℕ) × List ℕ

-- a byte more at the front
abbrev pub byte_before : ℕ → Cut → Cut
byte_before b ([], rest) = ([], b ∷ rest)
byte_before b (l ∷ ls, rest) = ((b ∷ l) ∷ ls, rest)

-- an empty line more at the front, or a byte more; the truth value says which
abbrev pub cut_at : Bool → ℕ → Cut → Cut
cut_at true b x = ([] ∷ x.0, x.1)
cut_at false b x = byte_before b x

-- a script cut at each byte 10
unfoldable pub cut : List ℕ → Cut
cut [] = ([], [])
cut (b ∷ bs) = cut_at (b == 10) b (cut bs)

-- the number of bytes before the first byte 10, if there is one
abbrev pub line_end : List ℕ → Option ℕ
line_end [] = None
line_end (b ∷ bs) = if b == 10 then Some 0 else option_map (λ n. n + 1) (line_end bs)

-- only tabs, carriage returns and spaces, or these and then a `;`
abbrev pub is_blank_line : List ℕ → Bool
is_blank_line [] = true
is_blank_line (b ∷ bs) = if b == 9 || b == 13 || b == 32 then is_blank_line bs else b == 59

-- what stands between two fields
abbrev pub is_gap : ℕ → Bool
is_gap b = b == 9 || b == 32

-- what is left behind tabs and spaces
abbrev pub past_spaces : List ℕ → List ℕ
past_spaces [] = []
past_spaces (b ∷ bs) = if is_gap b then past_spaces bs else b ∷ bs

-- the bytes up to a tab, a space or the end
abbrev pub field : List ℕ → List ℕ
field [] = []
field (b ∷ bs) = if is_gap b then [] else b ∷ field bs

-- what is left behind them
abbrev pub past_field : List ℕ → List ℕ
past_field [] = []
past_field (b ∷ bs) = if is_gap b then b ∷ bs else past_field bs

-- some byte isn't blank
abbrev pub has_more : List ℕ → Bool
has_more [] = false
has_more (b ∷ bs) = not (is_blank b) || has_more bs

-- the digits of a line's time, its name, and what its value is read from
pub record Fields : Type 0 where
  pub time : List ℕ
  pub name : List ℕ
  pub rest : List ℕ

abbrev pub shaped : Fields → Option Fields
shaped f = if is_numeral f.time && (is_name f.name && has_more f.rest) then Some f else None

-- behind the time
abbrev pub fields_behind : List ℕ → List ℕ → Option Fields
fields_behind time text = shaped (record { time = time; name = field text; rest = past_field text })

-- the fields of a line: digits, a gap, a symbol, a gap, and something that isn't blank; a gap may stand first
unfoldable pub fields : List ℕ → Option Fields
fields line = fields_behind (field (past_spaces line)) (past_spaces (past_field (past_spaces line)))

-- these are the fields of a line, where a time too large for 64 bits is told as the greatest of them
pub record AreFields (line : List ℕ) (time : ℕ) (name rest : List ℕ) : Type 0 where
  pub digits : List ℕ
  pub are : fields line ≡ Some (record { time = digits; name = name; rest = rest })
  pub time_is : time ≡ min (digits_value 10 digits) greatest_number
