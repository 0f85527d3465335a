-- How texts read as data.
use Rattle.std.specs.Prelude.{ℕ, suc, zero, Bool, true, false, ◌||◌, ◌&&◌, ◌==◌, ◌+◌, ◌≤◌, ◌≡◌, nat_lt, List, [], ◌∷◌, length, Some}
use Rattle.std.specs.Str.{IsUtf8, bytes_eq, all_ascii_digits}
use Rattle.std.specs.Str.Parse.{without_leading_sign, signed_digits_value}
use Rattle.fr_value.specs.declared.value.Datum.{Datum}
use Rattle.fr_value.specs.declared.value.Datum.TheVariants as datum
use Rattle.fr_value.specs.Valid.{fits}
use Rattle.fr_value.specs.Data.{AreFew}
use Rattle.fr_value.specs.Limits.{data_levels}
use Rattle.fr_value.specs.Bytes.{past_gap, atom, past_atom, string}
pub use Rattle.fr_value.specs.Bytes.{is_empty, is_letter, is_symbol_byte, are_symbol_bytes, begins_with_digit, without, is_name, is_short}

-- a text begins with a datum, and what is left behind it
abbrev pub Begins : Type 1
Begins = List ℕ → Datum → List ℕ → Type 0

-- the one of two facts that a test chooses
abbrev pub Where : Bool → Type 0 → Type 0 → Type 0
Where true p q = p
Where false p q = q

-- one digit or more, and nothing else
abbrev pub is_numeral : List ℕ → Bool
is_numeral ds = nat_lt 0 (length ds) && all_ascii_digits ds

-- an optional sign and one digit or more, of a value in the signed 64-bit range
abbrev pub is_integer : List ℕ → Bool
is_integer a = is_numeral (without_leading_sign a) && fits (signed_digits_value 10 a)

-- the atoms `#t` and `#true`
unfoldable pub is_true : List ℕ → Bool
is_true a = bytes_eq a (35 ∷ 116 ∷ []) || bytes_eq a (35 ∷ 116 ∷ 114 ∷ 117 ∷ 101 ∷ [])

-- the atoms `#f` and `#false`
unfoldable pub is_false : List ℕ → Bool
is_false a = bytes_eq a (35 ∷ 102 ∷ []) || bytes_eq a (35 ∷ 102 ∷ 97 ∷ 108 ∷ 115 ∷ 101 ∷ [])

-- the datum of an atom
unfoldable pub IsAtom : List ℕ → Datum → Type 0
IsAtom a d =
    Where (is_true a) (d ≡ datum.Bool true)
    (Where (is_false a) (d ≡ datum.Bool false)
    (Where (is_name a) ((d ≡ datum.Sym a) × (is_short a ≡ true))
    ((is_integer a ≡ true) × (d ≡ datum.Int (signed_digits_value 10 a)))))

-- data one after the other, and blanks and comments
abbrev pub Items : Begins → List ℕ → List Datum → List ℕ → Type 0
Items one text [] rest = rest ≡ past_gap text
Items one text (d ∷ ds) rest = (mid : List ℕ) × one (past_gap text) d mid × Items one mid ds rest

-- data up to a closing bracket, which are a list within the limits
abbrev pub IsList : Begins → ℕ → List ℕ → Datum → List ℕ → Type 0
IsList one close text d rest = (ds : List Datum) × (d ≡ datum.Seq ds) × AreFew ds × Items one text ds (close ∷ rest)

-- the items `quote` and a datum
abbrev pub quoted : Datum → List Datum
quoted q = datum.Sym (113 ∷ 117 ∷ 111 ∷ 116 ∷ 101 ∷ []) ∷ q ∷ []

-- a datum, of which the list of `quote` and it is meant
abbrev pub IsQuoted : Begins → List ℕ → Datum → List ℕ → Type 0
IsQuoted one text d rest = (q : Datum) × (d ≡ datum.Seq (quoted q)) × AreFew (quoted q) × one (past_gap text) q rest

-- a string's content up to its closing quotation mark: what its bytes and escapes stand for is UTF-8 and within the limit (an escape is ASCII and stands for ASCII)
abbrev pub IsString : List ℕ → Datum → List ℕ → Type 0
IsString text d rest = (s : List ℕ) × (d ≡ datum.Str s) × (is_short s ≡ true) × IsUtf8 s × (string false text ≡ Some (s, rest))

-- a datum at the front, whose parts are read so
abbrev pub Layer : Begins → Begins
Layer one [] d rest = ⊥
Layer one (b ∷ text) d rest =
    Where (b == 40) (IsList one 41 text d rest)
    (Where (b == 91) (IsList one 93 text d rest)
    (Where (b == 39) (IsQuoted one text d rest)
    (Where (b == 34) (IsString text d rest)
    (IsAtom (atom (b ∷ text)) d × (rest ≡ past_atom (b ∷ text))))))

-- a datum at the front, to a number of nested levels
unfoldable pub begins : ℕ → Begins
begins zero text d rest = ⊥
begins (suc n) text d rest = Layer (begins n) text d rest

-- no datum begins here
abbrev pub NoStart : Begins → List ℕ → Type 0
NoStart one text = (d : Datum) (rest : List ℕ) → one text d rest → ⊥

-- the front of a text reads as these data, and what is left behind them and the blanks and comments there
abbrev pub Front : List ℕ → List Datum → List ℕ → Type 0
Front = Items (begins data_levels)

-- a text reads as these data
abbrev pub Reads : List ℕ → List Datum → Type 0
Reads text ds = Front text ds []

-- a text reads as one datum
abbrev pub ReadsOne : List ℕ → Datum → Type 0
ReadsOne text d = Reads text (d ∷ [])

-- the text doesn't read, and k is one more than the greatest number of data that its front reads as
pub record IsRefused (text : List ℕ) (k : ℕ) : Type 0 where
  pub none : (ds : List Datum) → Reads text ds → ⊥
  pub before : (ds : List Datum) × (rest : List ℕ) × Front text ds rest × (length ds + 1 ≡ k)
  pub most : (ds : List Datum) (rest : List ℕ) → Front text ds rest → length ds + 1 ≤ k
