-- Blanks, comments, atoms, symbols and strings, on lists of bytes.
use Rattle.std.specs.Prelude.{ℕ, Bool, true, false, ◌||◌, ◌&&◌, ◌==◌, not, nat_le, cond, ◌++◌, List, [], ◌∷◌, length, Option, Some, None}
use Rattle.std.specs.Option.{option_map, option_and_then}
use Rattle.fr_value.specs.Limits.{most_bytes}

-- a tab, a newline, a carriage return or a space
abbrev pub is_blank : ℕ → Bool
is_blank b = b == 9 || b == 10 || b == 13 || b == 32

-- a blank, or one of ( ) [ ] " ; '
abbrev pub is_delimiter : ℕ → Bool
is_delimiter b = is_blank b || b == 40 || b == 41 || b == 91 || b == 93 || b == 34 || b == 59 || b == 39

-- what is left behind blanks and comments; the truth value says whether the text begins inside a comment
abbrev pub skip : Bool → List ℕ → List ℕ
skip c [] = []
skip true (b ∷ bs) = cond (b == 10) (skip false bs) (skip true bs)
skip false (b ∷ bs) = cond (is_blank b) (skip false bs) (cond (b == 59) (skip true bs) (b ∷ bs))

-- what is left behind blanks and comments
unfoldable pub past_gap : List ℕ → List ℕ
past_gap = skip false

-- the atom at the front: the bytes up to a delimiter or the end
abbrev pub atom : List ℕ → List ℕ
atom [] = []
atom (b ∷ bs) = cond (is_delimiter b) [] (b ∷ atom bs)

-- what is left behind the atom at the front
abbrev pub past_atom : List ℕ → List ℕ
past_atom [] = []
past_atom (b ∷ bs) = cond (is_delimiter b) (b ∷ bs) (past_atom bs)

-- what stands for an escape behind its backslash
abbrev pub escape : ℕ → Option ℕ
escape b = cond (b == 34) (Some 34) (cond (b == 92) (Some 92) (cond (b == 110) (Some 10) (cond (b == 116) (Some 9) (cond (b == 114) (Some 13) None))))

-- a byte more at the front of a string's bytes
abbrev pub front : ℕ → List ℕ × List ℕ → List ℕ × List ℕ
front b x = (b ∷ x.0, x.1)

-- a string's bytes behind its first quotation mark, and what is left behind its last
abbrev pub string : Bool → List ℕ → Option (List ℕ × List ℕ)
string e [] = None
string true (b ∷ bs) = option_and_then (λ c. option_map (front c) (string false bs)) (escape b)
string false (b ∷ bs) = cond (b == 34) (Some ([], bs)) (cond (b == 92) (string true bs) (option_map (front b) (string false bs)))

-- a string's bytes behind these, and what is left
abbrev pub behind : List ℕ → List ℕ × List ℕ → List ℕ × List ℕ
behind done x = (done ++ x.0, x.1)

-- there is no byte
abbrev pub is_empty : List ℕ → Bool
is_empty [] = true
is_empty (b ∷ bs) = false

-- an ASCII letter
abbrev pub is_letter : ℕ → Bool
is_letter b = nat_le 97 b && nat_le b 122 || nat_le 65 b && nat_le b 90

-- what a symbol may hold: letters, digits and ! $ % & * + - . / : < = > ? @ ^ _ ~
abbrev pub is_symbol_byte : ℕ → Bool
is_symbol_byte b = is_letter b || nat_le 48 b && nat_le b 58 || nat_le 60 b && nat_le b 64 || nat_le 36 b && nat_le b 38 || nat_le 42 b && nat_le b 43 || nat_le 45 b && nat_le b 47 || b == 33 || b == 94 || b == 95 || b == 126

-- all bytes may stand in a symbol
abbrev pub are_symbol_bytes : List ℕ → Bool
are_symbol_bytes [] = true
are_symbol_bytes (b ∷ bs) = is_symbol_byte b && are_symbol_bytes bs

-- the first byte is a digit
abbrev pub begins_with_digit : List ℕ → Bool
begins_with_digit [] = false
begins_with_digit (b ∷ bs) = nat_le 48 b && nat_le b 57

-- the bytes behind the first, where it passes a test, and else all bytes
abbrev pub without : (ℕ → Bool) → List ℕ → List ℕ
without test [] = []
without test (b ∷ bs) = cond (test b) bs (b ∷ bs)

-- isn't `.`, and no digit comes behind one sign, if it has one, and then one `.`, if it has one
abbrev pub is_name : List ℕ → Bool
is_name [] = false
is_name (b ∷ bs) = are_symbol_bytes (b ∷ bs) && not (b == 46 && is_empty bs) && not (begins_with_digit (without (λ b. b == 46) (without (λ b. b == 43 || b == 45) (b ∷ bs))))

-- at most as many bytes as a symbol or a string may have
abbrev pub is_short : List ℕ → Bool
is_short s = nat_le (length s) most_bytes
