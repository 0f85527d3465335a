-- The primitives on strings and symbols.
use Rattle.std.specs.Prelude.{ℕ, Bool, true, ◌&&◌, if◌then◌else◌, List, [], ◌∷◌, Ok, Err}
use Rattle.std.specs.List.{flat_map}
use Rattle.fr_value.specs.Bytes.{is_short}
use Rattle.fr_value.specs.Same.{is_same}
use Rattle.fr_value.specs.declared.value.Value.{Value}
use Rattle.fr_value.specs.declared.value.Value.TheVariants as value
use Rattle.fr_value.specs.declared.now.Bad.TheVariants.{WrongType, Arity, TooBig}
use Rattle.fr_prims.specs.Integers.{Answer, typed, truth}
use Rattle.fr_prims.specs.Data.{is_string}

-- what is given for a string
abbrev pub on_string : (List ℕ → Answer) → Value → Answer
on_string f (value.Str s) = f s
on_string f v = Err WrongType

-- what is given for a symbol
abbrev pub on_symbol : (List ℕ → Answer) → Value → Answer
on_symbol f (value.Sym s) = f s
on_symbol f v = Err WrongType

-- a string's bytes; none for anything else, which is refused before
abbrev pub text_of : Value → List ℕ
text_of (value.Str s) = s
text_of v = []

-- a string as an answer, where it is short
abbrev pub string_answer : List ℕ → Answer
string_answer s = if is_short s then Ok (value.Str s) else Err TooBig

-- strings joined
abbrev pub strings_appended : List Value → Answer
strings_appended vs = typed is_string vs (string_answer (flat_map text_of vs))

-- all of these are the same as one
abbrev pub all_same : Value → List Value → Bool
all_same v [] = true
all_same v (w ∷ ws) = is_same v w && all_same v ws

-- whether all strings are equal
abbrev pub strings_equal : List Value → Answer
strings_equal [] = Err Arity
strings_equal (v ∷ vs) = typed is_string (v ∷ vs) (truth (all_same v vs))
