-- The text of a datum, as it is printed.
use Rattle.std.specs.Prelude.{ℕ, ℤ, Bool, true, false, ◌==◌, cond, List, [], ◌∷◌, ◌++◌, map}
use Rattle.std.specs.Fmt.{signed_decimal}
use Rattle.std.proofs.Common.{◌≡◌, sym, ◌∙◌, ap}
use Rattle.fr_value.specs.declared.value.Datum.{Datum, fold-Datum, fold-roll-Datum}
use Rattle.fr_value.specs.declared.value.Datum.TheOpen.{Datum-F}
use Rattle.fr_value.specs.declared.value.Datum.TheVariants as datum
use Rattle.fr_value.specs.declared.value.Value.{Value}
use Rattle.fr_value.specs.declared.value.Value.TheVariants as value
use Rattle.fr_value.specs.Data.{data_of}
use Rattle.fr_value.specs.declared.value.Datum.TheVariants.{rolls-Int, rolls-Bool, rolls-Sym, rolls-Str, rolls-Seq}

-- a byte of a string, as it is or by its escape
abbrev pub escaped_byte : ℕ → List ℕ
escaped_byte b = cond (b == 34) (92 ∷ 34 ∷ []) (cond (b == 92) (92 ∷ 92 ∷ []) (cond (b == 10) (92 ∷ 110 ∷ [])
    (cond (b == 9) (92 ∷ 116 ∷ []) (cond (b == 13) (92 ∷ 114 ∷ []) (b ∷ [])))))

-- a string's bytes with their escapes
abbrev pub escaped : List ℕ → List ℕ
escaped [] = []
escaped (b ∷ bs) = escaped_byte b ++ escaped bs

-- a space and a text, for each text
abbrev pub spaced_behind : List (List ℕ) → List ℕ
spaced_behind [] = []
spaced_behind (t ∷ ts) = 32 ∷ t ++ spaced_behind ts

-- texts with one space between them
abbrev pub spaced : List (List ℕ) → List ℕ
spaced [] = []
spaced (t ∷ ts) = t ++ spaced_behind ts

-- the text of a truth value
abbrev pub bool_text : Bool → List ℕ
bool_text true = 35 ∷ 116 ∷ []
bool_text false = 35 ∷ 102 ∷ []

-- the text of a datum from the texts of its items
abbrev text_step : Datum-F (List ℕ) → List ℕ
text_step (Datum-F.Int n) = signed_decimal n
text_step (Datum-F.Bool b) = bool_text b
text_step (Datum-F.Sym s) = s
text_step (Datum-F.Str s) = 34 ∷ escaped s ++ 34 ∷ []
text_step (Datum-F.Seq ts) = 40 ∷ spaced ts ++ 41 ∷ []

-- the printed text of a datum
unfoldable pub datum_text : Datum → List ℕ
datum_text = fold-Datum (List ℕ) text_step

-- the texts of values, each behind a space
abbrev pub behind_texts : List Value → List ℕ
behind_texts vs = spaced_behind (map datum_text (data_of vs))

-- the texts of data, each behind a space
abbrev pub behind_data : List Datum → List ℕ
behind_data ds = spaced_behind (map datum_text ds)

-- the printed text of a value
abbrev pub value_text : Value → List ℕ
value_text (value.Int n) = signed_decimal n
value_text (value.Bool b) = bool_text b
value_text (value.Sym s) = s
value_text (value.Str s) = 34 ∷ escaped s ++ 34 ∷ []
value_text (value.List ds) = 40 ∷ spaced (map datum_text ds) ++ 41 ∷ []

-- a first part of the text was appended
abbrev pub AppendsPart : List ℕ → List ℕ → List ℕ → Type 0
AppendsPart old new text = (done : List ℕ) × (more : List ℕ) × (new ≡ old ++ done) × (done ++ more ≡ text)

pub text-Seq : (ds : List Datum) → datum_text (datum.Seq ds) ≡ 40 ∷ spaced (map datum_text ds) ++ 41 ∷ []
unfolding datum_text
text-Seq ds = ap (fold-Datum (List ℕ) text_step) (sym (rolls-Seq ds)) ∙ fold-roll-Datum (List ℕ) text_step (Datum-F.Seq ds)

pub text-Str : (s : List ℕ) → datum_text (datum.Str s) ≡ 34 ∷ escaped s ++ 34 ∷ []
unfolding datum_text
text-Str s = ap (fold-Datum (List ℕ) text_step) (sym (rolls-Str s)) ∙ fold-roll-Datum (List ℕ) text_step (Datum-F.Str s)

pub text-Sym : (s : List ℕ) → datum_text (datum.Sym s) ≡ s
unfolding datum_text
text-Sym s = ap (fold-Datum (List ℕ) text_step) (sym (rolls-Sym s)) ∙ fold-roll-Datum (List ℕ) text_step (Datum-F.Sym s)

pub text-Int : (n : ℤ) → datum_text (datum.Int n) ≡ signed_decimal n
unfolding datum_text
text-Int n = ap (fold-Datum (List ℕ) text_step) (sym (rolls-Int n)) ∙ fold-roll-Datum (List ℕ) text_step (Datum-F.Int n)

pub text-Bool : (b : Bool) → datum_text (datum.Bool b) ≡ bool_text b
unfolding datum_text
text-Bool b = ap (fold-Datum (List ℕ) text_step) (sym (rolls-Bool b)) ∙ fold-roll-Datum (List ℕ) text_step (Datum-F.Bool b)
