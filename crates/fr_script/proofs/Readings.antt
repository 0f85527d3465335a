-- A text's reading is what the grammar says.
use Rattle.std.specs.Prelude.{ℕ, ◌≡◌, List, [], ◌∷◌, Some, None}
use Rattle.std.proofs.Common.{refl, inl, inr, ap}
use Rattle.fr_value.specs.declared.value.Datum.{Datum}
use Rattle.fr_value.specs.declared.ids.SrcId.{SrcId}
use Rattle.fr_value.specs.declared.value.Value.{Value}
use Rattle.fr_value.specs.Data.{datum_of, value_of-datum_of}
use Rattle.fr_value.specs.Grammar.{ReadsOne}
use Rattle.fr_value.proofs.Meet.{reads_one}
use Rattle.fr_reader.proofs.Decided.{decided}
use Rattle.fr_script.specs.Reading.{OneOrNone, one_in, reading}
use Rattle.fr_script.specs.declared.said.Said.TheVariants as said
use Rattle.fr_script.specs.Kinds.{says_value}

abbrev head : Datum → List Datum → Datum
head e [] = e
head e (d ∷ ds) = d

-- what a text reads as is its reading
pub read : (text : List ℕ) (d : Datum) → ReadsOne text d → reading text ≡ Some d
unfolding reading
read text d h = by_case (decided text)
  where
    by_case : (x : OneOrNone text) → one_in text x ≡ Some d
    by_case (inl e) = ap (λ ds. Some (head d ds)) (reads_one text (e.0 ∷ []) (d ∷ []) e.1 h)
    by_case (inr none) = absurd (none d h)

-- a text that doesn't read has none
pub unread : (text : List ℕ) → ((d : Datum) → ReadsOne text d → ⊥) → reading text ≡ None
unfolding reading
unread text h = by_case (decided text)
  where
    by_case : (x : OneOrNone text) → one_in text x ≡ None
    by_case (inl d) = absurd (h d.0 d.1)
    by_case (inr none) = refl

-- the value of a text that reads as it
pub value_read : (text : List ℕ) (v : Value) (time : ℕ) (source : SrcId) → ReadsOne text (datum_of v)
    → said.Sets time (record { source = source; value = v }) ≡ says_value time source (reading text)
value_read text v time source h = rw (read text (datum_of v) h, value_of-datum_of v) refl
