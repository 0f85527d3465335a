-- Examples of the definitions, computed.
use Rattle.std.specs.Prelude.{ℕ, List, [], ◌∷◌, ◌≡◌, Some, None, true, false, length, pos, codes}
use Rattle.std.proofs.Common.{refl, ◌∙◌, ap, arith}
use Rattle.fr_value.specs.declared.value.Datum.TheVariants as datum
use Rattle.fr_value.specs.declared.value.Value.{Value}
use Rattle.fr_value.specs.declared.value.Value.TheVariants as value
use Rattle.fr_value.specs.Bytes.{past_gap}
use Rattle.fr_value.specs.Grammar.{IsAtom, begins, is_true, is_false}
use Rattle.fr_value.specs.Data.{value_of-datum_of}
use Rattle.fr_core.specs.declared.inputs.Entry.{Entry}
use Rattle.fr_core.specs.declared.inputs.Inputs.{Inputs}
use Rattle.fr_script.specs.declared.turn.LineKind.TheVariants as kind
use Rattle.fr_script.specs.declared.sources.SourceKind.TheVariants as by
use Rattle.fr_script.specs.Reading.{reading}
use Rattle.fr_script.specs.Lines.{cut, fields}
use Rattle.fr_script.specs.Sources.{Named}
use Rattle.fr_script.specs.Kinds.{says}
use Rattle.fr_script.specs.Instants.{found_from, whole, bad_line}
use Rattle.fr_script.proofs.Readings.{read, unread}

-- an input x of number 1 and an event e of number 2
abbrev two : List Named
two = (codes "x", record { source = record { 0 = 1 }; kind = by.Input }) ∷ (codes "e", record { source = record { 0 = 2 }; kind = by.Event }) ∷ []

abbrev sets : ℕ → Value → Entry
sets source v = record { source = record { 0 = source }; value = v }

abbrev int : ℕ → Value
int n = value.Int (pos n)

abbrev at_one : ℕ → Entry → Inputs
at_one time e = record { time = time; sets = e ∷ [] }

cut_twice : cut (codes "1\n2") ≡ (codes "1" ∷ [], codes "2")
unfolding cut
cut_twice = refl

some_fields : fields (codes "  5\tx  4 ; four") ≡ Some (record { time = codes "5"; name = codes "x"; rest = codes "  4 ; four" })
unfolding fields
some_fields = refl

no_fields : fields (codes "5 x") ≡ None
unfolding fields
no_fields = refl

one : reading (codes " 1") ≡ Some (datum.Int (pos 1))
unfolding past_gap begins IsAtom is_true is_false
one = read (codes " 1") (datum.Int (pos 1)) ([], ((refl, refl), refl), refl)

another : reading (codes " 2") ≡ Some (datum.Int (pos 2))
unfolding past_gap begins IsAtom is_true is_false
another = read (codes " 2") (datum.Int (pos 2)) ([], ((refl, refl), refl), refl)

with_comment : reading (codes "  4 ; four") ≡ Some (datum.Int (pos 4))
unfolding past_gap begins IsAtom is_true is_false
with_comment = read (codes "  4 ; four") (datum.Int (pos 4)) (codes " ; four", ((refl, refl), refl), refl)

two_numbers : reading (codes " 1 2") ≡ None
unfolding past_gap begins IsAtom is_true is_false
two_numbers = unread (codes " 1 2") (λ d h. omega (arith, ap length (h.2 ∙ ap past_gap h.1.1)))

-- a last line without its newline is a line once the script has ended
ended : whole two (codes "\n; note\n  5\tx  4 ; four") true ≡ at_one 5 (sets 1 (int 4)) ∷ []
unfolding whole found_from cut says fields
ended = rw with_comment (ap (λ v. at_one 5 (sets 1 v) ∷ []) (value_of-datum_of (int 4)))

not_ended : whole two (codes "\n; note\n  5\tx  4 ; four") false ≡ []
unfolding whole found_from cut says fields
not_ended = refl

-- lines of one time are one instant, and a later line makes it whole
later : whole two (codes "1 e 2\n1 x 1\n3 x 1\n") false ≡ record { time = 1; sets = sets 1 (int 1) ∷ sets 2 (int 2) ∷ [] } ∷ []
unfolding whole found_from cut says fields
later = rw (one, another) (ap (λ (v : Value → Value). record { time = 1; sets = sets 1 (v (int 1)) ∷ sets 2 (v (int 2)) ∷ [] } ∷ []) (λ i v. value_of-datum_of v i))

-- a bad line cancels the instant before it
falls : whole two (codes "5 x 2\n3 x 4\n") true ≡ []
unfolding whole found_from cut says fields
falls = rw another refl

falls_bad : bad_line two (codes "5 x 2\n3 x 4\n") true ≡ Some (2, kind.Time)
unfolding bad_line found_from cut says fields
falls_bad = rw (another, bad_line) refl

unnamed : bad_line two (codes "1 a 2") true ≡ Some (1, kind.Name)
unfolding bad_line found_from cut says fields
unnamed = refl

shapeless : bad_line two (codes "5 x") true ≡ Some (1, kind.Grammar)
unfolding bad_line found_from cut says fields
shapeless = refl

again : bad_line two (codes "1 x 1\n1 x 2\n") false ≡ Some (2, kind.Twice)
unfolding bad_line found_from cut says fields
again = rw (one, bad_line) refl

no_value : bad_line two (codes "1 x 1 2") true ≡ Some (1, kind.Value)
unfolding bad_line found_from cut says fields
no_value = rw (two_numbers, bad_line) refl
