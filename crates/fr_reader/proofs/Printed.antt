-- What is printed reads again.
use Rattle.std.specs.Prelude.{ℕ, suc, zero, true, false, ◌||◌, ◌&&◌, ◌==◌, ◌≡◌, ◌≢◌, ◌<◌, ◌≤◌, not, nat_le, List, [], ◌∷◌, ◌++◌, map, Some, ℤ, pos, negsuc, neg_ℤ}
use Rattle.std.specs.Int.{IsInRange}
use Rattle.std.specs.Fmt.{decimal, signed_decimal}
use Rattle.std.specs.Str.{is_utf8}
use Rattle.std.specs.Str.Parse.{signed_digits_value, AllDigits, IsNumeral, without_leading_sign, digits_value}
use Rattle.std.proofs.Common.{refl, inl, inr, sym, ◌∙◌, ap, subst, arith, true≢false}
use Rattle.std.proofs.lemmas.Bool.{and_parts, and_right}
use Rattle.std.proofs.lemmas.Bool.Decides.{eqb_tells}
use Rattle.std.proofs.lemmas.List.{append_assoc, append-nil}
use Rattle.std.proofs.lemmas.Fmt.{decimal_is_IsNumeral}
use Rattle.std.proofs.lemmas.Str.{IsUtf8-from_is_utf8}
use Rattle.std.proofs.lemmas.Str.Parse.{digit_from_value}
use Rattle.fr_value.specs.declared.value.Datum.{Datum, out-Datum, roll-Datum, roll-out-Datum}
use Rattle.fr_value.specs.declared.value.Datum.TheOpen.{Datum-F}
use Rattle.fr_value.specs.declared.value.Datum.TheVariants as datum
use Rattle.fr_value.specs.declared.value.Datum.TheVariants.{rolls-Int, rolls-Bool, rolls-Sym, rolls-Str, rolls-Seq}
use Rattle.fr_value.specs.Bytes.{is_blank, is_delimiter, past_gap, atom, past_atom, string, is_symbol_byte, are_symbol_bytes, begins_with_digit, without, is_empty, is_name, is_short}
use Rattle.fr_value.specs.Valid.{fits, is_valid, are_valid, valid-Int, valid-Sym, valid-Str, valid-Seq}
use Rattle.fr_value.specs.Data.{AreFew, datum_size, datum_depth, total, greatest, seq_size, seq_depth}
use Rattle.fr_value.specs.Grammar.{Begins, Items, Layer, IsAtom, begins, ReadsOne, is_true, is_false, is_integer}
use Rattle.fr_value.specs.Text.{escaped, spaced, spaced_behind, datum_text, text-Seq, text-Str, text-Sym, text-Int, text-Bool}
use Rattle.fr_value.proofs.Meet.{no_atom}
use Rattle.fr_reader.proofs.Steps.{as_atom}
use Rattle.fr_reader.proofs.Numerals.{numeral_from, fits_of}
use Rattle.fr_value.specs.Limits.{most_size, most_depth, data_levels}

-- a string's printed bytes give the string
string_again : (s more : List ℕ) → string false (escaped s ++ 34 ∷ more) ≡ Some (s, more)
string_again [] more = refl
string_again (b ∷ bs) more = elim (eqb_tells b 34) as (λ _. string false (escaped (b ∷ bs) ++ 34 ∷ more) ≡ Some (b ∷ bs, more)) [
  | inl p ↦ rw (p.0, string_again bs more) (ap (λ x. Some (x ∷ bs, more)) (sym p.1))
  | inr p ↦ elim (eqb_tells b 92) as (λ _. string false (escaped (b ∷ bs) ++ 34 ∷ more) ≡ Some (b ∷ bs, more)) [
    | inl q ↦ rw (p.0, q.0, string_again bs more) (ap (λ x. Some (x ∷ bs, more)) (sym q.1))
    | inr q ↦ elim (eqb_tells b 10) as (λ _. string false (escaped (b ∷ bs) ++ 34 ∷ more) ≡ Some (b ∷ bs, more)) [
      | inl r ↦ rw (p.0, q.0, r.0, string_again bs more) (ap (λ x. Some (x ∷ bs, more)) (sym r.1))
      | inr r ↦ elim (eqb_tells b 9) as (λ _. string false (escaped (b ∷ bs) ++ 34 ∷ more) ≡ Some (b ∷ bs, more)) [
        | inl u ↦ rw (p.0, q.0, r.0, u.0, string_again bs more) (ap (λ x. Some (x ∷ bs, more)) (sym u.1))
        | inr u ↦ elim (eqb_tells b 13) as (λ _. string false (escaped (b ∷ bs) ++ 34 ∷ more) ≡ Some (b ∷ bs, more)) [
          | inl v ↦ rw (p.0, q.0, r.0, u.0, v.0, string_again bs more) (ap (λ x. Some (x ∷ bs, more)) (sym v.1))
          | inr v ↦ rw (p.0, q.0, r.0, u.0, v.0) (rw (p.0, q.0, string_again bs more) refl)
        ]
      ]
    ]
  ]
]

bare : (b : ℕ) (t : List ℕ) → is_blank b ≡ false → (b == 59) ≡ false → past_gap (b ∷ t) ≡ b ∷ t
unfolding past_gap
bare b t h k = rw (h, k) refl

-- a delimiter or the end comes next
abbrev IsDelimited : List ℕ → Type 0
IsDelimited [] = Unit {0}
IsDelimited (b ∷ bs) = is_delimiter b ≡ true

-- an atom in front of a delimiter is the same atom
stops_here : (more : List ℕ) → IsDelimited more → (atom more ≡ []) × (past_atom more ≡ more)
stops_here [] h = (refl, refl)
stops_here (b ∷ bs) h = (rw h refl, rw h refl)

-- none is a delimiter
abbrev AreFree : List ℕ → Type 0
AreFree [] = Unit {0}
AreFree (b ∷ bs) = (is_delimiter b ≡ false) × AreFree bs

free_again : (a more : List ℕ) → AreFree a → IsDelimited more → (atom (a ++ more) ≡ a) × (past_atom (a ++ more) ≡ more)
free_again [] more f h = stops_here more h
free_again (b ∷ a) more f h =
    let k = free_again a more f.1 h in
    (rw f.0 (ap (λ x. b ∷ x) k.0), rw f.0 k.1)

past_space : (t : List ℕ) → past_gap (32 ∷ t) ≡ past_gap t
unfolding past_gap
past_space t = refl

-- the printed text of a datum reads as it where a delimiter follows, and has no blank in front
abbrev Again : Begins → Datum → Type 0
Again one d = (more : List ℕ) → IsDelimited more → (past_gap (datum_text d ++ more) ≡ datum_text d ++ more) × one (datum_text d ++ more) d more

abbrev EachAgain : Begins → List Datum → Type 0
EachAgain one [] = Unit {0}
EachAgain one (d ∷ ds) = Again one d × EachAgain one ds

behind_delimited : (ds : List Datum) (c : ℕ) (more : List ℕ) → is_delimiter c ≡ true → IsDelimited (spaced_behind (map datum_text ds) ++ c ∷ more)
behind_delimited [] c more h = h
behind_delimited (d ∷ ds) c more h = refl

behind_again : (one : Begins) (ds : List Datum) (c : ℕ) (more : List ℕ) → is_delimiter c ≡ true → past_gap (c ∷ more) ≡ c ∷ more → EachAgain one ds
    → Items one (spaced_behind (map datum_text ds) ++ c ∷ more) ds (c ∷ more)
behind_again one [] c more h g u = sym g
behind_again one (d ∷ ds) c more h g u =
    let after = spaced_behind (map datum_text ds) ++ c ∷ more in
    let text = (datum_text d ++ spaced_behind (map datum_text ds)) ++ c ∷ more in
    let k = u.0 after (behind_delimited ds c more h) in
    let front : past_gap (32 ∷ text) ≡ datum_text d ++ after = past_space text ∙ ap past_gap (append_assoc (datum_text d) (spaced_behind (map datum_text ds)) (c ∷ more)) ∙ k.0 in
    (after, subst (λ x. one x d after) (sym front) k.1, behind_again one ds c more h g u.1)

items_again : (one : Begins) (ds : List Datum) (c : ℕ) (more : List ℕ) → is_delimiter c ≡ true → past_gap (c ∷ more) ≡ c ∷ more → EachAgain one ds
    → Items one (spaced (map datum_text ds) ++ c ∷ more) ds (c ∷ more)
items_again one [] c more h g u = sym g
items_again one (d ∷ ds) c more h g u =
    let after = spaced_behind (map datum_text ds) ++ c ∷ more in
    let text = (datum_text d ++ spaced_behind (map datum_text ds)) ++ c ∷ more in
    let k = u.0 after (behind_delimited ds c more h) in
    let front : past_gap text ≡ datum_text d ++ after = ap past_gap (append_assoc (datum_text d) (spaced_behind (map datum_text ds)) (c ∷ more)) ∙ k.0 in
    (after, subst (λ x. one x d after) (sym front) k.1, behind_again one ds c more h g u.1)

list_again : (one : Begins) (ds : List Datum) → AreFew ds → EachAgain one ds → Again (Layer one) (datum.Seq ds)
list_again one ds f u more m =
    let body = spaced (map datum_text ds) in
    let e : datum_text (datum.Seq ds) ++ more ≡ 40 ∷ body ++ 41 ∷ more = ap (λ x. x ++ more) (text-Seq ds) ∙ ap (λ x. 40 ∷ x) (append_assoc body (41 ∷ []) more) in (
      subst (λ x. past_gap x ≡ x) (sym e) (bare 40 (body ++ 41 ∷ more) refl refl),
      subst (λ x. Layer one x (datum.Seq ds) more) (sym e) (ds, refl, f, items_again one ds 41 more refl (bare 41 more refl refl) u),
    )

string_back : (one : Begins) (s : List ℕ) → is_utf8 s ≡ true → is_short s ≡ true → Again (Layer one) (datum.Str s)
string_back one s h k more m =
    let e : datum_text (datum.Str s) ++ more ≡ 34 ∷ escaped s ++ 34 ∷ more = ap (λ x. x ++ more) (text-Str s) ∙ ap (λ x. 34 ∷ x) (append_assoc (escaped s) (34 ∷ []) more) in (
      subst (λ x. past_gap x ≡ x) (sym e) (bare 34 (escaped s ++ 34 ∷ more) refl refl),
      subst (λ x. Layer one x (datum.Str s) more) (sym e) (s, refl, k, IsUtf8-from_is_utf8 s h, string_again s more),
    )

free_head : (b : ℕ) → is_delimiter b ≡ false → (is_blank b ≡ false) × ((b == 59) ≡ false) × (b ≢ 40) × (b ≢ 91) × (b ≢ 39) × (b ≢ 34)
free_head b h = (grind (arith, h), grind (arith, h), (λ e. grind (arith, h, e)), (λ e. grind (arith, h, e)), (λ e. grind (arith, h, e)), (λ e. grind (arith, h, e)))

atom_back : (one : Begins) (a : List ℕ) (d : Datum) → datum_text d ≡ a → AreFree a × IsAtom a d → Again (Layer one) d
atom_back one [] d e h more m = absurd (no_atom d h.1)
atom_back one (b ∷ a) d e h more m =
    let s = ap (λ x. x ++ more) e in
    let k = free_again (b ∷ a) more h.0 m in
    let q = free_head b h.0.0 in (
      subst (λ x. past_gap x ≡ x) (sym s) (bare b (a ++ more) q.0 q.1),
      subst (λ x. Layer one x d more) (sym s) (subst (λ T. T) (sym (as_atom one b (a ++ more) d more q.2 q.3 q.4 q.5)) (subst (λ x. IsAtom x d) (sym k.0) h.1, sym k.1)),
    )

no_true : (c : ℕ) (cs : List ℕ) → (c == 35) ≡ false → is_true (c ∷ cs) ≡ false
unfolding is_true
no_true c cs h = rw h refl

no_false : (c : ℕ) (cs : List ℕ) → (c == 35) ≡ false → is_false (c ∷ cs) ≡ false
unfolding is_false
no_false c cs h = rw h refl

-- symbols
no_symbol_byte : (b : ℕ) → is_symbol_byte b ≡ true → (c : ℕ) → is_symbol_byte c ≡ false → (b == c) ≡ false
no_symbol_byte b h c k = elim (eqb_tells b c) as (λ _. (b == c) ≡ false) [
  | inl p ↦ absurd (true≢false (sym h ∙ ap is_symbol_byte p.1 ∙ k))
  | inr p ↦ p.0
]

symbol_byte : (b : ℕ) → is_symbol_byte b ≡ true → (is_delimiter b ≡ false) × ((b == 35) ≡ false)
symbol_byte b h =
    let n = no_symbol_byte b h in
    (rw (n 9 refl, n 10 refl, n 13 refl, n 32 refl, n 40 refl, n 41 refl, n 91 refl, n 93 refl, n 34 refl, n 59 refl, n 39 refl) refl, n 35 refl)

symbols_free : (bs : List ℕ) → are_symbol_bytes bs ≡ true → AreFree bs
symbols_free [] h = tt
symbols_free (b ∷ bs) h = let p = and_parts (is_symbol_byte b) (are_symbol_bytes bs) h in ((symbol_byte b p.0).0, symbols_free bs p.1)

name_atom : (a : List ℕ) → is_name a ≡ true → is_short a ≡ true → AreFree a × IsAtom a (datum.Sym a)
unfolding IsAtom
name_atom [] h s = (let e : false ≡ true = h in cc)
name_atom (b ∷ a) h s =
    let p = (and_parts _ _ (and_parts _ _ h).0).0 in
    let q = (symbol_byte b (and_parts (is_symbol_byte b) (are_symbol_bytes a) p).0).1 in
    (symbols_free (b ∷ a) p, rw (no_true b a q, no_false b a q, h) (refl, s))

-- integers
free_digits : (ds : List ℕ) → AllDigits 10 ds → AreFree ds
free_digits [] h = tt
free_digits (c ∷ cs) h = (grind (arith, digit_from_value c h.0), free_digits cs h.1)

bare_digit : (c : ℕ) (cs : List ℕ) → IsInRange 48 57 c → begins_with_digit (without (λ b. b == 46) (c ∷ cs)) ≡ true
bare_digit c cs h =
    let m : (c == 46) ≡ false = grind (arith, h) in
    let n : (nat_le 48 c && nat_le c 57) ≡ true = grind (arith, h) in
    rw m n

no_sign : (c : ℕ) (cs : List ℕ) → IsInRange 48 57 c → without (λ b. b == 43 || b == 45) (c ∷ cs) ≡ c ∷ cs
no_sign c cs h =
    let k : (c == 43 || c == 45) ≡ false = grind (arith, h) in
    rw k refl

digit_name : (c : ℕ) (cs : List ℕ) → IsInRange 48 57 c → is_name (c ∷ cs) ≡ false
digit_name c cs h =
    and_right (are_symbol_bytes (c ∷ cs) && not (c == 46 && is_empty cs)) (not (begins_with_digit (without (λ b. b == 46) (without (λ b. b == 43 || b == 45) (c ∷ cs)))))
    (ap not (ap (λ x. begins_with_digit (without (λ b. b == 46) x)) (no_sign c cs h) ∙ bare_digit c cs h))

minus_name : (c : ℕ) (cs : List ℕ) → IsInRange 48 57 c → is_name (45 ∷ c ∷ cs) ≡ false
minus_name c cs h =
    and_right (are_symbol_bytes (45 ∷ c ∷ cs) && not false) (not (begins_with_digit (without (λ b. b == 46) (c ∷ cs))))
    (ap not (bare_digit c cs h))

-- an integer's atom, where none of the words before it is meant
int_of : (a : List ℕ) (z : ℤ) → is_true a ≡ false → is_false a ≡ false → is_name a ≡ false → IsNumeral 10 (without_leading_sign a) → signed_digits_value 10 a ≡ z → fits z ≡ true → IsAtom a (datum.Int z)
unfolding IsAtom
int_of a z t f n d v h = rw (t, f, n) ((let k : is_integer a ≡ true = rw (numeral_from _ d, v) h in k), ap datum.Int (sym v))

plain_int : (ds : List ℕ) (n : ℕ) → IsNumeral 10 ds → digits_value 10 ds ≡ n → fits (pos n) ≡ true → AreFree ds × IsAtom ds (datum.Int (pos n))
plain_int [] n h v k = absurd (omega (arith, h.0))
plain_int (c ∷ cs) n h v k =
    let r = digit_from_value c h.1.0 in
    let e : (c == 35) ≡ false = grind (arith, r) in
    let p : (c == 45) ≡ false = grind (arith, r) in
    let q : (c == 43) ≡ false = grind (arith, r) in
    let s : without_leading_sign (c ∷ cs) ≡ c ∷ cs = rw (p, q) refl in
    let w : signed_digits_value 10 (c ∷ cs) ≡ pos n = rw (p, q) (ap pos v) in
    (free_digits (c ∷ cs) h.1, int_of (c ∷ cs) (pos n) (no_true c cs e) (no_false c cs e) (digit_name c cs r) (subst (IsNumeral 10) (sym s) h) w k)

minus_int : (ds : List ℕ) (n : ℕ) → IsNumeral 10 ds → digits_value 10 ds ≡ suc n → fits (negsuc n) ≡ true → AreFree (45 ∷ ds) × IsAtom (45 ∷ ds) (datum.Int (negsuc n))
minus_int [] n h v k = absurd (omega (arith, h.0))
minus_int (c ∷ cs) n h v k =
    let r = digit_from_value c h.1.0 in
    ((refl, free_digits (c ∷ cs) h.1), int_of (45 ∷ c ∷ cs) (negsuc n) (no_true 45 (c ∷ cs) refl) (no_false 45 (c ∷ cs) refl) (minus_name c cs r) h (ap (λ x. neg_ℤ (pos x)) v) k)

int_atom : (z : ℤ) → fits z ≡ true → AreFree (signed_decimal z) × IsAtom (signed_decimal z) (datum.Int z)
int_atom (pos n) h = let k = decimal_is_IsNumeral n (omega (arith, (fits_of (pos n) h).sfits)) in plain_int (decimal n) n k.0 k.1 h
int_atom (negsuc n) h = let k = decimal_is_IsNumeral (suc n) (omega (arith, (fits_of (negsuc n) h).sfits)) in minus_int (decimal (suc n)) n k.0 k.1 h

-- what is valid and within the limits, on fewer levels than these, is read again
abbrev Holds : ℕ → Begins → Datum → Type 0
Holds n one d = is_valid d ≡ true → datum_depth d < n → datum_size d ≤ most_size → Again one d

each_again : (n : ℕ) (one : Begins) → ((d : Datum) → Holds n one d) → (ds : List Datum) → are_valid ds ≡ true → greatest (map datum_depth ds) < n → total (map datum_size ds) ≤ most_size
    → EachAgain one ds
each_again n one u [] v l s = tt
each_again n one u (d ∷ ds) v l s =
    let p = and_parts (is_valid d) (are_valid ds) v in
    (u d p.0 (omega (arith, l)) (omega (arith, s)), each_again n one u ds p.1 (omega (arith, l)) (omega (arith, s)))

layer_again : (n : ℕ) → n ≤ most_depth → (one : Begins) → ((d : Datum) → Holds n one d) → (f : Datum-F Datum) → Holds (suc n) (Layer one) (roll-Datum f)
unfolding IsAtom is_true is_false
layer_again n small one u (Datum-F.Int z) = subst (Holds (suc n) (Layer one)) (sym (rolls-Int z)) (λ v l s. atom_back one (signed_decimal z) (datum.Int z) (text-Int z) (int_atom z (sym (valid-Int z) ∙ v)))
layer_again n small one u (Datum-F.Bool true) = subst (Holds (suc n) (Layer one)) (sym (rolls-Bool true)) (λ v l s. atom_back one (35 ∷ 116 ∷ []) (datum.Bool true) (text-Bool true) ((refl, (refl, tt)), refl))
layer_again n small one u (Datum-F.Bool false) = subst (Holds (suc n) (Layer one)) (sym (rolls-Bool false)) (λ v l s. atom_back one (35 ∷ 102 ∷ []) (datum.Bool false) (text-Bool false) ((refl, (refl, tt)), refl))
layer_again n small one u (Datum-F.Sym a) = subst (Holds (suc n) (Layer one)) (sym (rolls-Sym a)) (λ v l s.
    let p = and_parts (is_name a) (is_short a) (sym (valid-Sym a) ∙ v) in
    atom_back one a (datum.Sym a) (text-Sym a) (name_atom a p.0 p.1))
layer_again n small one u (Datum-F.Str a) = subst (Holds (suc n) (Layer one)) (sym (rolls-Str a)) (λ v l s.
    let p = and_parts (is_utf8 a) (is_short a) (sym (valid-Str a) ∙ v) in
    string_back one a p.0 p.1)
layer_again n small one u (Datum-F.Seq ds) = subst (Holds (suc n) (Layer one)) (sym (rolls-Seq ds)) (λ v l s.
    list_again one ds (omega (arith, seq_size ds, s), omega (arith, seq_depth ds, l, small))
    (each_again n one u ds (sym (valid-Seq ds) ∙ v) (omega (arith, seq_depth ds, l)) (omega (arith, seq_size ds, s))))

again : (n : ℕ) → n ≤ data_levels → (d : Datum) → Holds n (begins n) d
unfolding begins
again zero small d = λ v l s. absurd (omega (arith, l))
again (suc n) small d = subst (Holds (suc n) (Layer (begins n))) (roll-out-Datum d) (layer_again n (omega (arith, small)) (begins n) (again n (omega (arith, small))) (out-Datum d))

-- the printed text of a valid datum within the limits reads as it
pub valid_again : (d : Datum) → is_valid d ≡ true → datum_depth d ≤ most_depth → datum_size d ≤ most_size → ReadsOne (datum_text d) d
unfolding past_gap
valid_again d v l s =
    let k = again data_levels (omega arith) d v (omega (arith, l)) s [] tt in
    ([], subst (λ x. begins data_levels (past_gap x) d []) (append-nil (datum_text d)) (subst (λ x. begins data_levels x d []) (sym k.0) k.1), refl)
