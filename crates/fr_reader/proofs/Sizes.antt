-- Sizes against the number of bytes.
use Rattle.std.specs.Prelude.{ℕ, suc, zero, Bool, true, false, ◌==◌, ◌+◌, ◌*◌, ◌≤◌, ◌≡◌, cond, List, [], ◌∷◌, map, length, Option, Some, None}
use Rattle.std.specs.Option.{option_map, option_and_then}
use Rattle.std.proofs.Common.{refl, inl, inr, ap, arith}
use Rattle.std.proofs.lemmas.Bool.Decides.{eqb_tells}
use Rattle.std.proofs.lemmas.Option.{none-some}
use Rattle.fr_value.proofs.Meet.{same_some, no_atom}
use Rattle.std.specs.Str.Parse.{signed_digits_value}
use Rattle.fr_value.specs.declared.value.Datum.{Datum}
use Rattle.fr_value.specs.declared.value.Value.TheVariants as value
use Rattle.fr_value.specs.Data.{total, datum_size, size-of, seq_size}
use Rattle.fr_value.specs.Bytes.{is_blank, is_delimiter, skip, past_gap, atom, past_atom, string, escape, front}
use Rattle.fr_value.specs.Grammar.{Begins, Where, Items, Layer, IsList, IsQuoted, IsString, IsAtom, is_name, is_true, is_false, quoted, begins, Front}
use Rattle.fr_value.specs.Limits.{data_levels}

-- what is read takes no more than eight times the bytes
abbrev pub IsSmall : Begins → Type 0
IsSmall one = (t : List ℕ) (d : Datum) (r : List ℕ) → one t d r → datum_size d + 8 * length r ≤ 8 * length t

skip_less : (c : Bool) (t : List ℕ) → length (skip c t) ≤ length t
skip_less c [] = omega arith
skip_less true (b ∷ bs) = elim (b == 10) as (λ x. length (cond x (skip false bs) (skip true bs)) ≤ length (b ∷ bs)) [
  | true ↦ omega (arith, skip_less false bs)
  | false ↦ omega (arith, skip_less true bs)
]
skip_less false (b ∷ bs) = elim (is_blank b) as (λ x. length (cond x (skip false bs) (cond (b == 59) (skip true bs) (b ∷ bs))) ≤ length (b ∷ bs)) [
  | true ↦ omega (arith, skip_less false bs)
  | false ↦ elim (b == 59) as (λ x. length (cond x (skip true bs) (b ∷ bs)) ≤ length (b ∷ bs)) [ true ↦ omega (arith, skip_less true bs) | false ↦ omega arith ]
]

pub gap_less : (t : List ℕ) → length (past_gap t) ≤ length t
unfolding past_gap
gap_less t = skip_less false t

items_small : (one : Begins) → IsSmall one → (t : List ℕ) (ds : List Datum) (r : List ℕ) → Items one t ds r → total (map datum_size ds) + 8 * length r ≤ 8 * length t
items_small one u t [] r h = omega (arith, gap_less t, ap length h)
items_small one u t (d ∷ ds) r h = omega (arith, gap_less t, u (past_gap t) d h.0 h.1, items_small one u h.0 ds r h.2)

pub atom_cut : (t : List ℕ) → length (atom t) + length (past_atom t) ≡ length t
atom_cut [] = refl
atom_cut (b ∷ bs) = elim (is_delimiter b) as (λ x. length (cond x [] (b ∷ atom bs)) + length (cond x (b ∷ bs) (past_atom bs)) ≡ length (b ∷ bs)) [
  | true ↦ omega arith
  | false ↦ omega (arith, atom_cut bs)
]

front_cut : (b n : ℕ) (o : Option (List ℕ × List ℕ)) (x : List ℕ × List ℕ) → ((y : List ℕ × List ℕ) → o ≡ Some y → length y.0 + length y.1 + 1 ≤ n) → option_map (front b) o ≡ Some x → length x.0 + length x.1 + 1 ≤ suc n
front_cut b n None x less k = absurd (none-some x k)
front_cut b n (Some y) x less k = omega (arith, less y refl, ap (λ p. length p.0) (same_some (front b y) x k), ap (λ p. length p.1) (same_some (front b y) x k))

pub string_cut : (e : Bool) (t : List ℕ) (x : List ℕ × List ℕ) → string e t ≡ Some x → length x.0 + length x.1 + 1 ≤ length t
string_cut e [] x h = absurd (none-some x h)
string_cut true (b ∷ bs) x h = escaped (string_cut false bs) (escape b) h
  where
    escaped : ((y : List ℕ × List ℕ) → string false bs ≡ Some y → length y.0 + length y.1 + 1 ≤ length bs) → (o : Option ℕ) → option_and_then (λ c. option_map (front c) (string false bs)) o ≡ Some x → length x.0 + length x.1 + 1 ≤ length (b ∷ bs)
    escaped less None k = absurd (none-some x k)
    escaped less (Some c) k = front_cut c (length bs) (string false bs) x less k
string_cut false (b ∷ bs) x h = elim (eqb_tells b 34) as (λ _. length x.0 + length x.1 + 1 ≤ length (b ∷ bs)) [
  | inl p ↦ (let k : Some ([], bs) ≡ Some x = rw p.0 at h in omega (arith, ap (λ p. length p.0) (same_some ([], bs) x k), ap (λ p. length p.1) (same_some ([], bs) x k)))
  | inr p ↦ elim (eqb_tells b 92) as (λ _. length x.0 + length x.1 + 1 ≤ length (b ∷ bs)) [
    | inl q ↦ (let k : string true bs ≡ Some x = rw (p.0, q.0) at h in omega (arith, string_cut true bs x k))
    | inr q ↦ front_cut b (length bs) (string false bs) x (string_cut false bs) (rw (p.0, q.0) at h)
  ]
]

pub by_where : (b : Bool) {P Q R : Type 0} → Where b P Q → (P → R) → (Q → R) → R
by_where true h f g = f h
by_where false h f g = g h

atom_small : (a : List ℕ) (d : Datum) → IsAtom a d → datum_size d ≤ 8 * length a
unfolding IsAtom
atom_small [] d h = absurd (no_atom d h)
atom_small (b ∷ a) d h =
    by_where (is_true (b ∷ a)) h (λ h. omega (arith, ap datum_size h, size-of (value.Bool true))) (λ h.
    by_where (is_false (b ∷ a)) h (λ h. omega (arith, ap datum_size h, size-of (value.Bool false))) (λ h.
    by_where (is_name (b ∷ a)) h (λ h. omega (arith, ap datum_size h.0, size-of (value.Sym (b ∷ a))))
    (λ h. omega (arith, ap datum_size h.1, size-of (value.Int (signed_digits_value 10 (b ∷ a)))))))

layer_small : (one : Begins) → IsSmall one → IsSmall (Layer one)
layer_small one u [] d r h = absurd h
layer_small one u (b ∷ t) d r h =
    by_where (b == 40) h (list_small 41) (λ h.
    by_where (b == 91) h (list_small 93) (λ h.
    by_where (b == 39) h quoted_small (λ h.
    by_where (b == 34) h string_small (λ h. omega (arith, atom_small (atom (b ∷ t)) d h.0, ap length h.1, atom_cut (b ∷ t))))))
  where
    list_small : (c : ℕ) → IsList one c t d r → datum_size d + 8 * length r ≤ 8 * length (b ∷ t)
    list_small c l = omega (arith, ap datum_size l.1, seq_size l.0, items_small one u t l.0 (c ∷ r) l.3)

    quoted_small : IsQuoted one t d r → datum_size d + 8 * length r ≤ 8 * length (b ∷ t)
    quoted_small l = omega (arith, ap datum_size l.1, seq_size (quoted l.0), size-of (value.Sym (113 ∷ 117 ∷ 111 ∷ 116 ∷ 101 ∷ [])), u (past_gap t) l.0 r l.3, gap_less t)

    string_small : IsString t d r → datum_size d + 8 * length r ≤ 8 * length (b ∷ t)
    string_small l = omega (arith, ap datum_size l.1, size-of (value.Str l.0), string_cut false t (l.0, r) l.4)

pub begins_small : (n : ℕ) → IsSmall (begins n)
unfolding begins
begins_small zero t d r h = absurd h
begins_small (suc n) t d r h = layer_small (begins n) (begins_small n) t d r h

-- the sizes of what is read are together at most eight times the number of bytes
pub sizes : (t : List ℕ) (ds : List Datum) (r : List ℕ) → Front t ds r → total (map datum_size ds) ≤ 8 * length t
sizes t ds r h = omega (arith, items_small (begins data_levels) (begins_small data_levels) t ds r h)
