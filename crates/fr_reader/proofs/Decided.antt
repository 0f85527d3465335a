-- Whether a text reads as one datum can be decided. This is no definition of readings: the grammar says what one is.
use Rattle.std.specs.Prelude.{ℕ, suc, zero, Bool, true, false, ◌&&◌, ◌==◌, ◌+◌, ◌<◌, ◌≡◌, ◌⊎◌, List, [], ◌∷◌, length, Some, None}
use Rattle.std.specs.Str.{is_utf8}
use Rattle.std.specs.Str.Parse.{signed_digits_value}
use Rattle.std.proofs.Common.{refl, inl, inr, sym, ◌∙◌, ap, subst, arith}
use Rattle.std.proofs.lemmas.Bool.{and_parts}
use Rattle.std.proofs.lemmas.Bool.Decides.{eqb_tells}
use Rattle.std.proofs.lemmas.Option.{none-some}
use Rattle.std.proofs.lemmas.Str.{IsUtf8-from_is_utf8, is_utf8-from_IsUtf8}
use Rattle.fr_value.specs.declared.value.Datum.{Datum}
use Rattle.fr_value.specs.declared.value.Datum.TheVariants as datum
use Rattle.fr_value.specs.Data.{AreFew, few, datum_positive}
use Rattle.fr_value.specs.Bytes.{past_gap, atom, past_atom, string}
use Rattle.fr_value.specs.Grammar.{Begins, Where, Items, Layer, IsList, IsQuoted, IsString, IsAtom, NoStart, ReadsOne, begins, is_name, is_short, is_true, is_false, is_integer, quoted}
use Rattle.fr_value.proofs.Limits.{few-Decides, few_passes}
use Rattle.fr_value.proofs.Meet.{same_some}
use Rattle.fr_reader.proofs.Sizes.{gap_less, begins_small}
use Rattle.fr_reader.proofs.Steps.{heads, too_big, stuck, quote_too_big, not_one}
use Rattle.fr_value.specs.Limits.{data_levels}

-- something is so, or nothing is
abbrev Found : {A : Type 0} → (A → Type 0) → Type 0
Found {A} P = ((x : A) × P x) ⊎ ((x : A) → P x → ⊥)

-- a datum begins here, and this is left behind it, or none does
abbrev Tells : Begins → List ℕ → Type 0
Tells one t = Found (λ (x : Datum × List ℕ). one t x.0 x.1)

choose : {A : Type 0} (P Q : A → Type 0) (b : Bool) → Found P → Found Q → Found (λ x. Where b (P x) (Q x))
choose P Q true p q = p
choose P Q false p q = q

passes : (b : Bool) → (b ≡ true) ⊎ (b ≡ true → ⊥)
passes true = inl refl
passes false = inr (λ h. cc)

are_few : (ds : List Datum) → AreFew ds ⊎ (AreFew ds → ⊥)
are_few ds = elim (passes (few ds)) as (λ _. AreFew ds ⊎ (AreFew ds → ⊥)) [ inl h ↦ inl ((few-Decides ds).0 h) | inr n ↦ inr (λ h. n (few_passes ds h)) ]

-- the front of a text reads as these data, and none begins behind them
abbrev Whole : Begins → List ℕ → Type 0
Whole one t = (ds : List Datum) × (r : List ℕ) × Items one t ds r × NoStart one r

-- a text has such data, if each text tells
whole : (n : ℕ) → ((t : List ℕ) → Tells (begins n) t) → (k : ℕ) (t : List ℕ) → length t < k → Whole (begins n) t
whole n tell zero t l = absurd (omega (arith, l))
whole n tell (suc k) t l = elim (tell (past_gap t)) as (λ _. Whole (begins n) t) [
  | inl x ↦ (let m = whole n tell k x.0.1 (omega (arith, l, gap_less t, begins_small n (past_gap t) x.0.0 x.0.1 x.1, datum_positive x.0.0)) in (x.0.0 ∷ m.0, m.1, (x.0.1, x.1, m.2), m.3))
  | inr none ↦ ([], past_gap t, refl, (λ d r h. none (d, r) h))
]

list_told : (n close : ℕ) → (close ≡ 41) ⊎ (close ≡ 93) → (t : List ℕ) → Whole (begins n) t → Tells (IsList (begins n) close) t
list_told n close b t (ds, [], h, none) = inr (λ x l. stuck n close t ds [] h none (λ s e. omega (arith, ap length e)) b x.0 x.1 l)
list_told n close b t (ds, c ∷ r, h, none) = elim (eqb_tells c close) as (λ _. Tells (IsList (begins n) close) t) [
  | inl p ↦ elim (are_few ds) as (λ _. Tells (IsList (begins n) close) t) [
    | inl f ↦ inl ((datum.Seq ds, r), (ds, refl, f, subst (λ x. Items (begins n) t ds (x ∷ r)) p.1 h))
    | inr f ↦ inr (λ x l. too_big n close t ds (c ∷ r) r h (ap (λ x. x ∷ r) p.1) b f x.0 x.1 l)
  ]
  | inr p ↦ inr (λ x l. stuck n close t ds (c ∷ r) h none (λ s e. p.1 (heads c close r s e)) b x.0 x.1 l)
]

quoted_told : (n : ℕ) (t : List ℕ) → Tells (begins n) (past_gap t) → Tells (IsQuoted (begins n)) t
quoted_told n t (inl q) = elim (are_few (quoted q.0.0)) as (λ _. Tells (IsQuoted (begins n)) t) [
  | inl f ↦ inl ((datum.Seq (quoted q.0.0), q.0.1), (q.0.0, refl, f, q.1))
  | inr f ↦ inr (λ x l. quote_too_big n t q.0.0 q.0.1 q.1 f x.0 x.1 l)
]
quoted_told n t (inr none) = inr (λ x l. none (l.0, x.1) l.3)

string_told : (t : List ℕ) → Tells IsString t
string_told t = elim (string false t) as (λ o. string false t ≡ o → Tells IsString t) [
  | None ↦ λ e. inr (λ x l. none-some (l.0, x.1) (sym e ∙ l.4))
  | Some y ↦ λ e. elim (passes (is_short y.0 && is_utf8 y.0)) as (λ _. Tells IsString t) [
    | inl p ↦ (let q = and_parts (is_short y.0) (is_utf8 y.0) p in inl ((datum.Str y.0, y.1), (y.0, refl, q.0, IsUtf8-from_is_utf8 y.0 q.1, e)))
    | inr n ↦ inr (λ x l. n (subst (λ s. (is_short s && is_utf8 s) ≡ true) (sym (ap (λ p. p.0) (same_some y (l.0, x.1) (sym e ∙ l.4)))) (rw (l.2, is_utf8-from_IsUtf8 l.0 l.3) refl)))
  ]
] refl

atom_told : (a : List ℕ) → Found (IsAtom a)
unfolding IsAtom
atom_told a =
    choose _ _ (is_true a) (inl (datum.Bool true, refl))
    (choose _ _ (is_false a) (inl (datum.Bool false, refl))
    (choose _ _ (is_name a) (name (passes (is_short a))) (integer (passes (is_integer a)))))
  where
    name : (is_short a ≡ true) ⊎ (is_short a ≡ true → ⊥) → Found (λ d. (d ≡ datum.Sym a) × (is_short a ≡ true))
    name (inl p) = inl (datum.Sym a, (refl, p))
    name (inr n) = inr (λ d h. n h.1)

    integer : (is_integer a ≡ true) ⊎ (is_integer a ≡ true → ⊥) → Found (λ d. (is_integer a ≡ true) × (d ≡ datum.Int (signed_digits_value 10 a)))
    integer (inl p) = inl (datum.Int (signed_digits_value 10 a), (p, refl))
    integer (inr n) = inr (λ d h. n h.0)

leaf_told : (t : List ℕ) → Found (IsAtom (atom t)) → Found (λ (x : Datum × List ℕ). IsAtom (atom t) x.0 × (x.1 ≡ past_atom t))
leaf_told t (inl a) = inl ((a.0, past_atom t), (a.1, refl))
leaf_told t (inr none) = inr (λ x h. none x.0 h.0)

layer_told : (n : ℕ) → ((t : List ℕ) → Tells (begins n) t) → (t : List ℕ) → Tells (Layer (begins n)) t
layer_told n tell [] = inr (λ x h. h)
layer_told n tell (b ∷ t) =
    let all = whole n tell (length t + 1) t (omega arith) in
    choose _ _ (b == 40) (list_told n 41 (inl refl) t all)
    (choose _ _ (b == 91) (list_told n 93 (inr refl) t all)
    (choose _ _ (b == 39) (quoted_told n t (tell (past_gap t)))
    (choose _ _ (b == 34) (string_told t) (leaf_told (b ∷ t) (atom_told (atom (b ∷ t)))))))

tells : (n : ℕ) (t : List ℕ) → Tells (begins n) t
unfolding begins
tells zero t = inr (λ x h. h)
tells (suc n) t = layer_told n (tells n) t

-- a text reads as one datum, or as none
pub decided : (text : List ℕ) → ((d : Datum) × ReadsOne text d) ⊎ ((d : Datum) → ReadsOne text d → ⊥)
decided text = elim (tells data_levels (past_gap text)) as (λ _. Found (ReadsOne text)) [
  | inl x ↦ elim (past_gap x.0.1) as (λ r. past_gap x.0.1 ≡ r → Found (ReadsOne text)) [
    | [] ↦ λ e. inl (x.0.0, (x.0.1, x.1, sym e))
    | b ∷ bs ↦ λ e. inr (not_one text x.0.0 x.0.1 x.1 (λ k. omega (arith, ap length (sym e ∙ k))))
  ] refl
  | inr none ↦ inr (λ d h. none (d, h.0) h.1)
]
