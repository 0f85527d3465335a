-- A text has one reading at most.
use Rattle.std.specs.Prelude.{ℕ, suc, zero, Bool, true, false, ◌==◌, ◌≤◌, ◌≡◌, List, [], ◌∷◌, ◌++◌, length, Option, Some, None}
use Rattle.std.proofs.Common.{refl, sub-one, ◌-◌, ◌≢◌, sym, ◌∙◌, ap, subst, arith}
use Rattle.fr_value.specs.declared.value.Datum.{Datum}
use Rattle.fr_value.specs.declared.value.Datum.TheVariants as datum
use Rattle.fr_value.specs.Bytes.{past_gap, atom}
use Rattle.fr_value.specs.Grammar.{Begins, Where, Items, Layer, IsList, IsQuoted, IsString, IsAtom, is_name, is_true, is_false, quoted, begins, Reads, NoStart}
use Rattle.fr_value.specs.Limits.{data_levels}

-- each text begins with one datum at most
abbrev pub IsOne : Begins → Type 0
IsOne one = (t : List ℕ) (d e : Datum) (r s : List ℕ) → one t d r → one t e s → (d ≡ e) × (r ≡ s)

pub add_item : (one : Begins) (t : List ℕ) (ds : List Datum) (r : List ℕ) (d : Datum) (m : List ℕ) → Items one t ds r → one r d m → Items one t (ds ++ d ∷ []) (past_gap m)
add_item one t [] r d m h k = (m, subst (λ x. one x d m) h k, refl)
add_item one t (e ∷ ds) r d m h k = (h.0, h.1, add_item one h.0 ds r d m h.2 k)

pub cons_same : (d e : Datum) (ds es : List Datum) → d ≡ e → ds ≡ es → d ∷ ds ≡ e ∷ es
cons_same d e ds es h k = rw (h, k) refl

-- two readings that both stop where no datum begins are one
pub stops : (one : Begins) → IsOne one → (t : List ℕ) (ds : List Datum) (r : List ℕ) (es : List Datum) (s : List ℕ)
    → Items one t ds r → NoStart one r → Items one t es s → NoStart one s → (ds ≡ es) × (r ≡ s)
stops one u t [] r [] s h a k b = (refl, h ∙ sym k)
stops one u t [] r (e ∷ es) s h a k b = absurd (a e k.0 (subst (λ x. one x e k.0) (sym h) k.1))
stops one u t (d ∷ ds) r [] s h a k b = absurd (b d h.0 (subst (λ x. one x d h.0) (sym k) h.1))
stops one u t (d ∷ ds) r (e ∷ es) s h a k b =
    let same = u (past_gap t) d e h.0 k.0 h.1 k.1 in
    let rest = stops one u k.0 ds r es s (subst (λ x. Items one x ds r) same.1 h.2) a k.2 b in
    (cons_same d e ds es same.0 rest.0, rest.1)

-- a reading that stops where no datum begins has the most data
pub longest : (one : Begins) → IsOne one → (t : List ℕ) (ds : List Datum) (r : List ℕ) (es : List Datum) (s : List ℕ)
    → Items one t ds r → NoStart one r → Items one t es s → length es ≤ length ds
longest one u t ds r [] s h a k = omega arith
longest one u t [] r (e ∷ es) s h a k = absurd (a e k.0 (subst (λ x. one x e k.0) (sym h) k.1))
longest one u t (d ∷ ds) r (e ∷ es) s h a k =
    let same = u (past_gap t) d e h.0 k.0 h.1 k.1 in
    omega (arith, longest one u k.0 ds r es s (subst (λ x. Items one x ds r) same.1 h.2) a k.2)

pub both : (b : Bool) {P P' Q Q' R : Type 0} → Where b P Q → Where b P' Q' → (P → P' → R) → (Q → Q' → R) → R
both true h k f g = f h k
both false h k f g = g h k

tail_of : List ℕ → List ℕ
tail_of [] = []
tail_of (b ∷ bs) = bs

same_tail : (c : ℕ) (r s : List ℕ) → c ∷ r ≡ c ∷ s → r ≡ s
unfolding tail_of
same_tail c r s h = ap tail_of h

one_list : (one : Begins) → IsOne one → (close : ℕ) → ((t : List ℕ) → NoStart one (close ∷ t))
    → (t : List ℕ) (d e : Datum) (r s : List ℕ) → IsList one close t d r → IsList one close t e s → (d ≡ e) × (r ≡ s)
one_list one u close a t d e r s h k =
    let same = stops one u t h.0 (close ∷ r) k.0 (close ∷ s) h.3 (a r) k.3 (a s) in
    (h.1 ∙ ap datum.Seq same.0 ∙ sym k.1, same_tail close r s same.1)

one_quoted : (one : Begins) → IsOne one → (t : List ℕ) (d e : Datum) (r s : List ℕ) → IsQuoted one t d r → IsQuoted one t e s → (d ≡ e) × (r ≡ s)
one_quoted one u t d e r s h k =
    let same = u (past_gap t) h.0 k.0 r s h.3 k.3 in
    (h.1 ∙ ap (λ q. datum.Seq (quoted q)) same.0 ∙ sym k.1, same.1)

some_of : {A : Type 0} → A → Option A → A
some_of a None = a
some_of a (Some b) = b

pub same_some : {A : Type 0} (a b : A) → Some a ≡ Some b → a ≡ b
unfolding some_of
same_some a b h = ap (some_of a) h

one_string : (t : List ℕ) (d e : Datum) (r s : List ℕ) → IsString t d r → IsString t e s → (d ≡ e) × (r ≡ s)
one_string t d e r s h k =
    let same = same_some (h.0, r) (k.0, s) (sym h.4 ∙ k.4) in
    (h.1 ∙ ap (λ p. datum.Str p.0) same ∙ sym k.1, ap (λ p. p.1) same)

one_atom : (a : List ℕ) (d e : Datum) → IsAtom a d → IsAtom a e → d ≡ e
unfolding IsAtom
one_atom a d e h k =
    both (is_true a) h k (λ h k. h ∙ sym k) (λ h k.
    both (is_false a) h k (λ h k. h ∙ sym k) (λ h k.
    both (is_name a) h k (λ h k. h.0 ∙ sym k.0) (λ h k. h.1 ∙ sym k.1)))

pub no_atom : (d : Datum) → IsAtom [] d → ⊥
unfolding IsAtom is_true is_false
no_atom d h = (let e : false ≡ true = h.0 in cc)

pub empty_atom : (a : List ℕ) (d : Datum) → (length a == 0) ≡ true → IsAtom a d → ⊥
empty_atom [] d e h = no_atom d h
empty_atom (b ∷ a) d e h = grind (arith, e)

pub layer_one : (one : Begins) → IsOne one → ((t : List ℕ) → NoStart one (41 ∷ t)) → ((t : List ℕ) → NoStart one (93 ∷ t)) → IsOne (Layer one)
layer_one one u a c [] d e r s h k = absurd h
layer_one one u a c (b ∷ t) d e r s h k =
    both (b == 40) h k (one_list one u 41 a t d e r s) (λ h k.
    both (b == 91) h k (one_list one u 93 c t d e r s) (λ h k.
    both (b == 39) h k (one_quoted one u t d e r s) (λ h k.
    both (b == 34) h k (one_string t d e r s) (λ h k.
    (one_atom (atom (b ∷ t)) d e h.0 k.0, h.1 ∙ sym k.1)))))

pub no_close : (n : ℕ) (t : List ℕ) → NoStart (begins n) (41 ∷ t)
unfolding begins
no_close zero t d m h = h
no_close (suc n) t d m h = no_atom d h.0

pub no_square : (n : ℕ) (t : List ℕ) → NoStart (begins n) (93 ∷ t)
unfolding begins
no_square zero t d m h = h
no_square (suc n) t d m h = no_atom d h.0

pub no_end : (n : ℕ) → NoStart (begins n) []
unfolding begins
no_end zero d m h = h
no_end (suc n) d m h = h

pub begins_one : (n : ℕ) → IsOne (begins n)
unfolding begins
begins_one zero t d e r s h k = absurd h
begins_one (suc n) t d e r s h k = layer_one (begins n) (begins_one n) (no_close n) (no_square n) t d e r s h k

-- a text has one reading at most
pub reads_one : (t : List ℕ) (ds es : List Datum) → Reads t ds → Reads t es → ds ≡ es
reads_one t ds es h k = (stops (begins data_levels) (begins_one data_levels) t ds [] es [] h (no_end data_levels) k (no_end data_levels)).0

-- one level opens
pub opens : (n : ℕ) (t : List ℕ) (d : Datum) (r : List ℕ) → n ≢ 0 → begins n t d r ≡ Layer (begins (n - 1)) t d r
unfolding begins
opens zero t d r h = absurd (h refl)
opens (suc n) t d r h = rw (sub-one (suc n)) refl

pub ends_zero : (n : ℕ) (t : List ℕ) → n ≡ 0 → NoStart (begins n) t
unfolding begins
ends_zero zero t h d r b = b
ends_zero (suc n) t h d r b = omega (arith, h)
