-- What each step of the reader rests on.
use Rattle.std.specs.Prelude.{ℕ, suc, false, ◌⊎◌, ◌==◌, ◌+◌, ◌≡◌, ◌≢◌, List, [], ◌∷◌, ◌++◌, length, Result, Ok, Err, IfOk}
use Rattle.std.proofs.Common.{refl, inl, inr, ◌-◌, sym, ◌∙◌, ap, subst, arith}
use Rattle.std.proofs.lemmas.Bool.Decides.{eqb_tells}
use Rattle.std.proofs.lemmas.Bool.{eqb-false}
use Rattle.std.proofs.lemmas.List.{length-append}
use Rattle.fr_reader.specs.declared.reader.ReadStop.{ReadStop}
use Rattle.fr_reader.specs.declared.reader.ReadStop.TheVariants as stop
use Rattle.fr_value.specs.declared.value.Datum.{Datum}
use Rattle.fr_value.specs.declared.value.Value.{Value}
use Rattle.fr_value.specs.Data.{AreFew, data_of, datum_of}
use Rattle.fr_value.specs.Bytes.{past_gap, atom, past_atom}
use Rattle.fr_value.specs.Grammar.{Begins, Items, Layer, IsList, IsQuoted, IsAtom, quoted, begins, Front, ReadsOne, IsRefused, NoStart}
use Rattle.fr_value.proofs.Meet.{opens, add_item, stops, longest, begins_one, no_close, no_square, no_end}
use Rattle.fr_value.specs.Limits.{data_levels}

pub by_ok : {A E : Type 0} {P Q : A → Type 0} (r : Result A E) → ((x : A) → P x → Q x) → IfOk r P → IfOk r Q
by_ok (Ok x) f h = f x h
by_ok (Err e) f h = h

pub starts : (bytes tail : List ℕ) (b c : ℕ) → bytes ≡ b ∷ tail → b ≡ c → bytes ≡ c ∷ tail
starts bytes tail b c h k = h ∙ ap (λ x. x ∷ tail) k

pub shows : (n : ℕ) (bytes text : List ℕ) (d : Datum) (r : List ℕ) → n ≢ 0 → bytes ≡ text → Layer (begins (n - 1)) text d r → begins n bytes d r
shows n bytes text d r h k l = subst (λ x. begins n x d r) (sym k) (subst (λ T. T) (sym (opens n text d r h)) l)

pub hides : (n : ℕ) (bytes text : List ℕ) (d : Datum) (r : List ℕ) → n ≢ 0 → bytes ≡ text → begins n bytes d r → Layer (begins (n - 1)) text d r
hides n bytes text d r h k l = subst (λ T. T) (opens n text d r h) (subst (λ x. begins n x d r) k l)

differs : (b c : ℕ) → b ≢ c → (b == c) ≡ false
differs b c h = elim (eqb_tells b c) as (λ _. (b == c) ≡ false) [ inl p ↦ absurd (h p.1) | inr p ↦ p.0 ]

pub as_atom : (one : Begins) (b : ℕ) (t : List ℕ) (d : Datum) (r : List ℕ) → b ≢ 40 → b ≢ 91 → b ≢ 39 → b ≢ 34
    → Layer one (b ∷ t) d r ≡ (IsAtom (atom (b ∷ t)) d × (r ≡ past_atom (b ∷ t)))
as_atom one b t d r h i j k = rw (differs b 40 h, differs b 91 i, differs b 39 j, differs b 34 k) refl

pub shows_atom : (n : ℕ) (bytes : List ℕ) (b : ℕ) (t : List ℕ) (d : Datum) (r : List ℕ) → n ≢ 0 → bytes ≡ b ∷ t → b ≢ 40 → b ≢ 91 → b ≢ 39 → b ≢ 34
    → IsAtom (atom bytes) d × (r ≡ past_atom bytes) → begins n bytes d r
shows_atom n bytes b t d r z e h i j k l =
    shows n bytes (b ∷ t) d r z e (subst (λ T. T) (sym (as_atom (begins (n - 1)) b t d r h i j k)) (subst (λ x. IsAtom (atom x) d × (r ≡ past_atom x)) e l))

pub hides_atom : (n : ℕ) (bytes : List ℕ) (b : ℕ) (t : List ℕ) (d : Datum) (r : List ℕ) → n ≢ 0 → bytes ≡ b ∷ t → b ≢ 40 → b ≢ 91 → b ≢ 39 → b ≢ 34
    → begins n bytes d r → IsAtom (atom bytes) d × (r ≡ past_atom bytes)
hides_atom n bytes b t d r z e h i j k l =
    subst (λ x. IsAtom (atom x) d × (r ≡ past_atom x)) (sym e) (subst (λ T. T) (as_atom (begins (n - 1)) b t d r h i j k) (hides n bytes (b ∷ t) d r z e l))

head_of : List ℕ → ℕ
head_of [] = 0
head_of (b ∷ bs) = b

pub heads : (b c : ℕ) (s t : List ℕ) → b ∷ s ≡ c ∷ t → b ≡ c
unfolding head_of
heads b c s t h = ap head_of h

err_of : {T E : Type 0} → E → Result T E → E
err_of e (Ok x) = e
err_of e (Err x) = x

pub retype : {T U E : Type 0} (e x : E) (r : Result T E) → r ≡ Err e → Path (Result U E) (Err e) (Err x) → r ≡ Err x
unfolding err_of
retype e x r h k = h ∙ ap Err (ap (err_of e) k)

-- no datum begins at the end
pub nothing : (n : ℕ) (bytes : List ℕ) (d : Datum) (r : List ℕ) → length bytes ≡ 0 → begins n bytes d r → ⊥
nothing n [] d r h k = no_end n d r k
nothing n (b ∷ bs) d r h k = omega (arith, h)

-- no datum begins with a closing bracket
pub no_bracket : (n close : ℕ) (t : List ℕ) → (close ≡ 41) ⊎ (close ≡ 93) → NoStart (begins n) (close ∷ t)
no_bracket n close t (inl h) d r k = no_close n t d r (subst (λ x. begins n (x ∷ t) d r) h k)
no_bracket n close t (inr h) d r k = no_square n t d r (subst (λ x. begins n (x ∷ t) d r) h k)

-- the items that were read are all, up to a bracket or where nothing begins
pub all_items : (n close : ℕ) (t : List ℕ) (ds : List Datum) (rest : List ℕ) (es : List Datum) (s : List ℕ)
    → Items (begins n) t ds rest → NoStart (begins n) rest → (close ≡ 41) ⊎ (close ≡ 93) → Items (begins n) t es (close ∷ s) → (ds ≡ es) × (rest ≡ close ∷ s)
all_items n close t ds rest es s h a b k = stops (begins n) (begins_one n) t ds rest es (close ∷ s) h a k (no_bracket n close s b)

pub too_big : (n close : ℕ) (t : List ℕ) (ds : List Datum) (rest tail : List ℕ) → Items (begins n) t ds rest → rest ≡ close ∷ tail
    → (close ≡ 41) ⊎ (close ≡ 93) → (AreFew ds → ⊥) → (d : Datum) (s : List ℕ) → IsList (begins n) close t d s → ⊥
too_big n close t ds rest tail h e b few d s k =
    let same = all_items n close t ds rest k.0 s h (subst (NoStart (begins n)) (sym e) (no_bracket n close tail b)) b k.3 in
    few (subst AreFew (sym same.0) k.2)

pub stuck : (n close : ℕ) (t : List ℕ) (ds : List Datum) (rest : List ℕ) → Items (begins n) t ds rest → NoStart (begins n) rest
    → ((s : List ℕ) → rest ≡ close ∷ s → ⊥) → (close ≡ 41) ⊎ (close ≡ 93) → (d : Datum) (s : List ℕ) → IsList (begins n) close t d s → ⊥
stuck n close t ds rest h a other b d s k = other s (all_items n close t ds rest k.0 s h a b k.3).1

pub quote_too_big : (n : ℕ) (t : List ℕ) (q : Datum) (r : List ℕ) → begins n (past_gap t) q r → (AreFew (quoted q) → ⊥)
    → (d : Datum) (s : List ℕ) → IsQuoted (begins n) t d s → ⊥
quote_too_big n t q r h few d s k =
    few (subst (λ x. AreFew (quoted x)) (sym (begins_one n (past_gap t) q k.0 r s h k.3).0) k.2)

pub data_snoc : (vs : List Value) (v : Value) → data_of (vs ++ v ∷ []) ≡ data_of vs ++ datum_of v ∷ []
data_snoc [] v = refl
data_snoc (w ∷ vs) v = ap (λ x. datum_of w ∷ x) (data_snoc vs v)

pub next_item : (n : ℕ) (t : List ℕ) (vs ws : List Value) (rest : List ℕ) (v : Value) (after new : List ℕ)
    → Items (begins n) t (data_of vs) rest → begins n rest (datum_of v) after → ws ≡ vs ++ v ∷ [] → new ≡ past_gap after → Items (begins n) t (data_of ws) new
next_item n t vs ws rest v after new h k e g =
    subst (λ x. Items (begins n) t x new) (sym (ap data_of e ∙ data_snoc vs v))
    (subst (Items (begins n) t (data_of vs ++ datum_of v ∷ [])) (sym g) (add_item (begins n) t (data_of vs) rest (datum_of v) after h k))

-- the number where nothing begins in front of the end
pub refused : (t : List ℕ) (vs : List Value) (rest : List ℕ) → Front t (data_of vs) rest → NoStart (begins data_levels) rest → (rest ≡ [] → ⊥) → (k : ℕ) → length vs + 1 ≡ k → IsRefused t k
refused t vs rest h a some k e = record {
  none = λ ds r. some (stops (begins data_levels) (begins_one data_levels) t (data_of vs) rest ds [] h a r (no_end data_levels)).1;
  before = (data_of vs, rest, h, ap (λ x. x + 1) (length_map vs) ∙ e);
  most = λ ds r f. omega (arith, longest (begins data_levels) (begins_one data_levels) t (data_of vs) rest ds r h a f, length_map vs, e);
}
  where
    length_map : (vs : List Value) → length (data_of vs) ≡ length vs
    length_map [] = refl
    length_map (v ∷ vs) = ap suc (length_map vs)

-- something is left behind the first datum
pub not_one : (t : List ℕ) (d : Datum) (r : List ℕ) → begins data_levels (past_gap t) d r → (past_gap r ≡ [] → ⊥) → (e : Datum) → ReadsOne t e → ⊥
not_one t d r h more e k =
    let same = begins_one data_levels (past_gap t) d e r k.0 h k.1 in
    more (ap past_gap same.1 ∙ sym k.2)

pub grows : (vs ws : List Value) (v : Value) → ws ≡ vs ++ v ∷ [] → length ws ≡ length vs + 1
grows vs ws v h = ap length h ∙ length-append vs (v ∷ [])

pub has_some : (xs : List ℕ) → (length xs == 0) ≡ false → xs ≡ [] → ⊥
has_some xs h e = eqb-false (length xs) 0 h (ap length e)

number_of : ReadStop → ℕ
number_of (stop.Refused k) = k
number_of (stop.Memory e) = 0

pub same_number : (k m : ℕ) → stop.Refused k ≡ stop.Refused m → k ≡ m
unfolding number_of
same_number k m h = ap number_of h
