-- The test for the same structure passes exactly where two values are equal.
use Rattle.std.specs.Prelude.{ℕ, Bool, true, false, ◌≡◌, ℤ, List, [], ◌∷◌, map}
use Rattle.std.specs.Bool.{Decides}
use Rattle.std.proofs.Common.{refl, sym, ◌∙◌, ap, subst}
use Rattle.std.proofs.lemmas.Bool.{and_parts}
use Rattle.std.proofs.lemmas.Bool.Decides.{Decides-int_eq}
use Rattle.std.proofs.lemmas.Slice.Eq.{bytes_eq-Decides}
use Rattle.fr_value.specs.declared.value.Datum.{Datum, fold-roll-Datum, ind-Datum, out-Datum, out-roll-Datum, roll-Datum, roll-out-Datum}
use Rattle.fr_value.specs.declared.value.Datum.TheFolds.{map-Datum}
use Rattle.fr_value.specs.declared.value.Datum.TheOpen.{Datum-F}
use Rattle.fr_value.specs.declared.value.Value.{Value}
use Rattle.fr_value.specs.Data.{datum_of, datum_one}
use Rattle.fr_value.specs.Same.{test_each, test_bool, test_at, same_step, same_datum, is_same}
use Rattle.fr_value.proofs.Meet.{cons_same}

HasPassed : Bool → Type 0
HasPassed true = Unit {0}
HasPassed false = ⊥

failed : {A : Type 0} → false ≡ true → A
unfolding HasPassed
failed h = absurd (subst HasPassed (sym h) tt)

abbrev IsSound : Datum → Type 0
IsSound d = (e : Datum) → same_datum d e ≡ true → d ≡ e

each_sound : (ps : List ((d : Datum) × IsSound d)) (es : List Datum) → test_each (map same_datum (map (λ p. p.0) ps)) es ≡ true → map (λ p. p.0) ps ≡ es
each_sound [] [] h = refl
each_sound [] (e ∷ es) h = failed h
each_sound (p ∷ ps) [] h = failed h
each_sound (p ∷ ps) (e ∷ es) h =
    let a = and_parts (same_datum p.0 e) (test_each (map same_datum (map (λ p. p.0) ps)) es) h in
    cons_same p.0 e (map (λ p. p.0) ps) es (p.1 e a.0) (each_sound ps es a.1)

same_bool : (b c : Bool) → test_bool b c ≡ true → b ≡ c
same_bool true true h = refl
same_bool true false h = failed h
same_bool false true h = failed h
same_bool false false h = refl

sound_int : (x : ℤ) (g : Datum-F Datum) → test_at (Datum-F.Int x) g ≡ true → Datum-F.Int x ≡ g
sound_int x (Datum-F.Int y) h = ap Datum-F.Int ((Decides-int_eq x y).0 h)
sound_int x (Datum-F.Bool y) h = failed h
sound_int x (Datum-F.Sym y) h = failed h
sound_int x (Datum-F.Str y) h = failed h
sound_int x (Datum-F.Seq y) h = failed h

sound_bool : (x : Bool) (g : Datum-F Datum) → test_at (Datum-F.Bool x) g ≡ true → Datum-F.Bool x ≡ g
sound_bool x (Datum-F.Int y) h = failed h
sound_bool x (Datum-F.Bool y) h = ap Datum-F.Bool (same_bool x y h)
sound_bool x (Datum-F.Sym y) h = failed h
sound_bool x (Datum-F.Str y) h = failed h
sound_bool x (Datum-F.Seq y) h = failed h

sound_sym : (x : List ℕ) (g : Datum-F Datum) → test_at (Datum-F.Sym x) g ≡ true → Datum-F.Sym x ≡ g
sound_sym x (Datum-F.Int y) h = failed h
sound_sym x (Datum-F.Bool y) h = failed h
sound_sym x (Datum-F.Sym y) h = ap Datum-F.Sym ((bytes_eq-Decides x y).0 h)
sound_sym x (Datum-F.Str y) h = failed h
sound_sym x (Datum-F.Seq y) h = failed h

sound_str : (x : List ℕ) (g : Datum-F Datum) → test_at (Datum-F.Str x) g ≡ true → Datum-F.Str x ≡ g
sound_str x (Datum-F.Int y) h = failed h
sound_str x (Datum-F.Bool y) h = failed h
sound_str x (Datum-F.Sym y) h = failed h
sound_str x (Datum-F.Str y) h = ap Datum-F.Str ((bytes_eq-Decides x y).0 h)
sound_str x (Datum-F.Seq y) h = failed h

sound_seq : (ps : List ((d : Datum) × IsSound d)) (g : Datum-F Datum) → test_at (Datum-F.Seq (map same_datum (map (λ p. p.0) ps))) g ≡ true → Datum-F.Seq (map (λ p. p.0) ps) ≡ g
sound_seq ps (Datum-F.Int y) h = failed h
sound_seq ps (Datum-F.Bool y) h = failed h
sound_seq ps (Datum-F.Sym y) h = failed h
sound_seq ps (Datum-F.Str y) h = failed h
sound_seq ps (Datum-F.Seq y) h = ap Datum-F.Seq (each_sound ps y h)

opens_int : (x : ℤ) (e : Datum) → same_datum (roll-Datum (Datum-F.Int x)) e ≡ test_at (Datum-F.Int x) (out-Datum e)
unfolding same_datum
opens_int x e = ap (λ f. f e) (fold-roll-Datum (Datum → Bool) same_step (Datum-F.Int x))

opens_bool : (x : Bool) (e : Datum) → same_datum (roll-Datum (Datum-F.Bool x)) e ≡ test_at (Datum-F.Bool x) (out-Datum e)
unfolding same_datum
opens_bool x e = ap (λ f. f e) (fold-roll-Datum (Datum → Bool) same_step (Datum-F.Bool x))

opens_sym : (x : List ℕ) (e : Datum) → same_datum (roll-Datum (Datum-F.Sym x)) e ≡ test_at (Datum-F.Sym x) (out-Datum e)
unfolding same_datum
opens_sym x e = ap (λ f. f e) (fold-roll-Datum (Datum → Bool) same_step (Datum-F.Sym x))

opens_str : (x : List ℕ) (e : Datum) → same_datum (roll-Datum (Datum-F.Str x)) e ≡ test_at (Datum-F.Str x) (out-Datum e)
unfolding same_datum
opens_str x e = ap (λ f. f e) (fold-roll-Datum (Datum → Bool) same_step (Datum-F.Str x))

opens_seq : (ds : List Datum) (e : Datum) → same_datum (roll-Datum (Datum-F.Seq ds)) e ≡ test_at (Datum-F.Seq (map same_datum ds)) (out-Datum e)
unfolding same_datum
opens_seq ds e = ap (λ f. f e) (fold-roll-Datum (Datum → Bool) same_step (Datum-F.Seq ds))

closed : (f : Datum-F Datum) (e : Datum) → f ≡ out-Datum e → roll-Datum f ≡ e
closed f e h = ap roll-Datum h ∙ roll-out-Datum e

sound : (d : Datum) → IsSound d
sound = ind-Datum IsSound (λ x y is. elim y as (λ y. map-Datum _ Datum (λ e. e.0) y ≡ x → IsSound (roll-Datum x)) [
  | Datum-F.Int n ↦ λ is. subst (λ x. IsSound (roll-Datum x)) is (λ e h. closed (Datum-F.Int n) e (sound_int n (out-Datum e) (sym (opens_int n e) ∙ h)))
  | Datum-F.Bool n ↦ λ is. subst (λ x. IsSound (roll-Datum x)) is (λ e h. closed (Datum-F.Bool n) e (sound_bool n (out-Datum e) (sym (opens_bool n e) ∙ h)))
  | Datum-F.Sym n ↦ λ is. subst (λ x. IsSound (roll-Datum x)) is (λ e h. closed (Datum-F.Sym n) e (sound_sym n (out-Datum e) (sym (opens_sym n e) ∙ h)))
  | Datum-F.Str n ↦ λ is. subst (λ x. IsSound (roll-Datum x)) is (λ e h. closed (Datum-F.Str n) e (sound_str n (out-Datum e) (sym (opens_str n e) ∙ h)))
  | Datum-F.Seq ps ↦ λ is. subst (λ x. IsSound (roll-Datum x)) is (λ e h. closed (Datum-F.Seq (map (λ p. p.0) ps)) e (sound_seq ps (out-Datum e) (sym (opens_seq (map (λ p. p.0) ps) e) ∙ h)))
] is)

abbrev Reflects : Datum → Type 0
Reflects d = same_datum d d ≡ true

each_reflects : (ps : List ((d : Datum) × Reflects d)) → test_each (map same_datum (map (λ p. p.0) ps)) (map (λ p. p.0) ps) ≡ true
each_reflects [] = refl
each_reflects (p ∷ ps) = rw (p.1, each_reflects ps) refl

bool_reflects : (b : Bool) → test_bool b b ≡ true
bool_reflects true = refl
bool_reflects false = refl

at_itself : (f : Datum-F Datum) (g : Datum-F (Datum → Bool)) → same_datum (roll-Datum f) (roll-Datum f) ≡ test_at g (out-Datum (roll-Datum f)) → test_at g f ≡ true → Reflects (roll-Datum f)
at_itself f g h k = h ∙ ap (test_at g) (out-roll-Datum f) ∙ k

reflects : (d : Datum) → Reflects d
reflects = ind-Datum Reflects (λ x y is. elim y as (λ y. map-Datum _ Datum (λ e. e.0) y ≡ x → Reflects (roll-Datum x)) [
  | Datum-F.Int n ↦ λ is. subst (λ x. Reflects (roll-Datum x)) is (at_itself (Datum-F.Int n) (Datum-F.Int n) (opens_int n (roll-Datum (Datum-F.Int n))) ((Decides-int_eq n n).1 refl))
  | Datum-F.Bool n ↦ λ is. subst (λ x. Reflects (roll-Datum x)) is (at_itself (Datum-F.Bool n) (Datum-F.Bool n) (opens_bool n (roll-Datum (Datum-F.Bool n))) (bool_reflects n))
  | Datum-F.Sym n ↦ λ is. subst (λ x. Reflects (roll-Datum x)) is (at_itself (Datum-F.Sym n) (Datum-F.Sym n) (opens_sym n (roll-Datum (Datum-F.Sym n))) ((bytes_eq-Decides n n).1 refl))
  | Datum-F.Str n ↦ λ is. subst (λ x. Reflects (roll-Datum x)) is (at_itself (Datum-F.Str n) (Datum-F.Str n) (opens_str n (roll-Datum (Datum-F.Str n))) ((bytes_eq-Decides n n).1 refl))
  | Datum-F.Seq ps ↦ λ is. subst (λ x. Reflects (roll-Datum x)) is (let ds = map (λ p. p.0) ps in at_itself (Datum-F.Seq ds) (Datum-F.Seq (map same_datum ds)) (opens_seq ds (roll-Datum (Datum-F.Seq ds))) (each_reflects ps))
] is)

-- the test passes exactly where the values are equal
pub is_same-Decides : (v w : Value) → Decides (is_same v w) (v ≡ w)
unfolding is_same
is_same-Decides v w = ((λ h. datum_one v w (sound (datum_of v) (datum_of w) h)), (λ e. subst (λ x. same_datum (datum_of v) (datum_of x) ≡ true) e (reflects (datum_of v))))
