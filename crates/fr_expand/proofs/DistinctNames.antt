-- No two sources of a program have one name.
use Rattle.std.specs.Prelude.{ℕ, ◌≡◌, ◌+◌, ◌||◌, Bool, true, false, List, [], ◌∷◌, ◌++◌, map}
use Rattle.std.specs.List.{Contains}
use Rattle.std.specs.Str.{bytes_eq}
use Rattle.std.proofs.Common.{refl, sym, ap, ◌∙◌, inl, inr, subst, true≢false}
use Rattle.std.proofs.lemmas.Cmp.{nat_list_eq_equiv}
use Rattle.fr_core.specs.WellFormed.{AreDistinct}
use Rattle.fr_syntax.specs.Outlines.{Global}
use Rattle.fr_syntax.specs.declared.form.Form.{Form}
use Rattle.fr_syntax.specs.declared.form.Form.TheVariants as form
use Rattle.fr_expand.specs.Expansion.{inputs_from, events_from}
use Rattle.fr_expand.specs.Faults.{is_among}
use Rattle.fr_expand.specs.Passes.{Earlier, behind}
use Rattle.fr_expand.specs.Shaped.{is_taken}
use Rattle.fr_expand.proofs.Fresh.{or_false, fresh_twice}
use Rattle.fr_expand.proofs.Members.{nowhere, first_or_later, distinct_append}
use Rattle.fr_expand.proofs.Passed.{Passed, AllPassed}

abbrev inputs : ℕ → List Form → List (List ℕ)
inputs n fs = map (λ i. i.name) (inputs_from n fs)

abbrev events : ℕ → List Form → List (List ℕ)
events n fs = map (λ e. e.name) (events_from n fs)

among_front : (x y : List ℕ) (ns : List (List ℕ)) → is_among x (ns ++ y ∷ []) ≡ false → is_among x ns ≡ false
among_front x y [] h = refl
among_front x y (n ∷ ns) h =
    let both = or_false (bytes_eq n x) (is_among x (ns ++ y ∷ [])) h in
    ap (λ b. b || is_among x ns) both.0 ∙ among_front x y ns both.1

or_right : (a : Bool) → (a || true) ≡ true
or_right true = refl
or_right false = refl

among_last : (x : List ℕ) (ns : List (List ℕ)) → is_among x (ns ++ x ∷ []) ≡ true
among_last x [] = ap (λ b. b || false) (nat_list_eq_equiv.refl x)
among_last x (n ∷ ns) = ap (λ b. bytes_eq n x || b) (among_last x ns) ∙ or_right (bytes_eq n x)

-- the name of a form that passes is a new one
new_name : (g : List Global) (e : Earlier) (f : Form) → Passed g e f → is_taken e f ≡ false
new_name g e f p = fresh_twice g e f (ap (λ x. x.twice) p.faultless)

-- an input that comes later has no earlier name
input_new : (g : List Global) (e : Earlier) (n : ℕ) (fs : List Form) (x : List ℕ) → AllPassed g e fs → Contains (inputs n fs) x → is_among x e.defined ≡ false
input_new g e n [] x p c = absurd (nowhere x c)
input_new g e n (form.Input name v ∷ fs) x p c =
    elim (first_or_later x name (inputs (n + 1) fs) c) [
      | inl s ↦ subst (λ y. is_among y e.defined ≡ false) s (new_name g e (form.Input name v) p.0)
      | inr l ↦ among_front x name e.defined (input_new g (behind e (form.Input name v)) (n + 1) fs x p.1 l)
    ]
input_new g e n (form.Event name ∷ fs) x p c = among_front x name e.defined (input_new g (behind e (form.Event name)) (n + 1) fs x p.1 c)
input_new g e n (form.Function name params body ∷ fs) x p c = among_front x name e.defined (input_new g (behind e (form.Function name params body)) n fs x p.1 c)
input_new g e n (form.Define name y ∷ fs) x p c = among_front x name e.defined (input_new g (behind e (form.Define name y)) n fs x p.1 c)
input_new g e n (form.Show name y ∷ fs) x p c = input_new g (behind e (form.Show name y)) n fs x p.1 c

-- nor has an event
event_new : (g : List Global) (e : Earlier) (n : ℕ) (fs : List Form) (x : List ℕ) → AllPassed g e fs → Contains (events n fs) x → is_among x e.defined ≡ false
event_new g e n [] x p c = absurd (nowhere x c)
event_new g e n (form.Event name ∷ fs) x p c =
    elim (first_or_later x name (events (n + 1) fs) c) [
      | inl s ↦ subst (λ y. is_among y e.defined ≡ false) s (new_name g e (form.Event name) p.0)
      | inr l ↦ among_front x name e.defined (event_new g (behind e (form.Event name)) (n + 1) fs x p.1 l)
    ]
event_new g e n (form.Input name v ∷ fs) x p c = among_front x name e.defined (event_new g (behind e (form.Input name v)) (n + 1) fs x p.1 c)
event_new g e n (form.Function name params body ∷ fs) x p c = among_front x name e.defined (event_new g (behind e (form.Function name params body)) n fs x p.1 c)
event_new g e n (form.Define name y ∷ fs) x p c = among_front x name e.defined (event_new g (behind e (form.Define name y)) n fs x p.1 c)
event_new g e n (form.Show name y ∷ fs) x p c = event_new g (behind e (form.Show name y)) n fs x p.1 c

inputs_distinct : (g : List Global) (e : Earlier) (n : ℕ) (fs : List Form) → AllPassed g e fs → AreDistinct (inputs n fs)
inputs_distinct g e n [] p = tt
inputs_distinct g e n (form.Input name v ∷ fs) p =
    (λ c. true≢false (sym (among_last name e.defined) ∙ input_new g (behind e (form.Input name v)) (n + 1) fs name p.1 c), inputs_distinct g (behind e (form.Input name v)) (n + 1) fs p.1)
inputs_distinct g e n (form.Event name ∷ fs) p = inputs_distinct g (behind e (form.Event name)) (n + 1) fs p.1
inputs_distinct g e n (form.Function name params body ∷ fs) p = inputs_distinct g (behind e (form.Function name params body)) n fs p.1
inputs_distinct g e n (form.Define name y ∷ fs) p = inputs_distinct g (behind e (form.Define name y)) n fs p.1
inputs_distinct g e n (form.Show name y ∷ fs) p = inputs_distinct g (behind e (form.Show name y)) n fs p.1

events_distinct : (g : List Global) (e : Earlier) (n : ℕ) (fs : List Form) → AllPassed g e fs → AreDistinct (events n fs)
events_distinct g e n [] p = tt
events_distinct g e n (form.Event name ∷ fs) p =
    (λ c. true≢false (sym (among_last name e.defined) ∙ event_new g (behind e (form.Event name)) (n + 1) fs name p.1 c), events_distinct g (behind e (form.Event name)) (n + 1) fs p.1)
events_distinct g e n (form.Input name v ∷ fs) p = events_distinct g (behind e (form.Input name v)) (n + 1) fs p.1
events_distinct g e n (form.Function name params body ∷ fs) p = events_distinct g (behind e (form.Function name params body)) n fs p.1
events_distinct g e n (form.Define name y ∷ fs) p = events_distinct g (behind e (form.Define name y)) n fs p.1
events_distinct g e n (form.Show name y ∷ fs) p = events_distinct g (behind e (form.Show name y)) n fs p.1

sources_apart : (g : List Global) (e : Earlier) (n : ℕ) (fs : List Form) → AllPassed g e fs → (x : List ℕ) → Contains (inputs n fs) x → Contains (events n fs) x → ⊥
sources_apart g e n [] p x c d = nowhere x c
sources_apart g e n (form.Input name v ∷ fs) p x c d =
    elim (first_or_later x name (inputs (n + 1) fs) c) [
      | inl s ↦ true≢false (sym (among_last name e.defined) ∙ event_new g (behind e (form.Input name v)) (n + 1) fs name p.1 (subst (Contains (events (n + 1) fs)) (sym s) d))
      | inr l ↦ sources_apart g (behind e (form.Input name v)) (n + 1) fs p.1 x l d
    ]
sources_apart g e n (form.Event name ∷ fs) p x c d =
    elim (first_or_later x name (events (n + 1) fs) d) [
      | inl s ↦ true≢false (sym (among_last name e.defined) ∙ input_new g (behind e (form.Event name)) (n + 1) fs name p.1 (subst (Contains (inputs (n + 1) fs)) (sym s) c))
      | inr l ↦ sources_apart g (behind e (form.Event name)) (n + 1) fs p.1 x c l
    ]
sources_apart g e n (form.Function name params body ∷ fs) p x c d = sources_apart g (behind e (form.Function name params body)) n fs p.1 x c d
sources_apart g e n (form.Define name y ∷ fs) p x c d = sources_apart g (behind e (form.Define name y)) n fs p.1 x c d
sources_apart g e n (form.Show name y ∷ fs) p x c d = sources_apart g (behind e (form.Show name y)) n fs p.1 x c d

-- the names of inputs and events are distinct
pub names_distinct : (g : List Global) (e : Earlier) (n : ℕ) (fs : List Form) → AllPassed g e fs
    → AreDistinct (map (λ i. i.name) (inputs_from n fs) ++ map (λ v. v.name) (events_from n fs))
names_distinct g e n fs p = distinct_append (inputs n fs) (events n fs) (inputs_distinct g e n fs p) (events_distinct g e n fs p) (sources_apart g e n fs p)
