-- The first pass over forms that have a shape, and over all forms.
use Rattle.std.specs.Prelude.{ℕ, suc, ◌≡◌, ◌+◌, ◌<◌, ◌≤◌, List, [], ◌∷◌, ◌++◌, map, length, Option, Some, None}
use Rattle.std.proofs.Common.{refl, sym, ◌∙◌, ap, arith}
use Rattle.std.specs.Option.{option_or, option_to_list}
use Rattle.fr_value.specs.declared.value.Datum.{Datum}
use Rattle.fr_syntax.specs.Outlines.{Global}
use Rattle.fr_syntax.specs.Shapes.{form_of}
use Rattle.fr_syntax.specs.declared.form.Form.{Form}
use Rattle.fr_expand.specs.declared.refusal.Kind.{Kind}
use Rattle.fr_expand.specs.declared.refusal.Kind.TheVariants as kind
use Rattle.fr_expand.specs.declared.refusal.Refusal.{Refusal}
use Rattle.fr_expand.specs.Passes.{Earlier, behind, form_kind, refused_or, refusal_from}
use Rattle.fr_expand.specs.Shaped.{and_behind, shaped}
use Rattle.fr_expand.specs.Expansion.{forms_of}

-- the refusal of the first form that has no shape, where these have one before it
abbrev unshaped : ℕ → List Datum → List Form → Option Refusal
unshaped n [] fs = None
unshaped n (d ∷ ds) [] = Some (record { form = n; kind = kind.Form })
unshaped n (d ∷ ds) (f ∷ fs) = unshaped (n + 1) ds fs

refused_before : (n : ℕ) (k : Option Kind) (r s t : Option Refusal) → r ≡ option_or s t → refused_or n k r ≡ option_or (refused_or n k s) t
refused_before n None r s t h = h
refused_before n (Some k) r s t h = refl

-- a refusal is that of a form with a shape, or else that of the first form without one
refusal_split : (globals : List Global) (n : ℕ) (e : Earlier) (ds : List Datum) → refusal_from globals n e (map form_of ds) ≡ option_or (refusal_from globals n e (map Some (shaped ds))) (unshaped n ds (shaped ds))
refusal_split globals n e [] = refl
refusal_split globals n e (d ∷ ds) =
    elim (form_of d) as (λ x. refusal_from globals n e (x ∷ map form_of ds) ≡ option_or (refusal_from globals n e (map Some (and_behind x (shaped ds)))) (unshaped n (d ∷ ds) (and_behind x (shaped ds)))) [
      | None ↦ refl
      | Some f ↦ refused_before n (form_kind globals e f) _ _ _ (refusal_split globals (n + 1) (behind e f) ds)
    ]

unshaped_at : (n : ℕ) (ds : List Datum) (fs : List Form) → length fs < length ds → unshaped n ds fs ≡ Some (record { form = n + length fs; kind = kind.Form })
unshaped_at n [] fs h = absurd (omega (arith, h))
unshaped_at n (d ∷ ds) [] h = let same : n ≡ n + 0 = omega arith in ap (λ m. Some (record { form = m; kind = kind.Form })) same
unshaped_at n (d ∷ ds) (f ∷ fs) h =
    let same : (n + 1) + length fs ≡ n + suc (length fs) = omega arith in
    unshaped_at (n + 1) ds fs (omega (arith, h)) ∙ ap (λ m. Some (record { form = m; kind = kind.Form })) same

unshaped_none : (n : ℕ) (ds : List Datum) (fs : List Form) → length ds ≤ length fs → unshaped n ds fs ≡ None
unshaped_none n [] fs h = refl
unshaped_none n (d ∷ ds) [] h = absurd (omega (arith, h))
unshaped_none n (d ∷ ds) (f ∷ fs) h = unshaped_none (n + 1) ds fs (omega (arith, h))

-- a form with a shape is refused
pub refused_shaped : (globals : List Global) (e : Earlier) (ds : List Datum) (r : Refusal) → Some r ≡ refusal_from globals 1 e (map Some (shaped ds)) → refusal_from globals 1 e (map form_of ds) ≡ Some r
refused_shaped globals e ds r h = refusal_split globals 1 e ds ∙ ap (λ x. option_or x (unshaped 1 ds (shaped ds))) (sym h)

-- no form with a shape is refused, and one has none
pub refused_form : (globals : List Global) (e : Earlier) (ds : List Datum) → None ≡ refusal_from globals 1 e (map Some (shaped ds)) → length (shaped ds) < length ds
    → refusal_from globals 1 e (map form_of ds) ≡ Some (record { form = length (shaped ds) + 1; kind = kind.Form })
refused_form globals e ds h few =
    let same : 1 + length (shaped ds) ≡ length (shaped ds) + 1 = omega arith in
    refusal_split globals 1 e ds ∙ ap (λ x. option_or x (unshaped 1 ds (shaped ds))) (sym h) ∙ unshaped_at 1 ds (shaped ds) few ∙ ap (λ m. Some (record { form = m; kind = kind.Form })) same

-- no form is refused
pub refused_none : (globals : List Global) (e : Earlier) (ds : List Datum) → None ≡ refusal_from globals 1 e (map Some (shaped ds)) → length ds ≤ length (shaped ds) → refusal_from globals 1 e (map form_of ds) ≡ None
refused_none globals e ds h all = refusal_split globals 1 e ds ∙ ap (λ x. option_or x (unshaped 1 ds (shaped ds))) (sym h) ∙ unshaped_none 1 ds (shaped ds) all

forms_behind : (x : Option Form) (n : ℕ) (fs gs : List Form) → suc n ≤ length (and_behind x gs) → (n ≤ length gs → fs ≡ gs) → option_to_list x ++ fs ≡ and_behind x gs
forms_behind None n fs gs h k = absurd (omega (arith, h))
forms_behind (Some f) n fs gs h k = ap (λ l. f ∷ l) (k (omega (arith, h)))

-- where all forms have a shape they are those before the first that has none
pub all_shaped : (ds : List Datum) → length ds ≤ length (shaped ds) → forms_of ds ≡ shaped ds
all_shaped [] h = refl
all_shaped (d ∷ ds) h = forms_behind (form_of d) (length ds) (forms_of ds) (shaped ds) h (all_shaped ds)
