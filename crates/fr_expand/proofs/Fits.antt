-- The expressions of a program and those of its forms.
use Rattle.std.specs.Prelude.{ℕ, zero, suc, ◌≡◌, ◌+◌, List, [], ◌∷◌, ◌++◌, map, length, slice_get, Option, Some, None}
use Rattle.std.proofs.Common.{refl, subst}
use Rattle.fr_core.specs.declared.core_form.Core.{Core}
use Rattle.fr_core.specs.declared.program.Function.{Function}
use Rattle.fr_core.specs.declared.program.Program.{Program}
use Rattle.fr_core.specs.Classes.{IsFit, IsFitExpr}
use Rattle.fr_core.specs.WellFormed.{Root, item_roots}
use Rattle.fr_syntax.specs.Outlines.{Global}
use Rattle.fr_syntax.specs.declared.form.Form.{Form}
use Rattle.fr_syntax.specs.declared.form.Form.TheVariants as form
use Rattle.fr_expand.specs.Faults.{named}
use Rattle.fr_expand.specs.Translation.{core_of}
use Rattle.fr_expand.specs.Expansion.{functions_in, items_from, cores_from, program_in, AreFit, IsFitForm}

-- each of these expressions is fit
abbrev Each : Program → List Root → Type 0
Each p rs = (i : ℕ) (r : Root) → slice_get rs i ≡ Some r → IsFitExpr p r.expr

some_same : {A : Type 0} (x y : A) → Some x ≡ Some y → x ≡ y
some_same x y h = cc

none_some : {A B : Type 0} (x : A) → None ≡ Some x → B
none_some x h = absurd (cc)

each_none : (p : Program) → Each p []
each_none p i r h = none_some r h

-- one more is fit
each_more : (p : Program) (n : ℕ) (e : Core) (rs : List Root) → IsFitExpr p e → Each p rs → Each p (record { variables = n; expr = e } ∷ rs)
each_more p n e rs fit f zero r h = subst (λ s. IsFitExpr p s.expr) (some_same (record { variables = n; expr = e }) r h) fit
each_more p n e rs fit f (suc i) r h = f i r h

each_append : (p : Program) (rs ss : List Root) → Each p rs → Each p ss → Each p (rs ++ ss)
each_append p [] ss f g = g
each_append p (x ∷ rs) ss f g = each_more p x.variables x.expr (rs ++ ss) (f zero x refl) (each_append p rs ss (λ j s k. f (suc j) s k) g)

each_left : (p : Program) (rs ss : List Root) → Each p (rs ++ ss) → Each p rs
each_left p [] ss f = each_none p
each_left p (x ∷ rs) ss f = each_more p x.variables x.expr rs (f zero x refl) (each_left p rs ss (λ j s k. f (suc j) s k))

each_right : (p : Program) (rs ss : List Root) → Each p (rs ++ ss) → Each p ss
each_right p [] ss f = f
each_right p (x ∷ rs) ss f = each_right p rs ss (λ j s k. f (suc j) s k)

abbrev bodies : List Function → List Root
bodies fs = map (λ f. record { variables = f.params; expr = f.body }) fs

-- the functions of fit forms are fit
fit_bodies : (p : Program) (globals : List Global) (values : List (List ℕ)) (fs : List Form) → AreFit p (cores_from globals values fs) → Each p (bodies (functions_in globals fs))
fit_bodies p globals values [] fits = each_none p
fit_bodies p globals values (form.Function name params body ∷ fs) fits =
    each_more p (length params) (core_of globals body (named params)) (bodies (functions_in globals fs)) (fits zero (Some (core_of globals body (named params))) refl)
    (fit_bodies p globals values fs (λ i c h. fits (suc i) c h))
fit_bodies p globals values (form.Define name e ∷ fs) fits = fit_bodies p globals (values ++ name ∷ []) fs (λ i c h. fits (suc i) c h)
fit_bodies p globals values (form.Show name e ∷ fs) fits = fit_bodies p globals values fs (λ i c h. fits (suc i) c h)
fit_bodies p globals values (form.Input name v ∷ fs) fits = fit_bodies p globals values fs (λ i c h. fits (suc i) c h)
fit_bodies p globals values (form.Event name ∷ fs) fits = fit_bodies p globals values fs (λ i c h. fits (suc i) c h)

-- the items of fit forms are fit
fit_items : (p : Program) (globals : List Global) (values : List (List ℕ)) (n : ℕ) (fs : List Form) → AreFit p (cores_from globals values fs) → Each p (item_roots n (items_from globals values fs))
fit_items p globals values n [] fits = each_none p
fit_items p globals values n (form.Function name params body ∷ fs) fits = fit_items p globals values n fs (λ i c h. fits (suc i) c h)
fit_items p globals values n (form.Define name e ∷ fs) fits =
    each_more p n (core_of globals e (named values)) (item_roots (n + 1) (items_from globals (values ++ name ∷ []) fs)) (fits zero (Some (core_of globals e (named values))) refl)
    (fit_items p globals (values ++ name ∷ []) (n + 1) fs (λ i c h. fits (suc i) c h))
fit_items p globals values n (form.Show name e ∷ fs) fits =
    each_more p n (core_of globals e (named values)) (item_roots n (items_from globals values fs)) (fits zero (Some (core_of globals e (named values))) refl)
    (fit_items p globals values n fs (λ i c h. fits (suc i) c h))
fit_items p globals values n (form.Input name v ∷ fs) fits = fit_items p globals values n fs (λ i c h. fits (suc i) c h)
fit_items p globals values n (form.Event name ∷ fs) fits = fit_items p globals values n fs (λ i c h. fits (suc i) c h)

-- the program of fit forms is fit
pub fit_program : (globals : List Global) (fs : List Form) → AreFit (program_in globals fs) (cores_from globals [] fs) → IsFit (program_in globals fs)
fit_program globals fs fits =
    let p = program_in globals fs in
    record { each = each_append p (bodies p.functions) (item_roots 0 p.body) (fit_bodies p globals [] fs fits) (fit_items p globals [] 0 fs fits) }

are_none : (p : Program) → AreFit p []
are_none p i c h = none_some c h

-- one more form is fit
are_more : (p : Program) (x : Option Core) (cs : List (Option Core)) → IsFitForm p x → AreFit p cs → AreFit p (x ∷ cs)
are_more p x cs fit f zero c h = subst (IsFitForm p) (some_same x c h) fit
are_more p x cs fit f (suc i) c h = f i c h

-- the forms of fit functions and items are fit
fit_forms : (p : Program) (globals : List Global) (values : List (List ℕ)) (n : ℕ) (fs : List Form) → Each p (bodies (functions_in globals fs)) → Each p (item_roots n (items_from globals values fs))
    → AreFit p (cores_from globals values fs)
fit_forms p globals values n [] f g = are_none p
fit_forms p globals values n (form.Function name params body ∷ fs) f g =
    are_more p (Some (core_of globals body (named params))) (cores_from globals values fs) (f zero (record { variables = length params; expr = core_of globals body (named params) }) refl)
    (fit_forms p globals values n fs (λ i r h. f (suc i) r h) g)
fit_forms p globals values n (form.Define name e ∷ fs) f g =
    are_more p (Some (core_of globals e (named values))) (cores_from globals (values ++ name ∷ []) fs) (g zero (record { variables = n; expr = core_of globals e (named values) }) refl)
    (fit_forms p globals (values ++ name ∷ []) (n + 1) fs f (λ i r h. g (suc i) r h))
fit_forms p globals values n (form.Show name e ∷ fs) f g =
    are_more p (Some (core_of globals e (named values))) (cores_from globals values fs) (g zero (record { variables = n; expr = core_of globals e (named values) }) refl)
    (fit_forms p globals values n fs f (λ i r h. g (suc i) r h))
fit_forms p globals values n (form.Input name v ∷ fs) f g = are_more p None (cores_from globals values fs) tt (fit_forms p globals values n fs f g)
fit_forms p globals values n (form.Event name ∷ fs) f g = are_more p None (cores_from globals values fs) tt (fit_forms p globals values n fs f g)

-- the forms of a fit program are fit
pub fit_cores : (globals : List Global) (fs : List Form) → IsFit (program_in globals fs) → AreFit (program_in globals fs) (cores_from globals [] fs)
fit_cores globals fs fit =
    let p = program_in globals fs in
    fit_forms p globals [] 0 fs (each_left p (bodies p.functions) (item_roots 0 p.body) fit.each) (each_right p (bodies p.functions) (item_roots 0 p.body) fit.each)
