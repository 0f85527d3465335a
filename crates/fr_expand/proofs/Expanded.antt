-- What forms are by what the passes find.
use Rattle.std.specs.Prelude.{◌≡◌, ◌+◌, ◌<◌, ◌≤◌, List, [], map, length, Option, Some, None, Result, Ok, Err, IfOk, IfErr}
use Rattle.std.proofs.Common.{refl, sym, ◌∙◌, ap, subst, arith}
use Rattle.fr_value.specs.Data.{datum_size, total}
use Rattle.fr_value.specs.declared.value.Datum.{Datum}
use Rattle.fr_core.specs.declared.program.Program.{Program}
use Rattle.fr_core.specs.Classes.{IsFit}
use Rattle.fr_core.specs.WellFormed.{IsWellFormed, count, roots}
use Rattle.fr_syntax.specs.Outlines.{Global}
use Rattle.fr_syntax.specs.Weights.{form_weight}
use Rattle.fr_syntax.specs.declared.form.Form.{Form}
use Rattle.fr_scope.specs.Meanings.{globals_in}
use Rattle.fr_expand.specs.declared.refusal.Kind.TheVariants as kind
use Rattle.fr_expand.specs.declared.refusal.Refusal.{Refusal}
use Rattle.fr_expand.specs.declared.expansion.ExpandStop.{ExpandStop}
use Rattle.fr_expand.specs.declared.expansion.ExpandStop.TheVariants.{Memory, Refused}
use Rattle.fr_expand.specs.Passes.{nothing_yet, refusal_from}
use Rattle.fr_expand.specs.Shaped.{shaped}
use Rattle.fr_expand.specs.Stops.{Decides, IsStopOf}
use Rattle.fr_expand.specs.Expansion.{IsExpansion, IsExpansionAfter, IsSecondPass, IsFirstUnfit, AreFit, forms_of, cores_from, cores_of, program_in, program_of}
use Rattle.fr_expand.proofs.Fits.{fit_program}
use Rattle.fr_expand.proofs.Sizes.{shaped_small}
use Rattle.fr_expand.proofs.Sound.{well_formed, few_counted}
use Rattle.fr_expand.proofs.Refusals.{refused_shaped, refused_form, refused_none, all_shaped}

-- a form with a shape is refused
shaped_refused : (ds : List Datum) (r : Refusal) → Some r ≡ refusal_from (globals_in ds) 1 nothing_yet (map Some (shaped ds)) → IsExpansion ds (Err r)
shaped_refused ds r h = subst (λ x. IsExpansionAfter x ds (Err r)) (sym (refused_shaped (globals_in ds) nothing_yet ds r h)) refl

-- the first form without a shape is refused
form_refused : (ds : List Datum) → None ≡ refusal_from (globals_in ds) 1 nothing_yet (map Some (shaped ds)) → length (shaped ds) < length ds
    → IsExpansion ds (Err (record { form = length (shaped ds) + 1; kind = kind.Form }))
form_refused ds h few =
    let r : Refusal = record { form = length (shaped ds) + 1; kind = kind.Form } in
    subst (λ x. IsExpansionAfter x ds (Err r)) (sym (refused_form (globals_in ds) nothing_yet ds h few)) refl

-- where the first pass refuses none, the second pass decides
second : (ds : List Datum) (v : Result Program Refusal) → None ≡ refusal_from (globals_in ds) 1 nothing_yet (map Some (shaped ds)) → length ds ≤ length (shaped ds) → IsSecondPass ds v → IsExpansion ds v
second ds v h all s = subst (λ x. IsExpansionAfter x ds v) (sym (refused_none (globals_in ds) nothing_yet ds h all)) s

program_shaped : (ds : List Datum) → forms_of ds ≡ shaped ds → program_in (globals_in ds) (shaped ds) ≡ program_of ds
unfolding program_of
program_shaped ds e = ap (program_in (globals_in ds)) (sym e)

-- what the second pass finds decides
second_decides : (ds : List Datum) (r : Result Program ExpandStop) → None ≡ refusal_from (globals_in ds) 1 nothing_yet (map Some (shaped ds)) → length ds ≤ length (shaped ds)
    → Decides (globals_in ds) (shaped ds) r → IfOk r (λ p. IsExpansion ds (Ok p)) × IfErr r (IsStopOf ds)
second_decides ds (Ok p) h all d =
    let same = all_shaped ds all in
    let fit : IsFit p = subst IsFit (sym d.0) (fit_program (globals_in ds) (shaped ds) (subst (λ q. AreFit q (cores_from (globals_in ds) [] (shaped ds))) d.0 d.1)) in
    (second ds (Ok p) h all (d.0 ∙ program_shaped ds same, fit), tt)
second_decides ds (Err (Memory e)) h all d = (tt, tt)
second_decides ds (Err (Refused r)) h all d =
    let same = all_shaped ds all in
    let first = subst (λ fs. IsFirstUnfit (program_in (globals_in ds) (shaped ds)) (cores_from (globals_in ds) [] fs) r.form) (sym same) d.1 in
    (tt, second ds (Err r) h all (d.0, subst (λ q. IsFirstUnfit q (cores_of ds) r.form) (program_shaped ds same) first))

-- what holds of global names and forms that are those of the data
of_data : (P : List Global → List Form → Type 0) (ds : List Datum) (globals : List Global) (fs : List Form) → globals ≡ globals_in ds → fs ≡ shaped ds → P globals fs → P (globals_in ds) (shaped ds)
of_data P ds globals fs g f x = subst (λ names. P names (shaped ds)) g (subst (P globals) f x)

-- the same, where the global names and the forms that have a shape were found
module _ (ds : List Datum) (globals : List Global) (fs : List Form) (g : globals ≡ globals_in ds) (f : fs ≡ shaped ds) where
  pub finds_shaped : (x : Option Refusal) (r : Refusal) → x ≡ Some r → x ≡ refusal_from globals 1 nothing_yet (map Some fs) → IsExpansion ds (Err r)
  finds_shaped x r is found = shaped_refused ds r (of_data (λ names forms. Some r ≡ refusal_from names 1 nothing_yet (map Some forms)) ds globals fs g f (sym is ∙ found))

  pub finds_form : (x : Option Refusal) (r : Refusal) → x ≡ None → x ≡ refusal_from globals 1 nothing_yet (map Some fs) → length fs < length ds
      → r ≡ record { form = length fs + 1; kind = kind.Form } → IsExpansion ds (Err r)
  finds_form x r is found few made =
      let none = of_data (λ names forms. None ≡ refusal_from names 1 nothing_yet (map Some forms)) ds globals fs g f (sym is ∙ found) in
      subst (λ y. IsExpansion ds (Err y)) (sym (made ∙ ap (λ l. record { form = length l + 1; kind = kind.Form }) f))
      (form_refused ds none (of_data (λ names forms. length forms < length ds) ds globals fs g f few))

  pub finds_second : (x : Option Refusal) (r : Result Program ExpandStop) → x ≡ None → x ≡ refusal_from globals 1 nothing_yet (map Some fs) → length ds ≤ length fs → Decides globals fs r
      → IfOk r (λ p. IsExpansion ds (Ok p)) × IfErr r (IsStopOf ds)
  finds_second x r is found all decides =
      let none = of_data (λ names forms. None ≡ refusal_from names 1 nothing_yet (map Some forms)) ds globals fs g f (sym is ∙ found) in
      second_decides ds r none (of_data (λ names forms. length ds ≤ length forms) ds globals fs g f all) (of_data (λ names forms. Decides names forms r) ds globals fs g f decides)

  pub finds_well_formed : (x : Option Refusal) (r : Result Program ExpandStop) → x ≡ None → x ≡ refusal_from globals 1 nothing_yet (map Some fs) → length ds ≤ length fs → Decides globals fs r
      → total (map datum_size ds) ≤ 8388608 → IfOk r IsWellFormed × IfOk r (λ p. total (map (λ r. count r.expr) (roots p)) < 268435456)
  finds_well_formed x (Err stop) is found all decides small = (tt, tt)
  finds_well_formed x (Ok p) is found all decides small =
      let none = of_data (λ names forms. None ≡ refusal_from names 1 nothing_yet (map Some forms)) ds globals fs g f (sym is ∙ found) in
      let whole = of_data (λ names forms. length ds ≤ length forms) ds globals fs g f all in
      let light : total (map form_weight (shaped ds)) ≤ 8388608 = omega (arith, small, shaped_small ds) in
      subst (λ q. IsWellFormed q × (total (map (λ r. count r.expr) (roots q)) < 268435456)) (sym (of_data (λ names forms. p ≡ program_in names forms) ds globals fs g f decides.0))
      (well_formed ds none whole light, few_counted ds none whole light)
