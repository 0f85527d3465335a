-- The expressions of the program that forms are which the first pass doesn't refuse.
use Rattle.std.specs.Prelude.{ℕ, ◌≡◌, ◌+◌, ◌*◌, ◌≤◌, true, List, [], ◌∷◌, ◌++◌, map, length, Some}
use Rattle.std.proofs.Common.{refl, ap, ◌∙◌, arith, subst, length-append}
use Rattle.std.proofs.lemmas.List.{length-map}
use Rattle.fr_value.specs.Data.{greatest, total}
use Rattle.fr_core.specs.declared.core_form.Core.{Core}
use Rattle.fr_core.specs.declared.program.Function.{Function}
use Rattle.fr_core.specs.WellFormed.{Root, roots, item_roots, are_scoped, are_formed, nesting, longest, widest, count}
use Rattle.fr_syntax.specs.declared.expr.Expr.{Expr}
use Rattle.fr_syntax.specs.declared.form.Form.{Form}
use Rattle.fr_syntax.specs.declared.form.Form.TheVariants as form
use Rattle.fr_syntax.specs.Outlines.{Global}
use Rattle.fr_syntax.specs.Weights.{weight, form_weight}
use Rattle.fr_scope.specs.Meanings.{Binder, meaning_of}
use Rattle.fr_expand.specs.declared.faults.Faults.{Faults}
use Rattle.fr_expand.specs.Expansion.{functions_in, items_from, program_in}
use Rattle.fr_expand.specs.Faults.{clean, with, named, faults, binding_faults}
use Rattle.fr_expand.specs.Passes.{Earlier, behind, definition_faults, show_faults, nothing_yet}
use Rattle.fr_expand.specs.Translation.{core_of}
use Rattle.fr_expand.proofs.Bound.{IsThere}
use Rattle.fr_expand.proofs.Passed.{AllPassed, OfForms}
use Rattle.fr_expand.proofs.Translated.{IsClear, Translates, both_clear}
use Rattle.fr_expand.proofs.Within.{Within, both_true}

-- these are in scope, formed and not too deep; they have at most m expressions together, their lists at most w entries, and at most v variables are in scope in them
pub record Rooted (functions sources m w v : ℕ) (rs : List Root) : Type 0 where
  pub scoped : are_scoped functions sources rs ≡ true
  pub formed : are_formed rs ≡ true
  pub shallow : greatest (map (λ r. nesting r.expr) rs) ≤ 500
  pub few : total (map (λ r. count r.expr) rs) ≤ m
  pub short : greatest (map (λ r. longest r.expr) rs) ≤ w
  pub narrow : greatest (map (λ r. r.variables + widest r.expr) rs) ≤ v

abbrev bodies : List Function → List Root
bodies fs = map (λ f. record { variables = f.params; expr = f.body }) fs

clear_clean : {f : Faults} → f ≡ clean → IsClear f
clear_clean h = (ap (λ x. x.name) h, ap (λ x. x.unbound) h)

module _ {functions sources w v : ℕ} where
  no_root : {m : ℕ} → Rooted functions sources m w v []
  no_root = record { scoped = refl; formed = refl; shallow = omega arith; few = omega arith; short = omega arith; narrow = omega arith }

  one_root : {n e m o : ℕ} {c : Core} {rs : List Root} → Within functions sources n (5 * e) e c → nesting c ≤ 500 → Rooted functions sources m w v rs → e ≤ w → n + e ≤ v → 5 * e + m ≤ o
      → Rooted functions sources o w v (record { variables = n; expr = c } ∷ rs)
  one_root h d k l q p = record {
    scoped = both_true _ _ h.scoped k.scoped;
    formed = both_true _ _ h.formed k.formed;
    shallow = omega (arith, d, k.shallow);
    few = omega (arith, h.few, k.few, p);
    short = omega (arith, h.short, k.short, l);
    narrow = omega (arith, h.narrow, k.narrow, q);
  }

  more_roots : {m o : ℕ} {rs : List Root} → Rooted functions sources m w v rs → m ≤ o → Rooted functions sources o w v rs
  more_roots h l = record { scoped = h.scoped; formed = h.formed; shallow = h.shallow; few = omega (arith, h.few, l); short = h.short; narrow = h.narrow }

module _ (g : List Global) (functions sources : ℕ) (there : (s : List Binder) (name : List ℕ) → IsThere functions sources (length s) (meaning_of g s name)) (w v : ℕ) where
  abbrev AllTranslate : List Form → Type 0
  AllTranslate fs = OfForms (Translates g functions sources there) fs

  -- an expression whose names have no fault, under these variables alone
  within : (e : Expr) (names : List (List ℕ)) (n : ℕ) → length names ≡ n → Translates g functions sources there e → IsClear (faults g e (named names))
      → Within functions sources n (5 * weight e) (weight e) (core_of g e (named names))
  within e names n same h clear =
      subst (λ x. Within functions sources x (5 * weight e) (weight e) (core_of g e (named names))) (length-map names Some ∙ same) (h (named names) (named names) refl clear)

  -- the functions, before others
  of_functions : (e : Earlier) (fs : List Form) (m : ℕ) (rs : List Root) → AllPassed g e fs → AllTranslate fs → total (map form_weight fs) ≤ w → w ≤ v → Rooted functions sources m w v rs
      → Rooted functions sources (5 * total (map form_weight fs) + m) w v (bodies (functions_in g fs) ++ rs)
  of_functions e [] m rs p h small l k = more_roots k (omega arith)
  of_functions e (form.Function name params body ∷ fs) m rs p h small l k =
      let inside = faults g body (named params) in
      let clear = (both_clear (binding_faults params) inside (both_clear (definition_faults e name) (with (binding_faults params) inside) (clear_clean p.0.faultless)).1).1 in
      one_root (within body params (length params) refl h.0 clear) p.0.shallow (of_functions (behind e (form.Function name params body)) fs m rs p.1 h.1 (omega (arith, small)) l k)
      (omega (arith, small)) (omega (arith, small, l)) (omega arith)
  of_functions e (f ∷ fs) m rs p h small l k = more_roots (of_functions (behind e f) fs m rs p.1 h.1 (omega (arith, small)) l k) (omega arith)

  of_items : (e : Earlier) (n : ℕ) (fs : List Form) → length e.values ≡ n → AllPassed g e fs → AllTranslate fs → total (map form_weight fs) ≤ w → n + total (map form_weight fs) ≤ v
      → Rooted functions sources (5 * total (map form_weight fs)) w v (item_roots n (items_from g e.values fs))
  of_items e n [] same p h small l = no_root
  of_items e n (form.Define name x ∷ fs) same p h small l =
      let clear = (both_clear (definition_faults e name) (faults g x (named e.values)) (clear_clean p.0.faultless)).1 in
      let longer : length (e.values ++ name ∷ []) ≡ n + 1 = length-append e.values (name ∷ []) ∙ ap (λ y. y + 1) same in
      one_root (within x e.values n same h.0 clear) p.0.shallow (of_items (behind e (form.Define name x)) (n + 1) fs longer p.1 h.1 (omega (arith, small)) (omega (arith, l)))
      (omega (arith, small)) (omega (arith, l)) (omega arith)
  of_items e n (form.Show name x ∷ fs) same p h small l =
      let clear = (both_clear (show_faults e name) (faults g x (named e.values)) (clear_clean p.0.faultless)).1 in
      one_root (within x e.values n same h.0 clear) p.0.shallow (of_items (behind e (form.Show name x)) n fs same p.1 h.1 (omega (arith, small)) (omega (arith, l)))
      (omega (arith, small)) (omega (arith, l)) (omega arith)
  of_items e n (f ∷ fs) same p h small l = more_roots (of_items (behind e f) n fs same p.1 h.1 (omega (arith, small)) (omega (arith, l))) (omega arith)

  -- so are the functions and the items of the program
  pub rooted : (fs : List Form) → AllPassed g nothing_yet fs → AllTranslate fs → total (map form_weight fs) ≤ w → w ≤ v
      → Rooted functions sources (10 * total (map form_weight fs)) w v (roots (program_in g fs))
  rooted fs p h small l = more_roots (of_functions nothing_yet fs _ _ p h small l (of_items nothing_yet 0 fs refl p h small (omega (arith, small, l)))) (omega arith)
