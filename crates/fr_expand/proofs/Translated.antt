-- The core expression of an expression without faults is in scope, formed, and as small as the expression's weight allows.
use Rattle.std.specs.Prelude.{ℕ, ◌≡◌, ◌+◌, ◌*◌, ◌≤◌, ◌==◌, Bool, true, false, List, [], ◌∷◌, ◌++◌, map, length, Option, Some, None}
use Rattle.std.proofs.Common.{refl, sym, ap, ◌∙◌, arith, subst, length-append}
use Rattle.std.proofs.lemmas.List.{length-map}
use Rattle.std.proofs.lemmas.Bool.{lt-ltb, le-leb}
use Rattle.fr_value.specs.Data.{total}
use Rattle.fr_core.specs.declared.core_form.Core.{Core}
use Rattle.fr_core.specs.declared.core_form.Core.TheVariants as core
use Rattle.fr_core.specs.declared.core_form.Core.TheVariants.{outs-Var, outs-Source, outs-Let, outs-Apply, outs-Operator, outs-Handler, outs-Loop, outs-Feedback}
use Rattle.fr_core.specs.Shapes.{operator_takes, handler_parts, handler_binds, loop_binds}
use Rattle.fr_syntax.specs.declared.expr.Expr.{Expr, out-Expr}
use Rattle.fr_syntax.specs.declared.expr.Expr.TheOpen.{Expr-F}
use Rattle.fr_syntax.specs.Outlines.{Global}
use Rattle.fr_syntax.specs.Weights.{weight}
use Rattle.fr_scope.specs.Meanings.{Binder, meaning_of}
use Rattle.fr_scope.specs.declared.meaning.Meaning.{Meaning}
use Rattle.fr_scope.specs.declared.meaning.Meaning.TheVariants as meaning
use Rattle.fr_expand.specs.declared.faults.Faults.{Faults}
use Rattle.fr_expand.specs.declared.view.Binding.{Binding}
use Rattle.fr_expand.specs.declared.view.Binding.TheVariants as binding
use Rattle.fr_expand.specs.Faults.{with, named, faults, faults_by, callee_fault, unless_keyword, all_faults, binding_faults, chain_faults, chained_faults}
use Rattle.fr_expand.specs.Shaped.{names_in}
use Rattle.fr_expand.specs.Shapes.{Shape, literal, reference, call, choice, chain, clauses, all_of, any_of, operation, binder, feedback, shape, shape_of, mapped}
use Rattle.fr_expand.specs.Translation.{core_of, core_by, value_core, call_core, binding_core, each_core, chained_core, cond_core, and_core, or_core}
use Rattle.fr_expand.proofs.Bound.{IsThere}
use Rattle.fr_expand.proofs.Fresh.{or_false}
use Rattle.fr_expand.proofs.OfParts.{OfEach, OfParts, IsPaired}
use Rattle.fr_expand.proofs.Views.{core_opens, faults_opens, weight_opens, weight_by}
use Rattle.fr_expand.proofs.Walks.{weight_positive}
use Rattle.fr_expand.proofs.Within.{Within, AllWithin, more, wider, none_within, one_more, parted, bodied, leaf, literal_within, tested, let_one}

-- no name stands where it may not, and none means nothing
abbrev pub IsClear : Faults → Type 0
IsClear f = (f.name ≡ false) × (f.unbound ≡ false)

pub both_clear : (a b : Faults) → IsClear (with a b) → IsClear a × IsClear b
both_clear a b h =
    let names = or_false a.name b.name h.0 in
    let unbound = or_false a.unbound b.unbound h.1 in
    ((names.0, unbound.0), (names.1, unbound.1))

-- the names of more variables
names_with : (s : List Binder) (xs : List (List ℕ)) → names_in (s ++ named xs) ≡ names_in s ++ xs
names_with [] [] = refl
names_with [] (x ∷ xs) = ap (λ l. x ∷ l) (names_with [] xs)
names_with (None ∷ s) xs = names_with s xs
names_with (Some y ∷ s) xs = ap (λ l. y ∷ l) (names_with s xs)

same_with : (s t : List Binder) (xs : List (List ℕ)) → names_in s ≡ names_in t → names_in (s ++ named xs) ≡ names_in (t ++ named xs)
same_with s t xs e = names_with s xs ∙ ap (λ l. l ++ xs) e ∙ sym (names_with t xs)

hidden : (s : List Binder) → names_in (s ++ None ∷ []) ≡ names_in s
hidden [] = refl
hidden (None ∷ s) = hidden s
hidden (Some y ∷ s) = ap (λ l. y ∷ l) (hidden s)

longer : (s : List Binder) (xs : List (List ℕ)) → length (s ++ named xs) ≡ length s + length xs
longer s xs = length-append s (named xs) ∙ ap (λ n. length s + n) (length-map xs Some)

name_clear : (b : Bool) (f : Faults) → IsClear (unless_keyword b f) → IsClear f
name_clear true f h = cc
name_clear false f h = h

-- whether a form with a body takes so many parts, and how many variables it binds
abbrev takes : Binding → ℕ → Bool
takes binding.Let m = true
takes (binding.Handler h) m = m == handler_parts h
takes (binding.Loop l) m = m == 2

abbrev binds : Binding → ℕ → ℕ
binds binding.Let m = m
binds (binding.Handler h) m = handler_binds h
binds (binding.Loop l) m = loop_binds l

-- the shape has as many parts and names as its form takes
abbrev Fits : {X : Type 0} → Shape X → Type 0
Fits (operation o es) = operator_takes o (length es) ≡ true
Fits (binder k es xs b) = (takes k (length es) ≡ true) × (length xs ≡ binds k (length es))
Fits x = true ≡ true

fits : {X : Type 0} (f : Expr-F X) → IsPaired f → Fits (shape f)
fits (Expr-F.Let xs es b) h = (refl, h)
fits (Expr-F.Fold x y a b c) h = (refl, refl)
fits (Expr-F.Repeat x a b c) h = (refl, refl)
fits (Expr-F.MapE x b a) h = (refl, refl)
fits (Expr-F.FilterE x b a) h = (refl, refl)
fits (Expr-F.CollectB a b x y c) h = (refl, refl)
fits (Expr-F.CollectE a b x y c) h = (refl, refl)
fits _ h = refl

module _ (g : List Global) (functions sources : ℕ) (there : (s : List Binder) (name : List ℕ) → IsThere functions sources (length s) (meaning_of g s name)) where
  -- the core expression is so where these variables are in scope and the names of those tell of no fault
  abbrev pub Translates : Expr → Type 0
  Translates e = (s t : List Binder) → names_in s ≡ names_in t → IsClear (faults g e t) → Within functions sources (length s) (5 * weight e) (weight e) (core_of g e s)

  value_within : (n : ℕ) (m : Option Meaning) → IsThere functions sources n m → Within functions sources n 5 1 (value_core m)
  value_within n (Some (meaning.Variable x)) h = leaf (outs-Var x) refl refl (lt-ltb x.0 n h) refl
  value_within n (Some (meaning.Source x)) h = leaf (outs-Source x) refl refl (le-leb x.0 sources h) refl
  value_within n _ h = literal_within _ 1

  call_within : (n : ℕ) (m : Option Meaning) (es : List Core) (o w : ℕ) → IsThere functions sources n m → AllWithin functions sources n o w es → length es ≤ w → o + 5 ≤ 5 * w
      → Within functions sources n (5 * w) w (call_core m es)
  call_within n (Some (meaning.Function f)) es o w h a l k = parted (outs-Apply f es) refl a l (lt-ltb f.0 functions h) refl (omega (arith, k))
  call_within n _ es o w h a l k = parted (outs-Operator _ es) refl a l refl refl (omega (arith, k))

  binding_within : (k : Binding) (es : List Core) (b : Core) (n m d v w : ℕ) → takes k (length es) ≡ true → AllWithin functions sources n m w es
      → Within functions sources (n + binds k (length es)) d v b → length es ≤ w → m + d + 1 ≤ 5 * w → binds k (length es) + v ≤ w → Within functions sources n (5 * w) w (binding_core k es b)
  binding_within binding.Let es b n m d v w t h j l p q = bodied _ (outs-Let es b) refl h j l refl refl (omega (arith, p)) q
  binding_within (binding.Handler x) es b n m d v w t h j l p q = bodied _ (outs-Handler x es b) refl h j l refl t (omega (arith, p)) q
  binding_within (binding.Loop x) es b n m d v w t h j l p q = bodied _ (outs-Loop x es b) refl h j l refl t (omega (arith, p)) q

  each_length : (es : List Expr) (s : List Binder) → length (each_core (map (core_of g) es) s) ≡ length es
  each_length es s = length-map (map (core_of g) es) (λ p. p s) ∙ length-map es (core_of g)

  many : (es : List Expr) → length es ≤ total (map weight es)
  many [] = omega arith
  many (e ∷ es) = omega (arith, weight_positive e, many es)

  each : (es : List Expr) (w : ℕ) → total (map weight es) ≤ w → OfEach Translates es → (s t : List Binder) → names_in s ≡ names_in t → IsClear (all_faults (map (faults g) es) t)
      → AllWithin functions sources (length s) (5 * total (map weight es)) w (each_core (map (core_of g) es) s)
  each [] w l h s t e k = none_within
  each (x ∷ es) w l h s t e k =
      let both = both_clear (faults g x t) (all_faults (map (faults g) es) t) k in
      let whole : 5 * weight x + 5 * total (map weight es) ≡ 5 * (weight x + total (map weight es)) = omega arith in
      subst (λ m. AllWithin functions sources (length s) m w (each_core (map (core_of g) (x ∷ es)) s)) whole
      (one_more (wider (h.0 s t e both.0) (omega (arith, l))) (each es w (omega (arith, l)) h.1 s t e both.1))

  -- a body that sees more variables
  under : (b : Expr) → Translates b → (s t : List Binder) (xs : List (List ℕ)) (n : ℕ) → names_in s ≡ names_in t → length xs ≡ n → IsClear (faults g b (t ++ named xs))
      → Within functions sources (length s + n) (5 * weight b) (weight b) (core_of g b (s ++ named xs))
  under b h s t xs n e k c =
      subst (λ m. Within functions sources m (5 * weight b) (weight b) (core_of g b (s ++ named xs))) (longer s xs ∙ ap (λ m. length s + m) k) (h (s ++ named xs) (t ++ named xs) (same_with s t xs e) c)

  chained : (xs : List (List ℕ)) (es : List Expr) (b : Expr) (w : ℕ) → length xs + total (map weight es) + weight b ≤ w → OfEach Translates es → Translates b → (s t : List Binder) → names_in s ≡ names_in t
      → IsClear (chained_faults xs (map (faults g) es) (faults g b) t) → Within functions sources (length s) (5 * (total (map weight es) + weight b)) w (chained_core xs (map (core_of g) es) (core_of g b) s)
  chained [] es b w l h k s t e c = more (k s t e c) (omega arith) (omega (arith, l))
  chained (x ∷ xs) [] b w l h k s t e c = more (k s t e c) (omega arith) (omega (arith, l))
  chained (x ∷ xs) (y ∷ es) b w l h k s t e c =
      let both = both_clear (faults g y t) (chained_faults xs (map (faults g) es) (faults g b) (t ++ Some x ∷ [])) c in
      let fits : length xs + total (map weight es) + weight b ≤ length xs + total (map weight es) + weight b = omega arith in
      let rest = chained xs es b (length xs + total (map weight es) + weight b) fits h.1 k (s ++ Some x ∷ []) (t ++ Some x ∷ []) (same_with s t (x ∷ []) e) both.1 in
      let core = chained_core xs (map (core_of g) es) (core_of g b) (s ++ Some x ∷ []) in
      let inside = subst (λ m. Within functions sources m (5 * (total (map weight es) + weight b)) (length xs + total (map weight es) + weight b) core) (longer s (x ∷ [])) rest in
      let_one (wider (h.0 s t e both.0) (omega (arith, l))) inside (omega arith) (omega (arith, l))

  conds : (ts es : List Expr) (o : Expr) (w : ℕ) → total (map weight ts) + total (map weight es) + weight o ≤ w → OfEach Translates ts → OfEach Translates es → Translates o → (s t : List Binder)
      → names_in s ≡ names_in t → IsClear (all_faults (map (faults g) ts) t) → IsClear (all_faults (map (faults g) es) t) → IsClear (faults g o t)
      → Within functions sources (length s) (5 * (total (map weight ts) + total (map weight es) + weight o)) w (cond_core (each_core (map (core_of g) ts) s) (each_core (map (core_of g) es) s) (core_of g o s))
  conds [] es o w l h k j s t e c d f = more (j s t e f) (omega arith) (omega (arith, l))
  conds (x ∷ ts) [] o w l h k j s t e c d f = more (j s t e f) (omega arith) (omega (arith, l))
  conds (x ∷ ts) (y ∷ es) o w l h k j s t e c d f =
      let tests = both_clear (faults g x t) (all_faults (map (faults g) ts) t) c in
      let parts = both_clear (faults g y t) (all_faults (map (faults g) es) t) d in
      tested (wider (h.0 s t e tests.0) (omega (arith, l))) (wider (k.0 s t e parts.0) (omega (arith, l)))
      (conds ts es o w (omega (arith, l)) h.1 k.1 j s t e tests.1 parts.1 f) (omega arith)

  ands : (es : List Expr) (w : ℕ) → 1 + total (map weight es) ≤ w → OfEach Translates es → (s t : List Binder) → names_in s ≡ names_in t → IsClear (all_faults (map (faults g) es) t)
      → Within functions sources (length s) (5 * (1 + total (map weight es))) w (and_core (each_core (map (core_of g) es) s))
  ands [] w l h s t e c = literal_within _ w
  ands (x ∷ []) w l h s t e c = more (h.0 s t e (both_clear (faults g x t) (all_faults [] t) c).0) (omega arith) (omega (arith, l))
  ands (x ∷ y ∷ es) w l h s t e c =
      let both = both_clear (faults g x t) (all_faults (map (faults g) (y ∷ es)) t) c in
      tested (wider (h.0 s t e both.0) (omega (arith, l))) (ands (y ∷ es) w (omega (arith, l)) h.1 s t e both.1) (literal_within _ w) (omega arith)

  ors : (es : List Expr) (w : ℕ) → 1 + total (map weight es) ≤ w → OfEach Translates es → (s t : List Binder) → names_in s ≡ names_in t → IsClear (all_faults (map (faults g) es) t)
      → Within functions sources (length s) (5 * (1 + total (map weight es))) w (or_core (map (core_of g) es) s)
  ors [] w l h s t e c = literal_within _ w
  ors (x ∷ []) w l h s t e c = more (h.0 s t e (both_clear (faults g x t) (all_faults [] t) c).0) (omega arith) (omega (arith, l))
  ors (x ∷ y ∷ es) w l h s t e c =
      let both = both_clear (faults g x t) (all_faults (map (faults g) (y ∷ es)) t) c in
      let fits : 1 + total (map weight (y ∷ es)) ≤ 1 + total (map weight (y ∷ es)) = omega arith in
      let others = or_core (map (core_of g) (y ∷ es)) (s ++ None ∷ []) in
      let rest = ors (y ∷ es) (1 + total (map weight (y ∷ es))) fits h.1 (s ++ None ∷ []) t (hidden s ∙ e) both.1 in
      let inside = subst (λ m. Within functions sources m (5 * (1 + total (map weight (y ∷ es)))) (1 + total (map weight (y ∷ es))) others) (length-append s (None ∷ [])) rest in
      let seen : Within functions sources (length s + 1) 5 (1 + total (map weight (y ∷ es))) (core.Var (record { 0 = length s })) = leaf (outs-Var _) refl refl (lt-ltb (length s) (length s + 1) (omega arith)) refl in
      let test : Within functions sources (length s + 1) (5 * (1 + total (map weight (y ∷ es))) + 3) (1 + total (map weight (y ∷ es))) (core.If (core.Var (record { 0 = length s })) (core.Var (record { 0 = length s })) others) = tested seen seen inside (omega arith) in
      let_one (wider (h.0 s t e both.0) (omega (arith, l))) test (omega arith) (omega (arith, l, weight_positive x))

  by_shape : (x : Shape Expr) → Fits x → OfParts Translates x → (s t : List Binder) → names_in s ≡ names_in t → IsClear (faults_by g (mapped (faults g) x) t)
      → Within functions sources (length s) (5 * weight_by (mapped weight x)) (weight_by (mapped weight x)) (core_by g (mapped (core_of g) x) s)
  by_shape (literal v) f h s t e c = literal_within v 1
  by_shape (reference x) f h s t e c = value_within (length s) (meaning_of g s x) (there s x)
  by_shape (call x es) f h s t e c =
      call_within (length s) (meaning_of g s x) _ _ _ (there s x) (each es _ (omega arith) h s t e (both_clear (callee_fault (meaning_of g t x)) (all_faults (map (faults g) es) t) c).1)
      (omega (arith, each_length es s, many es)) (omega arith)
  by_shape (choice a b d) f h s t e c =
      let first = both_clear (faults g a t) (all_faults (map (faults g) (b ∷ d ∷ [])) t) c in
      let second = both_clear (faults g b t) (all_faults (map (faults g) (d ∷ [])) t) first.1 in
      tested (wider (h.0 s t e first.0) (omega arith)) (wider (h.1 s t e second.0) (omega arith))
      (wider (h.2 s t e (both_clear (faults g d t) (all_faults [] t) second.1).0) (omega arith)) (omega arith)
  by_shape (chain xs es b) f h s t e c =
      more (chained xs es b (length xs + total (map weight es) + weight b) (omega arith) h.0 h.1 s t e (both_clear (chain_faults xs) (chained_faults xs (map (faults g) es) (faults g b) t) c).1) (omega arith) (omega arith)
  by_shape (clauses ts es o) f h s t e c =
      let first = both_clear (all_faults (map (faults g) ts) t) (with (all_faults (map (faults g) es) t) (faults g o t)) c in
      let second = both_clear (all_faults (map (faults g) es) t) (faults g o t) first.1 in
      more (conds ts es o (total (map weight ts) + total (map weight es) + weight o) (omega arith) h.0 h.1 h.2 s t e first.0 second.0 second.1) (omega arith) (omega arith)
  by_shape (all_of es) f h s t e c = ands es _ (omega arith) h s t e c
  by_shape (any_of es) f h s t e c = ors es _ (omega arith) h s t e c
  by_shape (operation o es) f h s t e c =
      parted (outs-Operator o _) refl (each es _ (omega arith) h s t e c) (omega (arith, each_length es s, many es)) refl (ap (operator_takes o) (each_length es s) ∙ f) (omega arith)
  by_shape (binder k es xs b) f h s t e c =
      let below = both_clear (all_faults (map (faults g) es) t) (faults g b (t ++ named xs)) (both_clear (binding_faults xs) (with (all_faults (map (faults g) es) t) (faults g b (t ++ named xs))) c).1 in
      let same = each_length es s in
      let bound : length xs ≡ binds k (length (each_core (map (core_of g) es) s)) = f.1 ∙ ap (binds k) (sym same) in
      binding_within k _ _ (length s) _ _ _ _ (ap (takes k) same ∙ f.0) (each es _ (omega arith) h.0 s t e below.0) (under b h.1 s t xs _ e bound below.1)
      (omega (arith, same, many es)) (omega arith) (omega (arith, bound))
  by_shape (feedback x a b) f h s t e c =
      let below = both_clear (all_faults (map (faults g) (a ∷ [])) t) (faults g b (t ++ named (x ∷ []))) (both_clear (binding_faults (x ∷ [])) (with (all_faults (map (faults g) (a ∷ [])) t) (faults g b (t ++ named (x ∷ [])))) c).1 in
      bodied _ (outs-Feedback _ _) refl (one_more (wider (h.0 s t e (both_clear (faults g a t) (all_faults [] t) below.0).0) (omega arith)) none_within) (under b h.1 s t (x ∷ []) 1 e refl below.1)
      (omega arith) refl refl (omega arith) (omega arith)

  -- it is so where it is for the parts
  pub translates : (e : Expr) → IsPaired (out-Expr e) → OfParts Translates (shape_of e) → Translates e
  translates e p h s t same c =
      let w = weight_opens e in
      subst (λ x. Within functions sources (length s) (5 * x) x (core_of g e s)) (sym w)
      (subst (Within functions sources (length s) _ _) (sym (core_opens g e s)) (by_shape (shape_of e) (fits (out-Expr e) p) h s t same (subst IsClear (faults_opens g e t) c)))
