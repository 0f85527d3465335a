-- How deep core expressions nest.
use Rattle.std.proofs.Common.{◌≡◌, ◌+◌, ◌≤◌, ℕ, false, List, [], ◌∷◌, ◌++◌, Option, Some, None, length, map, max, refl, sym, ap, ◌∙◌, arith}
use Rattle.fr_value.specs.Data.{greatest}
use Rattle.fr_syntax.specs.Outlines.{Global}
use Rattle.fr_syntax.specs.declared.expr.Expr.{Expr}
use Rattle.fr_core.specs.declared.core_form.Core.{Core, out-Core}
use Rattle.fr_core.specs.declared.core_form.Core.TheVariants as core
use Rattle.fr_core.specs.declared.core_form.Core.TheVariants.{outs-Lit, outs-Var, outs-Source, outs-Let, outs-If, outs-Apply, outs-Operator, outs-Handler, outs-Loop, outs-Feedback}
use Rattle.fr_core.specs.Shapes.{inner, outer}
use Rattle.fr_core.specs.WellFormed.{nesting}
use Rattle.fr_core.proofs.Folds.{nesting-opens}
use Rattle.fr_core.proofs.PartLists.{parts-outer, greatest-body}
use Rattle.fr_scope.specs.Meanings.{Binder, meaning_of}
use Rattle.fr_scope.specs.declared.meaning.Meaning.{Meaning}
use Rattle.fr_scope.specs.declared.meaning.Meaning.TheVariants as meaning
use Rattle.fr_expand.specs.declared.view.Binding.{Binding}
use Rattle.fr_expand.specs.declared.view.Binding.TheVariants as binding
use Rattle.fr_expand.specs.Depths.{depth, depth_by, chain_depth, cond_depth, and_depth, or_depth}
use Rattle.fr_expand.specs.Shapes.{Shape, literal, reference, call, choice, chain, clauses, all_of, any_of, operation, binder, feedback, shape_of, mapped}
use Rattle.fr_expand.specs.Translation.{truth, core_of, core_by, value_core, call_core, binding_core, each_core, chained_core, cond_core, and_core, or_core}
use Rattle.fr_expand.proofs.OfParts.{OfEach, OfParts, holds}
use Rattle.fr_expand.proofs.Views.{core_opens, depth_opens}

-- a form of these parts, with a body behind them or none

parted : (c : Core) (es : List Core) → inner (out-Core c) ≡ outer es → nesting c ≡ 1 + greatest (map nesting es)
parted c es i = nesting-opens c ∙ ap (λ l. 1 + greatest (map nesting (map (λ (x : ℕ × Core). x.1) l))) i ∙ ap (λ l. 1 + greatest (map nesting l)) (parts-outer es)

bodied : (c : Core) (es : List Core) (k : ℕ) (b : Core) → inner (out-Core c) ≡ outer es ++ (k, b) ∷ [] → nesting c ≡ 1 + max (greatest (map nesting es)) (nesting b)
bodied c es k b i = nesting-opens c ∙ ap (λ l. 1 + greatest (map nesting (map (λ (x : ℕ × Core). x.1) l))) i ∙ ap (λ n. 1 + n) (greatest-body nesting es k b)

leaf : (c : Core) → inner (out-Core c) ≡ [] → nesting c ≡ 1
leaf c i = parted c [] i

-- an expression nests at least once
positive : (c : Core) → 1 ≤ nesting c
positive c = omega (arith, nesting-opens c)

tested : (a b c : Core) → nesting (core.If a b c) ≡ 1 + max (nesting a) (max (nesting b) (nesting c))
tested a b c = parted (core.If a b c) (a ∷ b ∷ c ∷ []) (ap inner (outs-If a b c)) ∙ omega arith

let_one : (a b : Core) → nesting (core.Let (a ∷ []) b) ≡ 1 + max (nesting a) (nesting b)
let_one a b = bodied (core.Let (a ∷ []) b) (a ∷ []) 1 b (ap inner (outs-Let (a ∷ []) b)) ∙ omega arith

value_nests : (m : Option Meaning) → nesting (value_core m) ≡ 1
value_nests None = leaf _ (ap inner (outs-Lit _))
value_nests (Some (meaning.Variable x)) = leaf _ (ap inner (outs-Var x))
value_nests (Some (meaning.Source x)) = leaf _ (ap inner (outs-Source x))
value_nests (Some _) = leaf _ (ap inner (outs-Lit _))

call_nests : (m : Option Meaning) (es : List Core) → nesting (call_core m es) ≡ 1 + greatest (map nesting es)
call_nests None es = parted _ es (ap inner (outs-Operator _ es))
call_nests (Some (meaning.Function f)) es = parted _ es (ap inner (outs-Apply f es))
call_nests (Some _) es = parted _ es (ap inner (outs-Operator _ es))

binding_nests : (k : Binding) (es : List Core) (b : Core) → nesting (binding_core k es b) ≡ 1 + max (greatest (map nesting es)) (nesting b)
binding_nests binding.Let es b = bodied _ es _ b (ap inner (outs-Let es b))
binding_nests (binding.Handler h) es b = bodied _ es _ b (ap inner (outs-Handler h es b))
binding_nests (binding.Loop l) es b = bodied _ es _ b (ap inner (outs-Loop l es b))

module _ (g : List Global) where
  abbrev Nests : Expr → Type 0
  Nests e = (s : List Binder) → nesting (core_of g e s) ≡ depth e

  each : (es : List Expr) → OfEach Nests es → (s : List Binder) → map nesting (each_core (map (core_of g) es) s) ≡ map depth es
  each [] h s = refl
  each (e ∷ es) h s = rw (h.0 s, each es h.1 s) refl

  chained : (xs : List (List ℕ)) (es : List Expr) (b : Expr) → OfEach Nests es → Nests b → (s : List Binder)
      → nesting (chained_core xs (map (core_of g) es) (core_of g b) s) ≡ chain_depth xs (map depth es) (depth b)
  chained [] es b h k s = k s
  chained (x ∷ xs) [] b h k s = k s
  chained (x ∷ xs) (e ∷ es) b h k s = let_one _ _ ∙ omega (arith, h.0 s, chained xs es b h.1 k (s ++ Some x ∷ []))

  conds : (ts es : List Expr) (o : Expr) → OfEach Nests ts → OfEach Nests es → Nests o → (s : List Binder)
      → nesting (cond_core (each_core (map (core_of g) ts) s) (each_core (map (core_of g) es) s) (core_of g o s)) ≡ cond_depth (map depth ts) (map depth es) (depth o)
  conds [] [] o h k l s = l s ∙ omega arith
  conds [] (e ∷ es) o h k l s = l s ∙ omega arith
  conds (t ∷ ts) [] o h k l s = l s ∙ omega arith
  conds (t ∷ ts) (e ∷ es) o h k l s = tested _ _ _ ∙ omega (arith, h.0 s, k.0 s, conds ts es o h.1 k.1 l s)

  ands : (es : List Expr) → OfEach Nests es → (s : List Binder) → nesting (and_core (each_core (map (core_of g) es) s)) ≡ and_depth (map depth es)
  ands [] h s = leaf _ (ap inner (outs-Lit _))
  ands (e ∷ []) h s = h.0 s
  ands (e ∷ f ∷ es) h s = tested _ _ _ ∙ omega (arith, h.0 s, ands (f ∷ es) h.1 s, positive (core_of g e s), leaf (truth false) (ap inner (outs-Lit _)))

  ors : (es : List Expr) → OfEach Nests es → (s : List Binder) → nesting (or_core (map (core_of g) es) s) ≡ or_depth (map depth es)
  ors [] h s = leaf _ (ap inner (outs-Lit _))
  ors (e ∷ []) h s = h.0 s
  ors (e ∷ f ∷ es) h s =
      let v = core.Var (record { 0 = length s }) in
      let rest = or_core (map (core_of g) (f ∷ es)) (s ++ None ∷ []) in
      let_one _ _ ∙ omega (arith, h.0 s, tested v v rest, leaf v (ap inner (outs-Var _)), positive rest, ors (f ∷ es) h.1 (s ++ None ∷ []))

  by_shape : (x : Shape Expr) → OfParts Nests x → (s : List Binder) → nesting (core_by g (mapped (core_of g) x) s) ≡ depth_by (mapped depth x)
  by_shape (literal v) h s = leaf _ (ap inner (outs-Lit v))
  by_shape (reference x) h s = value_nests (meaning_of g s x)
  by_shape (call f es) h s = call_nests (meaning_of g s f) _ ∙ ap (λ ds. 1 + greatest ds) (each es h s)
  by_shape (choice a b c) h s = tested _ _ _ ∙ rw (h.0 s, h.1 s, h.2 s) refl
  by_shape (chain xs es b) h s = chained xs es b h.0 h.1 s
  by_shape (clauses ts es e) h s = conds ts es e h.0 h.1 h.2 s
  by_shape (all_of es) h s = ands es h s
  by_shape (any_of es) h s = ors es h s
  by_shape (operation o es) h s = parted _ _ (ap inner (outs-Operator o _)) ∙ ap (λ ds. 1 + greatest ds) (each es h s)
  by_shape (binder k es xs b) h s = binding_nests k _ _ ∙ rw (each es h.0 s, h.1 _) refl
  by_shape (feedback x a b) h s = bodied _ (_ ∷ []) 1 _ (ap inner (outs-Feedback _ _)) ∙ omega (arith, h.0 s, h.1 (s ++ Some x ∷ []))

  -- a core expression nests as deep as the expression that it stands for tells
  pub nests : (e : Expr) → Nests e
  nests = holds Nests (λ e h s. ap nesting (core_opens g e s) ∙ by_shape (shape_of e) h s ∙ sym (depth_opens e))
