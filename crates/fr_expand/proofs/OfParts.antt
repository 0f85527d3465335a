-- What holds of the parts of an expression, and an induction by shape.
use Rattle.std.proofs.Common.{◌≡◌, List, [], ◌∷◌, map, length, refl, sym, ap, ◌∙◌, subst}
use Rattle.fr_syntax.specs.declared.expr.Expr.{Expr, map-Expr, roll-Expr, out-roll-Expr, ind-Expr}
use Rattle.fr_syntax.specs.declared.expr.Expr.TheOpen.{Expr-F}
use Rattle.fr_expand.specs.Shapes.{Shape, literal, reference, call, choice, chain, clauses, all_of, any_of, operation, binder, feedback, shape, shape_of, mapped}

-- the shape of an expression over others
pub shape-map : {X Y : Type 0} (g : X → Y) (f : Expr-F X) → shape (map-Expr X Y g f) ≡ mapped g (shape f)
shape-map g (Expr-F.Literal v) = refl
shape-map g _ = refl

-- it holds of each
abbrev pub OfEach : (Expr → Type 0) → List Expr → Type 0
OfEach P [] = Unit {0}
OfEach P (e ∷ es) = P e × OfEach P es

-- it holds of each part of a shape
abbrev pub OfParts : (Expr → Type 0) → Shape Expr → Type 0
OfParts P (literal v) = Unit {0}
OfParts P (reference x) = Unit {0}
OfParts P (call f es) = OfEach P es
OfParts P (choice a b c) = P a × P b × P c
OfParts P (chain xs es b) = OfEach P es × P b
OfParts P (clauses ts es e) = OfEach P ts × OfEach P es × P e
OfParts P (all_of es) = OfEach P es
OfParts P (any_of es) = OfEach P es
OfParts P (operation o es) = OfEach P es
OfParts P (binder k es xs b) = OfEach P es × P b
OfParts P (feedback x a b) = P a × P b

-- a `let` has a name for each of its parts
abbrev pub IsPaired : {X : Type 0} → Expr-F X → Type 0
IsPaired (Expr-F.Let xs es b) = length xs ≡ length es
IsPaired f = Unit {0}

module _ (P : Expr → Type 0) where
  abbrev With : Type 0
  With = (e : Expr) × P e

  of_each : (ys : List With) → OfEach P (map (λ y. y.0) ys)
  of_each [] = tt
  of_each (y ∷ ys) = (y.1, of_each ys)

  of_parts : (y : Shape With) → OfParts P (mapped (λ z. z.0) y)
  of_parts (literal v) = tt
  of_parts (reference x) = tt
  of_parts (call f es) = of_each es
  of_parts (choice a b c) = (a.1, b.1, c.1)
  of_parts (chain xs es b) = (of_each es, b.1)
  of_parts (clauses ts es e) = (of_each ts, of_each es, e.1)
  of_parts (all_of es) = of_each es
  of_parts (any_of es) = of_each es
  of_parts (operation o es) = of_each es
  of_parts (binder k es xs b) = (of_each es, b.1)
  of_parts (feedback x a b) = (a.1, b.1)

  -- what holds of an expression where it holds of its parts holds of all
  pub holds : ((e : Expr) → OfParts P (shape_of e) → P e) → (e : Expr) → P e
  holds step = ind-Expr P (λ x y is. step (roll-Expr x) (subst (OfParts P) (sym (shape-map (λ (z : With). z.0) y) ∙ ap shape (is ∙ sym (out-roll-Expr x))) (of_parts (shape y))))
