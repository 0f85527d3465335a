-- The expressions of a text by shape: what tells the forms of one shape apart, and their parts.
use Rattle.std.specs.Prelude.{ℕ, List, [], ◌∷◌, map}
use Rattle.fr_value.specs.declared.value.Value.{Value}
use Rattle.fr_core.specs.declared.core_form.Operator.{Operator}
use Rattle.fr_core.specs.declared.core_form.Operator.TheVariants as operator
use Rattle.fr_core.specs.declared.core_form.Handler.TheVariants as handler
use Rattle.fr_core.specs.declared.core_form.Loop.TheVariants as loop
use Rattle.fr_syntax.specs.declared.expr.Expr.{Expr, out-Expr}
use Rattle.fr_syntax.specs.declared.expr.Expr.TheOpen.{Expr-F}
use Rattle.fr_expand.specs.declared.view.Binding.{Binding}
use Rattle.fr_expand.specs.declared.view.Binding.TheVariants as binding
use Rattle.fr_expand.specs.declared.view.Names.{Names}
use Rattle.fr_expand.specs.declared.view.Names.TheVariants as names
use Rattle.fr_expand.specs.declared.view.Parts.{Parts}
use Rattle.fr_expand.specs.declared.view.Parts.TheVariants as parts
use Rattle.fr_expand.specs.declared.view.View.{View}
use Rattle.fr_expand.specs.declared.view.View.TheVariants as view

-- the shape of an expression with its parts, in the order in which they are evaluated
pub data Shape (X : Type 0) : Type 0 where
  literal : Value → Shape X
  reference : List ℕ → Shape X
  call : List ℕ → List X → Shape X
  choice : X → X → X → Shape X
  chain : List (List ℕ) → List X → X → Shape X
  clauses : List X → List X → X → Shape X
  all_of : List X → Shape X
  any_of : List X → Shape X
  operation : Operator → List X → Shape X
  binder : Binding → List X → List (List ℕ) → X → Shape X
  feedback : List ℕ → X → X → Shape X

-- the shape of each form
abbrev pub shape : {X : Type 0} → Expr-F X → Shape X
shape (Expr-F.Literal v) = literal v
shape (Expr-F.Name x) = reference x
shape (Expr-F.If a b c) = choice a b c
shape (Expr-F.Let xs es b) = binder binding.Let es xs b
shape (Expr-F.LetStar xs es b) = chain xs es b
shape (Expr-F.Cond ts es e) = clauses ts es e
shape (Expr-F.And es) = all_of es
shape (Expr-F.Or es) = any_of es
shape (Expr-F.Fold x y a b c) = binder (binding.Loop loop.Fold) (a ∷ b ∷ []) (x ∷ y ∷ []) c
shape (Expr-F.Repeat x a b c) = binder (binding.Loop loop.Repeat) (a ∷ b ∷ []) (x ∷ []) c
shape (Expr-F.MapE x b a) = binder (binding.Handler handler.MapE) (a ∷ []) (x ∷ []) b
shape (Expr-F.FilterE x b a) = binder (binding.Handler handler.FilterE) (a ∷ []) (x ∷ []) b
shape (Expr-F.MergeE es) = operation operator.MergeE es
shape (Expr-F.Hold a b) = operation operator.Hold (a ∷ b ∷ [])
shape (Expr-F.CollectB a b x y c) = binder (binding.Handler handler.CollectB) (a ∷ b ∷ []) (x ∷ y ∷ []) c
shape (Expr-F.CollectE a b x y c) = binder (binding.Handler handler.CollectE) (a ∷ b ∷ []) (x ∷ y ∷ []) c
shape (Expr-F.Changes a) = operation operator.Changes (a ∷ [])
shape (Expr-F.OnceE a) = operation operator.OnceE (a ∷ [])
shape (Expr-F.Delay a b) = operation operator.Delay (a ∷ b ∷ [])
shape (Expr-F.DelayE a) = operation operator.DelayE (a ∷ [])
shape (Expr-F.Feedback x a b) = feedback x a b
shape (Expr-F.Call f es) = call f es

-- the shape of an expression
abbrev pub shape_of : Expr → Shape Expr
shape_of e = shape (out-Expr e)

-- the shape with something else for each part
abbrev pub mapped : {X Y : Type 0} → (X → Y) → Shape X → Shape Y
mapped g (literal v) = literal v
mapped g (reference x) = reference x
mapped g (call f es) = call f (map g es)
mapped g (choice a b c) = choice (g a) (g b) (g c)
mapped g (chain xs es b) = chain xs (map g es) (g b)
mapped g (clauses ts es e) = clauses (map g ts) (map g es) (g e)
mapped g (all_of es) = all_of (map g es)
mapped g (any_of es) = any_of (map g es)
mapped g (operation o es) = operation o (map g es)
mapped g (binder k es xs b) = binder k (map g es) xs (g b)
mapped g (feedback x a b) = feedback x (g a) (g b)

-- the parts and the names that the code has
abbrev pub exprs_of : Parts → List Expr
exprs_of (parts.One a) = a.now ∷ []
exprs_of (parts.Two a b) = a.now ∷ b.now ∷ []
exprs_of (parts.Each es) = es.now

abbrev pub names_of : Names → List (List ℕ)
names_of (names.One x) = x.now ∷ []
names_of (names.Two x y) = x.now ∷ y.now ∷ []
names_of (names.Each xs) = xs.now

-- the shape that the code has
abbrev pub seen : View → Shape Expr
seen (view.Literal v) = literal v.now
seen (view.Name x) = reference x.now
seen (view.Call f es) = call f.now es.now
seen (view.If a b c) = choice a.now b.now c.now
seen (view.Chain xs es b) = chain xs.now es.now b.now
seen (view.Cond ts es e) = clauses ts.now es.now e.now
seen (view.And es) = all_of es.now
seen (view.Or es) = any_of es.now
seen (view.Operator o es) = operation o (exprs_of es)
seen (view.Binding k es xs b) = binder k (exprs_of es) (names_of xs) b.now
seen (view.Feedback x a b) = feedback x.now a.now b.now
