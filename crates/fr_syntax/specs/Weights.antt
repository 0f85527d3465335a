-- How heavy an expression and a form are: at most as heavy as the datum is large that they are read from.
use Rattle.std.specs.Prelude.{ℕ, ◌+◌, length}
use Rattle.fr_value.specs.Data.{total}
use Rattle.fr_syntax.specs.declared.expr.Expr.{Expr, fold-Expr}
use Rattle.fr_syntax.specs.declared.expr.Expr.TheOpen.{Expr-F}
use Rattle.fr_syntax.specs.declared.form.Form.{Form}
use Rattle.fr_syntax.specs.declared.form.Form.TheVariants as form

-- an expression's weight from those of its parts
abbrev pub weight_step : Expr-F ℕ → ℕ
weight_step (Expr-F.Literal v) = 1
weight_step (Expr-F.Name n) = 1
weight_step (Expr-F.If a b c) = 1 + a + b + c
weight_step (Expr-F.Let ns es b) = 1 + length ns + total es + b
weight_step (Expr-F.LetStar ns es b) = 1 + length ns + total es + b
weight_step (Expr-F.Cond ts es e) = 1 + total ts + total es + e
weight_step (Expr-F.And es) = 1 + total es
weight_step (Expr-F.Or es) = 1 + total es
weight_step (Expr-F.Fold n m a b c) = 3 + a + b + c
weight_step (Expr-F.Repeat n a b c) = 2 + a + b + c
weight_step (Expr-F.MapE n a b) = 2 + a + b
weight_step (Expr-F.FilterE n a b) = 2 + a + b
weight_step (Expr-F.MergeE es) = 1 + total es
weight_step (Expr-F.Hold a b) = 1 + a + b
weight_step (Expr-F.CollectB a b n m c) = 3 + a + b + c
weight_step (Expr-F.CollectE a b n m c) = 3 + a + b + c
weight_step (Expr-F.Changes a) = 1 + a
weight_step (Expr-F.OnceE a) = 1 + a
weight_step (Expr-F.Delay a b) = 1 + a + b
weight_step (Expr-F.DelayE a) = 1 + a
weight_step (Expr-F.Feedback n a b) = 2 + a + b
weight_step (Expr-F.Call n es) = 1 + total es

-- 1 for the expression, 1 for each name that it binds, and the weights of its parts
unfoldable pub weight : Expr → ℕ
weight = fold-Expr ℕ weight_step

-- 1 for the form, 1 for its name, 1 for each parameter, and the weight of its expression
abbrev pub form_weight : Form → ℕ
form_weight (form.Input n v) = 2
form_weight (form.Event n) = 2
form_weight (form.Function n ps e) = 2 + length ps + weight e
form_weight (form.Define n e) = 2 + weight e
form_weight (form.Show n e) = 2 + weight e
