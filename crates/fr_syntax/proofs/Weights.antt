-- The weight of each form of an expression.
use Rattle.std.proofs.Common.{ℕ, ◌≡◌, ◌+◌, List, map, length, sym, ap, ◌∙◌}
use Rattle.fr_value.specs.Data.{total}
use Rattle.fr_value.specs.declared.value.Value.{Value}
use Rattle.fr_syntax.specs.declared.expr.Expr.{Expr, fold-Expr, fold-roll-Expr}
use Rattle.fr_syntax.specs.declared.expr.Expr.TheOpen.{Expr-F}
use Rattle.fr_syntax.specs.declared.expr.Expr.TheVariants as expr
use Rattle.fr_syntax.specs.declared.expr.Expr.TheVariants.{rolls-Literal, rolls-Name, rolls-If, rolls-Let, rolls-LetStar, rolls-Cond, rolls-And, rolls-Or, rolls-Fold, rolls-Repeat, rolls-MapE, rolls-FilterE, rolls-MergeE, rolls-Hold, rolls-CollectB, rolls-CollectE, rolls-Changes, rolls-OnceE, rolls-Delay, rolls-DelayE, rolls-Feedback, rolls-Call}
use Rattle.fr_syntax.specs.Weights.{weight, weight_step}

pub weight-Literal : (v : Value) → weight (expr.Literal v) ≡ 1
unfolding weight
weight-Literal v = ap (fold-Expr ℕ weight_step) (sym (rolls-Literal v)) ∙ fold-roll-Expr ℕ weight_step (Expr-F.Literal v)

pub weight-Name : (n : List ℕ) → weight (expr.Name n) ≡ 1
unfolding weight
weight-Name n = ap (fold-Expr ℕ weight_step) (sym (rolls-Name n)) ∙ fold-roll-Expr ℕ weight_step (Expr-F.Name n)

pub weight-If : (a : Expr) (b : Expr) (c : Expr) → weight (expr.If a b c) ≡ 1 + weight a + weight b + weight c
unfolding weight
weight-If a b c = ap (fold-Expr ℕ weight_step) (sym (rolls-If a b c)) ∙ fold-roll-Expr ℕ weight_step (Expr-F.If a b c)

pub weight-Let : (ns : List (List ℕ)) (es : List Expr) (b : Expr) → weight (expr.Let ns es b) ≡ 1 + length ns + total (map weight es) + weight b
unfolding weight
weight-Let ns es b = ap (fold-Expr ℕ weight_step) (sym (rolls-Let ns es b)) ∙ fold-roll-Expr ℕ weight_step (Expr-F.Let ns es b)

pub weight-LetStar : (ns : List (List ℕ)) (es : List Expr) (b : Expr) → weight (expr.LetStar ns es b) ≡ 1 + length ns + total (map weight es) + weight b
unfolding weight
weight-LetStar ns es b = ap (fold-Expr ℕ weight_step) (sym (rolls-LetStar ns es b)) ∙ fold-roll-Expr ℕ weight_step (Expr-F.LetStar ns es b)

pub weight-Cond : (ts : List Expr) (es : List Expr) (e : Expr) → weight (expr.Cond ts es e) ≡ 1 + total (map weight ts) + total (map weight es) + weight e
unfolding weight
weight-Cond ts es e = ap (fold-Expr ℕ weight_step) (sym (rolls-Cond ts es e)) ∙ fold-roll-Expr ℕ weight_step (Expr-F.Cond ts es e)

pub weight-And : (es : List Expr) → weight (expr.And es) ≡ 1 + total (map weight es)
unfolding weight
weight-And es = ap (fold-Expr ℕ weight_step) (sym (rolls-And es)) ∙ fold-roll-Expr ℕ weight_step (Expr-F.And es)

pub weight-Or : (es : List Expr) → weight (expr.Or es) ≡ 1 + total (map weight es)
unfolding weight
weight-Or es = ap (fold-Expr ℕ weight_step) (sym (rolls-Or es)) ∙ fold-roll-Expr ℕ weight_step (Expr-F.Or es)

pub weight-Fold : (n : List ℕ) (m : List ℕ) (a : Expr) (b : Expr) (c : Expr) → weight (expr.Fold n m a b c) ≡ 3 + weight a + weight b + weight c
unfolding weight
weight-Fold n m a b c = ap (fold-Expr ℕ weight_step) (sym (rolls-Fold n m a b c)) ∙ fold-roll-Expr ℕ weight_step (Expr-F.Fold n m a b c)

pub weight-Repeat : (n : List ℕ) (a : Expr) (b : Expr) (c : Expr) → weight (expr.Repeat n a b c) ≡ 2 + weight a + weight b + weight c
unfolding weight
weight-Repeat n a b c = ap (fold-Expr ℕ weight_step) (sym (rolls-Repeat n a b c)) ∙ fold-roll-Expr ℕ weight_step (Expr-F.Repeat n a b c)

pub weight-MapE : (n : List ℕ) (a : Expr) (b : Expr) → weight (expr.MapE n a b) ≡ 2 + weight a + weight b
unfolding weight
weight-MapE n a b = ap (fold-Expr ℕ weight_step) (sym (rolls-MapE n a b)) ∙ fold-roll-Expr ℕ weight_step (Expr-F.MapE n a b)

pub weight-FilterE : (n : List ℕ) (a : Expr) (b : Expr) → weight (expr.FilterE n a b) ≡ 2 + weight a + weight b
unfolding weight
weight-FilterE n a b = ap (fold-Expr ℕ weight_step) (sym (rolls-FilterE n a b)) ∙ fold-roll-Expr ℕ weight_step (Expr-F.FilterE n a b)

pub weight-MergeE : (es : List Expr) → weight (expr.MergeE es) ≡ 1 + total (map weight es)
unfolding weight
weight-MergeE es = ap (fold-Expr ℕ weight_step) (sym (rolls-MergeE es)) ∙ fold-roll-Expr ℕ weight_step (Expr-F.MergeE es)

pub weight-Hold : (a : Expr) (b : Expr) → weight (expr.Hold a b) ≡ 1 + weight a + weight b
unfolding weight
weight-Hold a b = ap (fold-Expr ℕ weight_step) (sym (rolls-Hold a b)) ∙ fold-roll-Expr ℕ weight_step (Expr-F.Hold a b)

pub weight-CollectB : (a : Expr) (b : Expr) (n : List ℕ) (m : List ℕ) (c : Expr) → weight (expr.CollectB a b n m c) ≡ 3 + weight a + weight b + weight c
unfolding weight
weight-CollectB a b n m c = ap (fold-Expr ℕ weight_step) (sym (rolls-CollectB a b n m c)) ∙ fold-roll-Expr ℕ weight_step (Expr-F.CollectB a b n m c)

pub weight-CollectE : (a : Expr) (b : Expr) (n : List ℕ) (m : List ℕ) (c : Expr) → weight (expr.CollectE a b n m c) ≡ 3 + weight a + weight b + weight c
unfolding weight
weight-CollectE a b n m c = ap (fold-Expr ℕ weight_step) (sym (rolls-CollectE a b n m c)) ∙ fold-roll-Expr ℕ weight_step (Expr-F.CollectE a b n m c)

pub weight-Changes : (a : Expr) → weight (expr.Changes a) ≡ 1 + weight a
unfolding weight
weight-Changes a = ap (fold-Expr ℕ weight_step) (sym (rolls-Changes a)) ∙ fold-roll-Expr ℕ weight_step (Expr-F.Changes a)

pub weight-OnceE : (a : Expr) → weight (expr.OnceE a) ≡ 1 + weight a
unfolding weight
weight-OnceE a = ap (fold-Expr ℕ weight_step) (sym (rolls-OnceE a)) ∙ fold-roll-Expr ℕ weight_step (Expr-F.OnceE a)

pub weight-Delay : (a : Expr) (b : Expr) → weight (expr.Delay a b) ≡ 1 + weight a + weight b
unfolding weight
weight-Delay a b = ap (fold-Expr ℕ weight_step) (sym (rolls-Delay a b)) ∙ fold-roll-Expr ℕ weight_step (Expr-F.Delay a b)

pub weight-DelayE : (a : Expr) → weight (expr.DelayE a) ≡ 1 + weight a
unfolding weight
weight-DelayE a = ap (fold-Expr ℕ weight_step) (sym (rolls-DelayE a)) ∙ fold-roll-Expr ℕ weight_step (Expr-F.DelayE a)

pub weight-Feedback : (n : List ℕ) (a : Expr) (b : Expr) → weight (expr.Feedback n a b) ≡ 2 + weight a + weight b
unfolding weight
weight-Feedback n a b = ap (fold-Expr ℕ weight_step) (sym (rolls-Feedback n a b)) ∙ fold-roll-Expr ℕ weight_step (Expr-F.Feedback n a b)

pub weight-Call : (n : List ℕ) (es : List Expr) → weight (expr.Call n es) ≡ 1 + total (map weight es)
unfolding weight
weight-Call n es = ap (fold-Expr ℕ weight_step) (sym (rolls-Call n es)) ∙ fold-roll-Expr ℕ weight_step (Expr-F.Call n es)
