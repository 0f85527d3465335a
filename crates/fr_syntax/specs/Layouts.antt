-- Forms by their outermost lists, and the expressions that they are with their parts.
use Rattle.std.specs.Prelude.{ℕ, ◌≡◌, List, [], ◌∷◌, Option, Some}
use Rattle.std.specs.Borrow.{Bor}
use Rattle.std.specs.Option.{option_map, option_and_then}
use Rattle.fr_value.specs.Data.{datum_of, data_of}
use Rattle.fr_value.specs.declared.value.Datum.{Datum}
use Rattle.fr_value.specs.declared.value.Value.{Value}
use Rattle.fr_value.specs.declared.value.Value.TheVariants as value
use Rattle.fr_syntax.specs.declared.expr.Expr.{Expr}
use Rattle.fr_syntax.specs.declared.expr.Expr.TheVariants as expr
use Rattle.fr_syntax.specs.declared.layouts.Layout.{Layout}
use Rattle.fr_syntax.specs.declared.layouts.Layout.TheVariants as layout
use Rattle.fr_syntax.specs.declared.layouts.Single.{Single}
use Rattle.fr_syntax.specs.declared.layouts.Single.TheVariants as single
use Rattle.fr_syntax.specs.declared.layouts.Handler.{Handler}
use Rattle.fr_syntax.specs.declared.layouts.Handler.TheVariants as handler
use Rattle.fr_syntax.specs.declared.layouts.Double.{Double}
use Rattle.fr_syntax.specs.declared.layouts.Double.TheVariants as double
use Rattle.fr_syntax.specs.declared.layouts.Collector.{Collector}
use Rattle.fr_syntax.specs.declared.layouts.Collector.TheVariants as collector
use Rattle.fr_syntax.specs.declared.layouts.Triple.{Triple}
use Rattle.fr_syntax.specs.declared.layouts.Triple.TheVariants as triple
use Rattle.fr_syntax.specs.declared.layouts.Many.{Many}
use Rattle.fr_syntax.specs.declared.layouts.Many.TheVariants as many
use Rattle.fr_syntax.specs.declared.layouts.Binder.{Binder}
use Rattle.fr_syntax.specs.declared.layouts.Binder.TheVariants as binder
use Rattle.fr_syntax.specs.Shapes.{Below, Bindings, symbols, each, both, bindings, test_clause, clauses}
use Rattle.fr_syntax.specs.Shapes.{triple as all_three}

-- the data of borrowed values
abbrev pub datum_at : Bor Value → Datum
datum_at v = datum_of v.now

abbrev pub data_at : Bor (List Value) → List Datum
data_at vs = data_of vs.now

abbrev pub listed_at : Bor (List Datum) → List Datum
listed_at l = l.now

-- these are the items of the list that a value is
abbrev pub AreItems : Value → List Value → Type 0
AreItems (value.List ds) vs = data_of vs ≡ ds
AreItems v vs = Unit {0}

abbrev pub two_at : Bor Value × Bor Value → Datum × Datum
two_at x = (datum_of x.0.now, datum_of x.1.now)

abbrev pub three_at : Bor Value × Bor Value × Bor Value → Datum × Datum × Datum
three_at x = (datum_of x.0.now, datum_of x.1.now, datum_of x.2.now)

-- the expression of a form with a handler of one parameter, of two
abbrev pub handler_of : Handler → List ℕ → Expr → Expr → Expr
handler_of handler.MapE n a b = expr.MapE n a b
handler_of handler.FilterE n a b = expr.FilterE n a b

abbrev pub collector_of : Collector → Expr → Expr → List ℕ → List ℕ → Expr → Expr
collector_of collector.CollectB a b n m c = expr.CollectB a b n m c
collector_of collector.CollectE a b n m c = expr.CollectE a b n m c

-- the expression of a form of one, two, three expressions
abbrev pub single_of : Single → Expr → Expr
single_of single.Changes a = expr.Changes a
single_of single.OnceE a = expr.OnceE a
single_of single.DelayE a = expr.DelayE a

abbrev pub double_of : Double → Expr → Expr → Expr
double_of double.Hold a b = expr.Hold a b
double_of double.Delay a b = expr.Delay a b
double_of (double.Handler h n) a b = handler_of h n.now a b
double_of (double.Feedback n) a b = expr.Feedback n.now a b

abbrev pub triple_of : Triple → Expr → Expr → Expr → Expr
triple_of triple.If a b c = expr.If a b c
triple_of (triple.Fold n m) a b c = expr.Fold n.now m.now a b c
triple_of (triple.Repeat n) a b c = expr.Repeat n.now a b c
triple_of (triple.Collector k n m) a b c = collector_of k a b n.now m.now c

-- the expression of a form of any number of expressions
abbrev pub many_of : Many → List Expr → Expr
many_of many.And es = expr.And es
many_of many.Or es = expr.Or es
many_of many.MergeE es = expr.MergeE es
many_of (many.Call n) es = expr.Call n.now es

-- the expression of a form with bindings and a body
abbrev pub binder_of : Binder → List (List ℕ) → List Expr → Expr → Expr
binder_of binder.Let ns es b = expr.Let ns es b
binder_of binder.LetStar ns es b = expr.LetStar ns es b

-- bindings and the body behind them
abbrev pub bound : Below → List Datum → Datum → Option (Bindings × Expr)
bound below ds body = option_and_then (λ x. option_map (λ b. (x, b)) (below body)) (bindings below ds)

-- the tests and the expressions of the clauses before the last
abbrev pub clauses_before : Below → List Datum → Option (List Expr × List Expr)
clauses_before below [] = Some ([], [])
clauses_before below (d ∷ ds) = option_and_then (λ c. option_map (λ cs. (c.0 ∷ cs.0, c.1 ∷ cs.1)) (clauses_before below ds)) (test_clause below d)

-- the expression of a form, where the data in it are shaped so
abbrev pub filled : Below → Layout → Option Expr
filled below (layout.Literal v) = Some (expr.Literal v.now)
filled below (layout.Name n) = Some (expr.Name n.now)
filled below (layout.One k a) = option_map (single_of k) (below (datum_at a))
filled below (layout.Two k a b) = option_map (λ x. double_of k x.0 x.1) (both below (two_at (a, b)))
filled below (layout.Three k a b c) = option_map (λ x. triple_of k x.0 x.1 x.2) (all_three below (three_at (a, b, c)))
filled below (layout.Many k vs) = option_map (many_of k) (each below (data_at vs))
filled below (layout.Bindings k bs body) = option_map (λ x. binder_of k x.0.0 x.0.1 x.1) (bound below (listed_at bs) (datum_at body))
filled below (layout.Cond cs) = option_map (λ x. expr.Cond x.0.0 x.0.1 x.1) (clauses below (data_at cs))

-- the expression of one value, the expressions of two
abbrev pub shaped_at : Below → Bor Value → Option Expr
shaped_at below v = below (datum_at v)

abbrev pub shaped_both : Below → Bor Value × Bor Value → Option (Expr × Expr)
shaped_both below x = both below (two_at x)

-- a name, and the expression beside it
abbrev pub named_in : Below → Bor (List ℕ) × Bor Value → Option (List ℕ × Expr)
named_in below x = option_map (λ e. (x.0.now, e)) (below (datum_at x.1))

-- the parameters and the body of a `lambda`
abbrev pub lambda_in : Below → Bor (List Datum) × Bor Value → Option (List (List ℕ) × Expr)
lambda_in below x = option_and_then (λ ps. option_map (λ b. (ps, b)) (below (datum_at x.1))) (symbols (listed_at x.0))

-- two names, and the expression behind them
abbrev pub two_named_in : Below → Bor (List ℕ) × Bor (List ℕ) × Bor Value → Option (List ℕ × List ℕ × Expr)
two_named_in below x = option_map (λ e. (x.0.now, x.1.now, e)) (below (datum_at x.2))
