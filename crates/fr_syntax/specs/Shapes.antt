-- Which data have the shape of a form, and what they are then.
use Rattle.std.specs.Prelude.{ℕ, zero, suc, List, [], ◌∷◌, Option, Some, None}
use Rattle.std.specs.Option.{option_map, option_and_then}
use Rattle.fr_value.specs.Data.{value_of}
use Rattle.fr_value.specs.Limits.{data_levels}
use Rattle.fr_value.specs.declared.value.Datum.{Datum}
use Rattle.fr_value.specs.declared.value.Value.{Value}
use Rattle.fr_value.specs.declared.value.Value.TheVariants as value
use Rattle.fr_syntax.specs.declared.keyword.Keyword.{Keyword}
use Rattle.fr_syntax.specs.declared.keyword.Keyword.TheVariants as keyword
use Rattle.fr_syntax.specs.declared.expr.Expr.{Expr}
use Rattle.fr_syntax.specs.declared.expr.Expr.TheVariants as expr
use Rattle.fr_syntax.specs.declared.form.Form.{Form}
use Rattle.fr_syntax.specs.declared.form.Form.TheVariants as form
use Rattle.fr_syntax.specs.Keywords.{keyword_named}
use Rattle.fr_syntax.specs.Outlines.{symbol_of, keyword_of}

-- the shaping of the data one level below: the expression that a datum is, or none
abbrev pub Below : Type 0
Below = Datum → Option Expr

-- the items of a list
abbrev pub items_of : Value → Option (List Datum)
items_of (value.List ds) = Some ds
items_of v = None

-- a list of exactly one, two, three data
abbrev pub one_in : List Datum → Option Datum
one_in (a ∷ []) = Some a
one_in ds = None

abbrev pub two_in : List Datum → Option (Datum × Datum)
two_in (a ∷ b ∷ []) = Some (a, b)
two_in ds = None

abbrev pub three_in : List Datum → Option (Datum × Datum × Datum)
three_in (a ∷ b ∷ c ∷ []) = Some (a, b, c)
three_in ds = None

-- all of these as expressions
abbrev pub each : Below → List Datum → Option (List Expr)
each below [] = Some []
each below (d ∷ ds) = option_and_then (λ e. option_map (λ es. e ∷ es) (each below ds)) (below d)

-- two, three data as expressions
abbrev pub both : Below → Datum × Datum → Option (Expr × Expr)
both below x = option_and_then (λ a. option_map (λ b. (a, b)) (below x.1)) (below x.0)

abbrev pub triple : Below → Datum × Datum × Datum → Option (Expr × Expr × Expr)
triple below x = option_and_then (λ a. option_and_then (λ b. option_map (λ c. (a, b, c)) (below x.2)) (below x.1)) (below x.0)

-- all of these as symbols
abbrev pub symbols : List Datum → Option (List (List ℕ))
symbols [] = Some []
symbols (d ∷ ds) = option_and_then (λ s. option_map (λ ss. s ∷ ss) (symbols ds)) (symbol_of (value_of d))

-- names and the expressions that they are bound to
abbrev pub Bindings : Type 0
Bindings = List (List ℕ) × List Expr

-- the name and the expression of a binding `(NAME EXPR)`
abbrev pub binding : Below → Datum → Option (List ℕ × Expr)
binding below d = option_and_then (λ x. option_and_then (λ s. option_map (λ e. (s, e)) (below x.1)) (symbol_of (value_of x.0)))
    (option_and_then two_in (items_of (value_of d)))

-- the bindings `(NAME EXPR) ...`
abbrev pub bindings : Below → List Datum → Option Bindings
bindings below [] = Some ([], [])
bindings below (d ∷ ds) = option_and_then (λ b. option_map (λ bs. (b.0 ∷ bs.0, b.1 ∷ bs.1)) (bindings below ds)) (binding below d)

-- `((NAME EXPR) ...) BODY` of a `let` or `let*`
abbrev pub let_form : Below → (List (List ℕ) → List Expr → Expr → Expr) → List Datum → Option Expr
let_form below make ds = option_and_then (λ x. option_and_then (λ bs. option_map (make bs.0 bs.1) (below x.1)) (option_and_then (bindings below) (items_of (value_of x.0))))
    (two_in ds)

abbrev pub else_with : Below → Option Keyword → Datum → Option Expr
else_with below (Some keyword.Else) d = below d
else_with below k d = None

-- the clause `(else EXPR)`
abbrev pub else_clause : Below → Datum → Option Expr
else_clause below d = option_and_then (λ x. else_with below (keyword_of (value_of x.0)) x.1) (option_and_then two_in (items_of (value_of d)))

abbrev pub test_with : Below → Option Keyword → Datum × Datum → Option (Expr × Expr)
test_with below (Some keyword.Else) x = None
test_with below k x = both below x

-- the clause `(TEST EXPR)`; its test isn't the word `else`
abbrev pub test_clause : Below → Datum → Option (Expr × Expr)
test_clause below d = option_and_then (λ x. test_with below (keyword_of (value_of x.0)) x) (option_and_then two_in (items_of (value_of d)))

-- the clauses of a `cond`: tests and their expressions, and the expression of the last, which is `(else EXPR)`
abbrev pub Clauses : Type 0
Clauses = (List Expr × List Expr) × Expr

abbrev pub clauses : Below → List Datum → Option Clauses
clauses below [] = None
clauses below (d ∷ []) = option_map (λ e. (([], []), e)) (else_clause below d)
clauses below (d ∷ ds) = option_and_then (λ c. option_map (λ cs. ((c.0 ∷ cs.0.0, c.1 ∷ cs.0.1), cs.1)) (clauses below ds)) (test_clause below d)

-- the single binding in a list `((NAME EXPR))`
abbrev pub lone_binding : Below → Datum → Option (List ℕ × Expr)
lone_binding below d = option_and_then (binding below) (option_and_then one_in (items_of (value_of d)))

-- `((ACC INIT)) ((ITEM LIST)) BODY`
abbrev pub fold_form : Below → List Datum → Option Expr
fold_form below ds = option_and_then (λ x. option_and_then (λ a. option_and_then (λ b. option_map (expr.Fold a.0 b.0 a.1 b.1) (below x.2)) (lone_binding below x.1)) (lone_binding below x.0))
    (three_in ds)

-- `(ACC INIT) COUNT BODY`
abbrev pub repeat_form : Below → List Datum → Option Expr
repeat_form below ds = option_and_then (λ x. option_and_then (λ a. option_and_then (λ n. option_map (expr.Repeat a.0 a.1 n) (below x.2)) (below x.1)) (binding below x.0))
    (three_in ds)

-- `(NAME INIT) BODY`
abbrev pub feedback_form : Below → List Datum → Option Expr
feedback_form below ds = option_and_then (λ x. option_and_then (λ a. option_map (expr.Feedback a.0 a.1) (below x.1)) (binding below x.0)) (two_in ds)

abbrev pub lambda_with : Below → Option Keyword → Datum × Datum × Datum → Option (List (List ℕ) × Expr)
lambda_with below (Some keyword.Lambda) x = option_and_then (λ ps. option_map (λ b. (ps, b)) (below x.2)) (option_and_then symbols (items_of (value_of x.1)))
lambda_with below k x = None

-- the parameters and the body of `(lambda (NAME ...) BODY)`
abbrev pub lambda_of : Below → Datum → Option (List (List ℕ) × Expr)
lambda_of below d = option_and_then (λ x. lambda_with below (keyword_of (value_of x.0)) x) (option_and_then three_in (items_of (value_of d)))

abbrev pub named_one : List (List ℕ) → Expr → Option (List ℕ × Expr)
named_one (v ∷ []) b = Some (v, b)
named_one vs b = None

-- a handler of one parameter, of two
abbrev pub one_param : List (List ℕ) × Expr → Option (List ℕ × Expr)
one_param x = named_one x.0 x.1

abbrev pub named_two : List (List ℕ) → Expr → Option (List ℕ × List ℕ × Expr)
named_two (v ∷ a ∷ []) b = Some (v, a, b)
named_two vs b = None

abbrev pub two_params : List (List ℕ) × Expr → Option (List ℕ × List ℕ × Expr)
two_params x = named_two x.0 x.1

-- `(lambda (PAYLOAD) BODY) EVENT`
abbrev pub event_handler_form : Below → (List ℕ → Expr → Expr → Expr) → List Datum → Option Expr
event_handler_form below make ds = option_and_then (λ x. option_and_then (λ h. option_map (make h.0 h.1) (below x.1)) (option_and_then one_param (lambda_of below x.0)))
    (two_in ds)

-- `EVENT INIT (lambda (PAYLOAD STATE) BODY)`
abbrev pub collect_form : Below → (Expr → Expr → List ℕ → List ℕ → Expr → Expr) → List Datum → Option Expr
collect_form below make ds = option_and_then (λ x. option_and_then (λ e. option_and_then (λ i. option_map (λ h. make e i h.0 h.1 h.2) (option_and_then two_params (lambda_of below x.2)))
    (below x.1)) (below x.0)) (three_in ds)

-- two or more events
abbrev pub merge_form : Below → List Datum → Option Expr
merge_form below (a ∷ b ∷ ds) = option_map expr.MergeE (each below (a ∷ b ∷ ds))
merge_form below ds = None

-- forms of one, two, three expressions
abbrev pub one_part : Below → (Expr → Expr) → List Datum → Option Expr
one_part below make ds = option_map make (option_and_then below (one_in ds))

abbrev pub two_parts : Below → (Expr → Expr → Expr) → List Datum → Option Expr
two_parts below make ds = option_map (λ x. make x.0 x.1) (option_and_then (both below) (two_in ds))

abbrev pub three_parts : Below → (Expr → Expr → Expr → Expr) → List Datum → Option Expr
three_parts below make ds = option_map (λ x. make x.0 x.1 x.2) (option_and_then (triple below) (three_in ds))

-- the expression of a list that begins with a keyword, from what stands behind it
abbrev pub keyword_form : Below → Keyword → List Datum → Option Expr
keyword_form below keyword.Quote ds = option_map (λ d. expr.Literal (value_of d)) (one_in ds)
keyword_form below keyword.If ds = three_parts below expr.If ds
keyword_form below keyword.Let ds = let_form below expr.Let ds
keyword_form below keyword.LetStar ds = let_form below expr.LetStar ds
keyword_form below keyword.Cond ds = option_map (λ cs. expr.Cond cs.0.0 cs.0.1 cs.1) (clauses below ds)
keyword_form below keyword.And ds = option_map expr.And (each below ds)
keyword_form below keyword.Or ds = option_map expr.Or (each below ds)
keyword_form below keyword.ForFold ds = fold_form below ds
keyword_form below keyword.Repeat ds = repeat_form below ds
keyword_form below keyword.MapE ds = event_handler_form below expr.MapE ds
keyword_form below keyword.FilterE ds = event_handler_form below expr.FilterE ds
keyword_form below keyword.MergeE ds = merge_form below ds
keyword_form below keyword.Hold ds = two_parts below expr.Hold ds
keyword_form below keyword.CollectB ds = collect_form below expr.CollectB ds
keyword_form below keyword.CollectE ds = collect_form below expr.CollectE ds
keyword_form below keyword.Changes ds = one_part below expr.Changes ds
keyword_form below keyword.OnceE ds = one_part below expr.OnceE ds
keyword_form below keyword.Delay ds = two_parts below expr.Delay ds
keyword_form below keyword.DelayE ds = one_part below expr.DelayE ds
keyword_form below keyword.Feedback ds = feedback_form below ds
keyword_form below k ds = None

-- a list that begins with this name: a keyword's form, or a call
abbrev pub named_form : Below → Option Keyword → List ℕ → List Datum → Option Expr
named_form below (Some k) name ds = keyword_form below k ds
named_form below None name ds = option_map (expr.Call name) (each below ds)

-- the expression that a value is, where the data in it are shaped so
abbrev pub expr_at : Below → Value → Option Expr
expr_at below (value.Int n) = Some (expr.Literal (value.Int n))
expr_at below (value.Bool b) = Some (expr.Literal (value.Bool b))
expr_at below (value.Str s) = Some (expr.Literal (value.Str s))
expr_at below (value.Sym s) = Some (expr.Name s)
expr_at below (value.List []) = None
expr_at below (value.List (d ∷ ds)) = option_and_then (λ s. named_form below (keyword_named s) s ds) (symbol_of (value_of d))

-- the expression that a datum is, to a number of nested levels
unfoldable pub expr_to : ℕ → Below
expr_to zero d = None
expr_to (suc n) d = expr_at (expr_to n) (value_of d)

-- the expression that a datum is: its parts are data, and nest no deeper than data do
abbrev pub expr_of : Datum → Option Expr
expr_of = expr_to data_levels

-- `NAME EXPR`
abbrev pub named_expr : (List ℕ → Expr → Form) → Datum × Datum → Option Form
named_expr make x = option_and_then (λ s. option_map (make s) (expr_of x.1)) (symbol_of (value_of x.0))

abbrev pub function_with : List (List ℕ) → Datum → Option Form
function_with [] body = None
function_with (name ∷ params) body = option_map (form.Function name params) (expr_of body)

-- `(NAME PARAM ...) BODY`
abbrev pub function_form : List Datum → Datum → Option Form
function_form head body = option_and_then (λ ss. function_with ss body) (symbols head)

abbrev pub define_at : Value → Datum × Datum → Option Form
define_at (value.List head) x = function_form head x.1
define_at v x = named_expr form.Define x

-- what stands behind `define`
abbrev pub define_form : Datum × Datum → Option Form
define_form x = define_at (value_of x.0) x

-- `NAME DATUM`
abbrev pub input_form : Datum × Datum → Option Form
input_form x = option_map (λ s. form.Input s (value_of x.1)) (symbol_of (value_of x.0))

-- a form that begins with this keyword
abbrev pub form_with : Option Keyword → List Datum → Option Form
form_with (Some keyword.DefineInput) ds = option_and_then input_form (two_in ds)
form_with (Some keyword.DefineEvent) ds = option_map form.Event (option_and_then (λ d. symbol_of (value_of d)) (one_in ds))
form_with (Some keyword.Define) ds = option_and_then define_form (two_in ds)
form_with (Some keyword.Show) ds = option_and_then (named_expr form.Show) (two_in ds)
form_with k ds = None

abbrev pub form_at : Value → Option Form
form_at (value.List (head ∷ ds)) = form_with (keyword_of (value_of head)) ds
form_at v = None

-- the form that a datum is, or none where the datum, or an expression in it, has the shape of no form
unfoldable pub form_of : Datum → Option Form
form_of d = form_at (value_of d)
