-- A form weighs at most what its datum's size is.
use Rattle.std.specs.Prelude.{ℕ, zero, suc, ◌≡◌, ◌+◌, ◌≤◌, List, [], ◌∷◌, length, Option, Some, None, Result, Ok, Err, IfOk, IfSome}
use Rattle.std.proofs.Common.{refl, sym, arith, subst}
use Rattle.std.specs.Option.{option_map, option_and_then}
use Rattle.fr_value.specs.Data.{datum_size, value_size, value_of, data_size}
use Rattle.fr_value.specs.declared.value.Datum.{Datum}
use Rattle.fr_value.specs.declared.value.Value.{Value}
use Rattle.fr_value.specs.declared.value.Value.TheVariants as value
use Rattle.fr_syntax.specs.declared.keyword.Keyword.{Keyword}
use Rattle.fr_syntax.specs.declared.keyword.Keyword.TheVariants as keyword
use Rattle.fr_syntax.specs.declared.expr.Expr.{Expr}
use Rattle.fr_syntax.specs.declared.expr.Expr.TheVariants as expr
use Rattle.fr_syntax.specs.declared.form.Form.{Form}
use Rattle.fr_syntax.specs.declared.form.Form.TheVariants as form
use Rattle.fr_syntax.specs.Keywords.{keyword_named}
use Rattle.fr_syntax.specs.Outlines.{symbol_of, keyword_of}
use Rattle.fr_syntax.specs.Shapes.{Below, items_of, one_in, two_in, three_in, each, both, triple, symbols, binding, bindings, clauses, lone_binding, lambda_of, one_param, two_params, let_form, fold_form, repeat_form, feedback_form, event_handler_form, collect_form, merge_form, one_part, two_parts, three_parts, keyword_form, named_form, expr_at, expr_to, expr_of, named_expr, function_with, function_form, define_at, define_form, input_form, form_with, form_at, form_of}
use Rattle.fr_syntax.specs.Weights.{weight, form_weight}
use Rattle.fr_syntax.proofs.Bounds.{AtMost, then_small, map_small, wider, free, same_size, positive}
use Rattle.fr_syntax.proofs.Small.{all_sizes, all_weights, IsSmall, two_sizes, three_sizes, two_weights, three_weights, named_weight, bound_weight, clauses_weight, step_weight, ones, twos, threes, items_in, each_small, both_small, triple_small, symbols_small, binding_small, bindings_small, lone_small, clauses_small, handler_small, step_small}
use Rattle.fr_syntax.proofs.Weights.{weight-Literal, weight-Name, weight-If, weight-Let, weight-LetStar, weight-Cond, weight-And, weight-Or, weight-Fold, weight-Repeat, weight-MapE, weight-FilterE, weight-MergeE, weight-Hold, weight-CollectB, weight-CollectE, weight-Changes, weight-OnceE, weight-Delay, weight-DelayE, weight-Feedback, weight-Call}
use Rattle.fr_value.specs.Limits.{data_levels}

one_form : (below : Below) → IsSmall below → (make : Expr → Expr) → ((a : Expr) → weight (make a) ≡ 1 + weight a)
    → (ds : List Datum) → AtMost weight (1 + all_sizes ds) (one_part below make ds)
one_form below small make made ds =
    map_small make (option_and_then below (one_in ds)) weight weight (all_sizes ds) (1 + all_sizes ds)
    (then_small below (one_in ds) datum_size weight (all_sizes ds) (all_sizes ds) (ones ds) (λ d h. wider (below d) weight (datum_size d) (all_sizes ds) (small d) h))
    (λ a h. omega (arith, h, made a))

two_form : (below : Below) → IsSmall below → (make : Expr → Expr → Expr) → ((a b : Expr) → weight (make a b) ≡ 1 + weight a + weight b)
    → (ds : List Datum) → AtMost weight (1 + all_sizes ds) (two_parts below make ds)
two_form below small make made ds =
    map_small (λ x. make x.0 x.1) (option_and_then (both below) (two_in ds)) two_weights weight (all_sizes ds) (1 + all_sizes ds)
    (then_small (both below) (two_in ds) two_sizes two_weights (all_sizes ds) (all_sizes ds) (twos ds) (λ x h. wider (both below x) two_weights (two_sizes x) (all_sizes ds) (both_small below small x) h))
    (λ x h. omega (arith, h, made x.0 x.1))

if_small : (below : Below) → IsSmall below → (ds : List Datum) → AtMost weight (1 + all_sizes ds) (three_parts below expr.If ds)
if_small below small ds =
    map_small (λ x. expr.If x.0 x.1 x.2) (option_and_then (triple below) (three_in ds)) three_weights weight (all_sizes ds) (1 + all_sizes ds)
    (then_small (triple below) (three_in ds) three_sizes three_weights (all_sizes ds) (all_sizes ds) (threes ds)
    (λ x h. wider (triple below x) three_weights (three_sizes x) (all_sizes ds) (triple_small below small x) h))
    (λ x h. omega (arith, h, weight-If x.0 x.1 x.2))

let_small : (below : Below) → IsSmall below → (make : List (List ℕ) → List Expr → Expr → Expr)
    → ((ns : List (List ℕ)) (es : List Expr) (b : Expr) → weight (make ns es b) ≡ 1 + length ns + all_weights es + weight b)
    → (ds : List Datum) → AtMost weight (1 + all_sizes ds) (let_form below make ds)
let_small below small make made ds =
    then_small (λ x. option_and_then (λ bs. option_map (make bs.0 bs.1) (below x.1)) (option_and_then (bindings below) (items_of (value_of x.0)))) (two_in ds)
    two_sizes weight (all_sizes ds) (1 + all_sizes ds) (twos ds)
    (λ x h. then_small (λ bs. option_map (make bs.0 bs.1) (below x.1)) (option_and_then (bindings below) (items_of (value_of x.0))) bound_weight weight (datum_size x.0) (1 + all_sizes ds)
    (then_small (bindings below) (items_of (value_of x.0)) data_size bound_weight (datum_size x.0) (datum_size x.0) (items_in x.0)
    (λ es k. wider (bindings below es) bound_weight (all_sizes es) (datum_size x.0) (bindings_small below small es) (omega (arith, k))))
    (λ bs k. map_small (make bs.0 bs.1) (below x.1) weight weight (datum_size x.1) (1 + all_sizes ds) (small x.1) (λ b l. omega (arith, h, k, l, made bs.0 bs.1 b))))

fold_small : (below : Below) → IsSmall below → (ds : List Datum) → AtMost weight (1 + all_sizes ds) (fold_form below ds)
fold_small below small ds =
    then_small (λ x. option_and_then (λ a. option_and_then (λ b. option_map (expr.Fold a.0 b.0 a.1 b.1) (below x.2)) (lone_binding below x.1)) (lone_binding below x.0)) (three_in ds)
    three_sizes weight (all_sizes ds) (1 + all_sizes ds) (threes ds)
    (λ x h. then_small (λ a. option_and_then (λ b. option_map (expr.Fold a.0 b.0 a.1 b.1) (below x.2)) (lone_binding below x.1)) (lone_binding below x.0)
    named_weight weight (datum_size x.0) (1 + all_sizes ds) (lone_small below small x.0)
    (λ a k. then_small (λ b. option_map (expr.Fold a.0 b.0 a.1 b.1) (below x.2)) (lone_binding below x.1) named_weight weight (datum_size x.1) (1 + all_sizes ds) (lone_small below small x.1)
    (λ b l. map_small (expr.Fold a.0 b.0 a.1 b.1) (below x.2) weight weight (datum_size x.2) (1 + all_sizes ds) (small x.2)
    (λ c m. omega (arith, h, k, l, m, weight-Fold a.0 b.0 a.1 b.1 c)))))

repeat_small : (below : Below) → IsSmall below → (ds : List Datum) → AtMost weight (1 + all_sizes ds) (repeat_form below ds)
repeat_small below small ds =
    then_small (λ x. option_and_then (λ a. option_and_then (λ n. option_map (expr.Repeat a.0 a.1 n) (below x.2)) (below x.1)) (binding below x.0)) (three_in ds)
    three_sizes weight (all_sizes ds) (1 + all_sizes ds) (threes ds)
    (λ x h. then_small (λ a. option_and_then (λ n. option_map (expr.Repeat a.0 a.1 n) (below x.2)) (below x.1)) (binding below x.0) named_weight weight (datum_size x.0) (1 + all_sizes ds)
    (binding_small below small x.0)
    (λ a k. then_small (λ n. option_map (expr.Repeat a.0 a.1 n) (below x.2)) (below x.1) weight weight (datum_size x.1) (1 + all_sizes ds) (small x.1)
    (λ n l. map_small (expr.Repeat a.0 a.1 n) (below x.2) weight weight (datum_size x.2) (1 + all_sizes ds) (small x.2)
    (λ b m. omega (arith, h, k, l, m, weight-Repeat a.0 a.1 n b)))))

feedback_small : (below : Below) → IsSmall below → (ds : List Datum) → AtMost weight (1 + all_sizes ds) (feedback_form below ds)
feedback_small below small ds =
    then_small (λ x. option_and_then (λ a. option_map (expr.Feedback a.0 a.1) (below x.1)) (binding below x.0)) (two_in ds) two_sizes weight (all_sizes ds) (1 + all_sizes ds) (twos ds)
    (λ x h. then_small (λ a. option_map (expr.Feedback a.0 a.1) (below x.1)) (binding below x.0) named_weight weight (datum_size x.0) (1 + all_sizes ds) (binding_small below small x.0)
    (λ a k. map_small (expr.Feedback a.0 a.1) (below x.1) weight weight (datum_size x.1) (1 + all_sizes ds) (small x.1)
    (λ b l. omega (arith, h, k, l, weight-Feedback a.0 a.1 b))))

event_small : (below : Below) → IsSmall below → (make : List ℕ → Expr → Expr → Expr) → ((n : List ℕ) (a b : Expr) → weight (make n a b) ≡ 2 + weight a + weight b)
    → (ds : List Datum) → AtMost weight (1 + all_sizes ds) (event_handler_form below make ds)
event_small below small make made ds =
    then_small (λ x. option_and_then (λ h. option_map (make h.0 h.1) (below x.1)) (option_and_then one_param (lambda_of below x.0))) (two_in ds)
    two_sizes weight (all_sizes ds) (1 + all_sizes ds) (twos ds)
    (λ x h. then_small (λ h. option_map (make h.0 h.1) (below x.1)) (option_and_then one_param (lambda_of below x.0)) named_weight weight (datum_size x.0) (1 + all_sizes ds)
    (handler_small below small x.0)
    (λ a k. map_small (make a.0 a.1) (below x.1) weight weight (datum_size x.1) (1 + all_sizes ds) (small x.1) (λ b l. omega (arith, h, k, l, made a.0 a.1 b))))

collect_small : (below : Below) → IsSmall below → (make : Expr → Expr → List ℕ → List ℕ → Expr → Expr)
    → ((a b : Expr) (n m : List ℕ) (c : Expr) → weight (make a b n m c) ≡ 3 + weight a + weight b + weight c)
    → (ds : List Datum) → AtMost weight (1 + all_sizes ds) (collect_form below make ds)
collect_small below small make made ds =
    then_small (λ x. option_and_then (λ e. option_and_then (λ i. option_map (λ h. make e i h.0 h.1 h.2) (option_and_then two_params (lambda_of below x.2))) (below x.1)) (below x.0)) (three_in ds)
    three_sizes weight (all_sizes ds) (1 + all_sizes ds) (threes ds)
    (λ x h. then_small (λ e. option_and_then (λ i. option_map (λ h. make e i h.0 h.1 h.2) (option_and_then two_params (lambda_of below x.2))) (below x.1)) (below x.0)
    weight weight (datum_size x.0) (1 + all_sizes ds) (small x.0)
    (λ e k. then_small (λ i. option_map (λ h. make e i h.0 h.1 h.2) (option_and_then two_params (lambda_of below x.2))) (below x.1) weight weight (datum_size x.1) (1 + all_sizes ds) (small x.1)
    (λ i l. map_small (λ h. make e i h.0 h.1 h.2) (option_and_then two_params (lambda_of below x.2)) step_weight weight (datum_size x.2) (1 + all_sizes ds) (step_small below small x.2)
    (λ b m. omega (arith, h, k, l, m, made e i b.0 b.1 b.2)))))

many_small : (below : Below) → IsSmall below → (make : List Expr → Expr) → ((es : List Expr) → weight (make es) ≡ 1 + all_weights es)
    → (ds : List Datum) → AtMost weight (1 + all_sizes ds) (option_map make (each below ds))
many_small below small make made ds =
    map_small make (each below ds) all_weights weight (all_sizes ds) (1 + all_sizes ds) (each_small below small ds) (λ es h. omega (arith, h, made es))

merge_small : (below : Below) → IsSmall below → (ds : List Datum) → AtMost weight (1 + all_sizes ds) (merge_form below ds)
merge_small below small [] = tt
merge_small below small (a ∷ []) = tt
merge_small below small (a ∷ b ∷ ds) = many_small below small expr.MergeE weight-MergeE (a ∷ b ∷ ds)

cond_small : (below : Below) → IsSmall below → (ds : List Datum) → AtMost weight (1 + all_sizes ds) (option_map (λ cs. expr.Cond cs.0.0 cs.0.1 cs.1) (clauses below ds))
cond_small below small ds =
    map_small (λ cs. expr.Cond cs.0.0 cs.0.1 cs.1) (clauses below ds) clauses_weight weight (all_sizes ds) (1 + all_sizes ds) (clauses_small below small ds)
    (λ cs h. omega (arith, h, weight-Cond cs.0.0 cs.0.1 cs.1))

quote_small : (ds : List Datum) → AtMost weight (1 + all_sizes ds) (option_map (λ d. expr.Literal (value_of d)) (one_in ds))
quote_small ds = map_small (λ d. expr.Literal (value_of d)) (one_in ds) datum_size weight (all_sizes ds) (1 + all_sizes ds) (ones ds) (λ d h. omega (arith, weight-Literal (value_of d)))

keyword_small : (below : Below) → IsSmall below → (k : Keyword) (ds : List Datum) → AtMost weight (1 + all_sizes ds) (keyword_form below k ds)
keyword_small below small keyword.Quote ds = quote_small ds
keyword_small below small keyword.If ds = if_small below small ds
keyword_small below small keyword.Let ds = let_small below small expr.Let weight-Let ds
keyword_small below small keyword.LetStar ds = let_small below small expr.LetStar weight-LetStar ds
keyword_small below small keyword.Cond ds = cond_small below small ds
keyword_small below small keyword.And ds = many_small below small expr.And weight-And ds
keyword_small below small keyword.Or ds = many_small below small expr.Or weight-Or ds
keyword_small below small keyword.ForFold ds = fold_small below small ds
keyword_small below small keyword.Repeat ds = repeat_small below small ds
keyword_small below small keyword.MapE ds = event_small below small expr.MapE weight-MapE ds
keyword_small below small keyword.FilterE ds = event_small below small expr.FilterE weight-FilterE ds
keyword_small below small keyword.MergeE ds = merge_small below small ds
keyword_small below small keyword.Hold ds = two_form below small expr.Hold weight-Hold ds
keyword_small below small keyword.CollectB ds = collect_small below small expr.CollectB weight-CollectB ds
keyword_small below small keyword.CollectE ds = collect_small below small expr.CollectE weight-CollectE ds
keyword_small below small keyword.Changes ds = one_form below small expr.Changes weight-Changes ds
keyword_small below small keyword.OnceE ds = one_form below small expr.OnceE weight-OnceE ds
keyword_small below small keyword.Delay ds = two_form below small expr.Delay weight-Delay ds
keyword_small below small keyword.DelayE ds = one_form below small expr.DelayE weight-DelayE ds
keyword_small below small keyword.Feedback ds = feedback_small below small ds
keyword_small below small k ds = tt

headed_small : (below : Below) → IsSmall below → (k : Option Keyword) (s : List ℕ) (ds : List Datum) → AtMost weight (1 + all_sizes ds) (named_form below k s ds)
headed_small below small (Some k) s ds = keyword_small below small k ds
headed_small below small None s ds = many_small below small (expr.Call s) (weight-Call s) ds

one_level : (below : Below) → IsSmall below → (v : Value) → AtMost weight (value_size v) (expr_at below v)
one_level below small (value.Int n) = omega (arith, weight-Literal (value.Int n))
one_level below small (value.Bool b) = omega (arith, weight-Literal (value.Bool b))
one_level below small (value.Str s) = omega (arith, weight-Literal (value.Str s))
one_level below small (value.Sym s) = omega (arith, weight-Name s)
one_level below small (value.List []) = tt
one_level below small (value.List (d ∷ ds)) =
    then_small (λ s. named_form below (keyword_named s) s ds) (symbol_of (value_of d)) (λ s. 0) weight 0 (value_size (value.List (d ∷ ds))) (free (symbol_of (value_of d)))
    (λ s h. wider (named_form below (keyword_named s) s ds) weight (1 + all_sizes ds) (value_size (value.List (d ∷ ds))) (headed_small below small (keyword_named s) s ds) (omega arith))

-- an expression weighs at most what its datum's size is
pub expr_small : (n : ℕ) → IsSmall (expr_to n)
unfolding expr_to
expr_small zero d = tt
expr_small (suc n) d =
    wider (expr_at (expr_to n) (value_of d)) weight (value_size (value_of d)) (datum_size d) (one_level (expr_to n) (expr_small n) (value_of d)) (omega (arith, same_size d))

defined_small : (make : List ℕ → Expr → Form) → ((s : List ℕ) (e : Expr) → form_weight (make s e) ≡ 2 + weight e)
    → (x : Datum × Datum) → AtMost form_weight (1 + two_sizes x) (named_expr make x)
defined_small make made x =
    then_small (λ s. option_map (make s) (expr_of x.1)) (symbol_of (value_of x.0)) (λ s. 0) form_weight 0 (1 + two_sizes x) (free (symbol_of (value_of x.0)))
    (λ s h. map_small (make s) (expr_of x.1) weight form_weight (datum_size x.1) (1 + two_sizes x) (expr_small data_levels x.1) (λ e k. omega (arith, k, made s e, positive x.0)))

function_small : (ss : List (List ℕ)) (body : Datum) (n : ℕ) → length ss ≤ n → AtMost form_weight (1 + n + datum_size body) (function_with ss body)
function_small [] body n h = tt
function_small (name ∷ params) body n h =
    map_small (form.Function name params) (expr_of body) weight form_weight (datum_size body) (1 + n + datum_size body) (expr_small data_levels body) (λ e k. omega (arith, h, k))

define_small : (v : Value) (x : Datum × Datum) → value_size v ≡ datum_size x.0 → AtMost form_weight (1 + two_sizes x) (define_at v x)
define_small (value.List head) x same =
    wider (function_form head x.1) form_weight (1 + all_sizes head + datum_size x.1) (1 + two_sizes x)
    (then_small (λ ss. function_with ss x.1) (symbols head) length form_weight (all_sizes head) (1 + all_sizes head + datum_size x.1) (symbols_small head)
    (λ ss h. function_small ss x.1 (all_sizes head) h))
    (omega (arith, same))
define_small (value.Int n) x same = defined_small form.Define (λ s e. refl) x
define_small (value.Bool b) x same = defined_small form.Define (λ s e. refl) x
define_small (value.Sym s) x same = defined_small form.Define (λ s e. refl) x
define_small (value.Str s) x same = defined_small form.Define (λ s e. refl) x

input_small : (x : Datum × Datum) → AtMost form_weight (1 + two_sizes x) (input_form x)
input_small x =
    map_small (λ s. form.Input s (value_of x.1)) (symbol_of (value_of x.0)) (λ s. 0) form_weight 0 (1 + two_sizes x) (free (symbol_of (value_of x.0))) (λ s h. omega (arith, positive x.0))

named_event : (d : Datum) → AtMost (λ s. 1) (datum_size d) (symbol_of (value_of d))
named_event d = any (symbol_of (value_of d)) (positive d)
  where
    any : {A : Type 0} {n : ℕ} (o : Option A) → 1 ≤ n → AtMost (λ a. 1) n o
    any None h = tt
    any (Some a) h = h

two_data : (f : Datum × Datum → Option Form) → ((x : Datum × Datum) → AtMost form_weight (1 + two_sizes x) (f x)) → (ds : List Datum)
    → AtMost form_weight (1 + all_sizes ds) (option_and_then f (two_in ds))
two_data f small ds =
    then_small f (two_in ds) two_sizes form_weight (all_sizes ds) (1 + all_sizes ds) (twos ds) (λ x h. wider (f x) form_weight (1 + two_sizes x) (1 + all_sizes ds) (small x) (omega (arith, h)))

behind_keyword : (k : Option Keyword) (ds : List Datum) → AtMost form_weight (1 + all_sizes ds) (form_with k ds)
behind_keyword (Some keyword.DefineInput) ds = two_data input_form input_small ds
behind_keyword (Some keyword.DefineEvent) ds =
    map_small form.Event (option_and_then (λ d. symbol_of (value_of d)) (one_in ds)) (λ s. 1) form_weight (all_sizes ds) (1 + all_sizes ds)
    (then_small (λ d. symbol_of (value_of d)) (one_in ds) datum_size (λ s. 1) (all_sizes ds) (all_sizes ds) (ones ds)
    (λ d h. wider (symbol_of (value_of d)) (λ s. 1) (datum_size d) (all_sizes ds) (named_event d) h))
    (λ s h. omega (arith, h))
behind_keyword (Some keyword.Define) ds = two_data define_form (λ x. define_small (value_of x.0) x (same_size x.0)) ds
behind_keyword (Some keyword.Show) ds = two_data (named_expr form.Show) (defined_small form.Show (λ s e. refl)) ds
behind_keyword k ds = tt

listed : (v : Value) → AtMost form_weight (value_size v) (form_at v)
listed (value.List (head ∷ ds)) =
    wider (form_with (keyword_of (value_of head)) ds) form_weight (1 + all_sizes ds) (value_size (value.List (head ∷ ds))) (behind_keyword (keyword_of (value_of head)) ds) (omega arith)
listed (value.List []) = tt
listed (value.Int n) = tt
listed (value.Bool b) = tt
listed (value.Sym s) = tt
listed (value.Str s) = tt

-- a form weighs at most what its datum's size is
pub form_small : (d : Datum) → AtMost form_weight (datum_size d) (form_of d)
unfolding form_of
form_small d = wider (form_at (value_of d)) form_weight (value_size (value_of d)) (datum_size d) (listed (value_of d)) (omega (arith, same_size d))

pub form_weighs : (d : Datum) (f : Form) → form_of d ≡ Some f → form_weight f ≤ datum_size d
form_weighs d f e = subst (AtMost form_weight (datum_size d)) e (form_small d)

-- the same of what may have failed
pub result_small : (d : Datum) {E : Type 0} (r : Result (Option Form) E) → IfOk r (λ f. f ≡ form_of d) → IfOk r (λ o. IfSome o (λ f. form_weight f ≤ datum_size d))
result_small d (Ok None) h = tt
result_small d (Ok (Some f)) h = form_weighs d f (sym h)
result_small d (Err e) h = tt
