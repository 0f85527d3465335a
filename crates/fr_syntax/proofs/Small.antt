-- An expression weighs at most what its datum's size is, where the data in it do.
use Rattle.std.specs.Prelude.{ℕ, ◌+◌, ◌≤◌, List, [], ◌∷◌, map, length, Option, Some}
use Rattle.std.proofs.Common.{arith}
use Rattle.std.specs.Option.{option_map, option_and_then}
use Rattle.fr_value.specs.Data.{datum_size, value_size, value_of, data_size, total}
use Rattle.fr_value.specs.declared.value.Datum.{Datum}
use Rattle.fr_value.specs.declared.value.Value.{Value}
use Rattle.fr_value.specs.declared.value.Value.TheVariants as value
use Rattle.fr_syntax.specs.declared.keyword.Keyword.{Keyword}
use Rattle.fr_syntax.specs.declared.keyword.Keyword.TheVariants as keyword
use Rattle.fr_syntax.specs.declared.expr.Expr.{Expr}
use Rattle.fr_syntax.specs.Outlines.{symbol_of, keyword_of}
use Rattle.fr_syntax.specs.Shapes.{Below, Bindings, Clauses, items_of, one_in, two_in, three_in, each, both, triple, symbols, binding, bindings, else_with, else_clause, test_with, test_clause, clauses, lone_binding, lambda_with, lambda_of, named_one, one_param, named_two, two_params}
use Rattle.fr_syntax.specs.Weights.{weight}
use Rattle.fr_syntax.proofs.Bounds.{AtMost, then_small, map_small, wider, one_wider, free, same_size, positive}

abbrev pub all_sizes : List Datum → ℕ
all_sizes ds = total (map datum_size ds)

abbrev pub all_weights : List Expr → ℕ
all_weights es = total (map weight es)

-- the data in a form give expressions that weigh at most what their sizes are
abbrev pub IsSmall : Below → Type 0
IsSmall below = (d : Datum) → AtMost weight (datum_size d) (below d)

abbrev pub two_sizes : Datum × Datum → ℕ
two_sizes x = datum_size x.0 + datum_size x.1

abbrev pub three_sizes : Datum × Datum × Datum → ℕ
three_sizes x = datum_size x.0 + datum_size x.1 + datum_size x.2

abbrev pub two_weights : Expr × Expr → ℕ
two_weights x = weight x.0 + weight x.1

abbrev pub three_weights : Expr × Expr × Expr → ℕ
three_weights x = weight x.0 + weight x.1 + weight x.2

abbrev pub named_weight : List ℕ × Expr → ℕ
named_weight x = 1 + weight x.1

abbrev pub bound_weight : Bindings → ℕ
bound_weight x = length x.0 + all_weights x.1

abbrev pub clauses_weight : Clauses → ℕ
clauses_weight x = all_weights x.0.0 + all_weights x.0.1 + weight x.1

abbrev pub lambda_weight : List (List ℕ) × Expr → ℕ
lambda_weight x = length x.0 + weight x.1

abbrev pub step_weight : List ℕ × List ℕ × Expr → ℕ
step_weight x = 2 + weight x.2

pub ones : (ds : List Datum) → AtMost datum_size (all_sizes ds) (one_in ds)
ones [] = tt
ones (a ∷ []) = omega arith
ones (a ∷ b ∷ ds) = tt

pub twos : (ds : List Datum) → AtMost two_sizes (all_sizes ds) (two_in ds)
twos [] = tt
twos (a ∷ []) = tt
twos (a ∷ b ∷ []) = omega arith
twos (a ∷ b ∷ c ∷ ds) = tt

pub threes : (ds : List Datum) → AtMost three_sizes (all_sizes ds) (three_in ds)
threes [] = tt
threes (a ∷ []) = tt
threes (a ∷ b ∷ []) = tt
threes (a ∷ b ∷ c ∷ []) = omega arith
threes (a ∷ b ∷ c ∷ d ∷ ds) = tt

items_small : (v : Value) → AtMost data_size (value_size v) (items_of v)
items_small (value.Int n) = tt
items_small (value.Bool b) = tt
items_small (value.Sym s) = tt
items_small (value.Str s) = tt
items_small (value.List ds) = omega arith

-- the items of a datum are as large as the datum
pub items_in : (d : Datum) → AtMost data_size (datum_size d) (items_of (value_of d))
items_in d = wider (items_of (value_of d)) data_size (value_size (value_of d)) (datum_size d) (items_small (value_of d)) (omega (arith, same_size d))

pub each_small : (below : Below) → IsSmall below → (ds : List Datum) → AtMost all_weights (all_sizes ds) (each below ds)
each_small below small [] = omega arith
each_small below small (d ∷ ds) =
    then_small (λ e. option_map (λ es. e ∷ es) (each below ds)) (below d) weight all_weights (datum_size d) (all_sizes (d ∷ ds)) (small d)
    (λ e h. map_small (λ es. e ∷ es) (each below ds) all_weights all_weights (all_sizes ds) (all_sizes (d ∷ ds)) (each_small below small ds) (λ es k. omega (arith, h, k)))

pub both_small : (below : Below) → IsSmall below → (x : Datum × Datum) → AtMost two_weights (two_sizes x) (both below x)
both_small below small x =
    then_small (λ a. option_map (λ b. (a, b)) (below x.1)) (below x.0) weight two_weights (datum_size x.0) (two_sizes x) (small x.0)
    (λ a h. map_small (λ b. (a, b)) (below x.1) weight two_weights (datum_size x.1) (two_sizes x) (small x.1) (λ b k. omega (arith, h, k)))

pub triple_small : (below : Below) → IsSmall below → (x : Datum × Datum × Datum) → AtMost three_weights (three_sizes x) (triple below x)
triple_small below small x =
    then_small (λ a. option_and_then (λ b. option_map (λ c. (a, b, c)) (below x.2)) (below x.1)) (below x.0) weight three_weights (datum_size x.0) (three_sizes x) (small x.0)
    (λ a h. then_small (λ b. option_map (λ c. (a, b, c)) (below x.2)) (below x.1) weight three_weights (datum_size x.1) (three_sizes x) (small x.1)
    (λ b k. map_small (λ c. (a, b, c)) (below x.2) weight three_weights (datum_size x.2) (three_sizes x) (small x.2) (λ c l. omega (arith, h, k, l))))

pub symbols_small : (ds : List Datum) → AtMost length (all_sizes ds) (symbols ds)
symbols_small [] = omega arith
symbols_small (d ∷ ds) =
    then_small (λ s. option_map (λ ss. s ∷ ss) (symbols ds)) (symbol_of (value_of d)) (λ s. 0) length 0 (all_sizes (d ∷ ds)) (free (symbol_of (value_of d)))
    (λ s h. map_small (λ ss. s ∷ ss) (symbols ds) length length (all_sizes ds) (all_sizes (d ∷ ds)) (symbols_small ds) (λ ss k. omega (arith, k, positive d)))

-- the items of a list of one, of two, of three
pub one_of : (d : Datum) → AtMost (λ x. 1 + datum_size x) (datum_size d) (option_and_then one_in (items_of (value_of d)))
one_of d =
    then_small one_in (items_of (value_of d)) data_size (λ x. 1 + datum_size x) (datum_size d) (datum_size d) (items_in d)
    (λ ds h. one_wider (one_in ds) datum_size (all_sizes ds) (datum_size d) (ones ds) h)

pub two_of : (d : Datum) → AtMost (λ x. 1 + two_sizes x) (datum_size d) (option_and_then two_in (items_of (value_of d)))
two_of d =
    then_small two_in (items_of (value_of d)) data_size (λ x. 1 + two_sizes x) (datum_size d) (datum_size d) (items_in d)
    (λ ds h. one_wider (two_in ds) two_sizes (all_sizes ds) (datum_size d) (twos ds) h)

pub three_of : (d : Datum) → AtMost (λ x. 1 + three_sizes x) (datum_size d) (option_and_then three_in (items_of (value_of d)))
three_of d =
    then_small three_in (items_of (value_of d)) data_size (λ x. 1 + three_sizes x) (datum_size d) (datum_size d) (items_in d)
    (λ ds h. one_wider (three_in ds) three_sizes (all_sizes ds) (datum_size d) (threes ds) h)

pub binding_small : (below : Below) → IsSmall below → (d : Datum) → AtMost named_weight (datum_size d) (binding below d)
binding_small below small d =
    then_small (λ x. option_and_then (λ s. option_map (λ e. (s, e)) (below x.1)) (symbol_of (value_of x.0))) (option_and_then two_in (items_of (value_of d)))
    (λ x. 1 + two_sizes x) named_weight (datum_size d) (datum_size d) (two_of d)
    (λ x h. then_small (λ s. option_map (λ e. (s, e)) (below x.1)) (symbol_of (value_of x.0)) (λ s. 0) named_weight 0 (datum_size d) (free (symbol_of (value_of x.0)))
    (λ s k. map_small (λ e. (s, e)) (below x.1) weight named_weight (datum_size x.1) (datum_size d) (small x.1) (λ e l. omega (arith, h, l, positive x.0))))

pub bindings_small : (below : Below) → IsSmall below → (ds : List Datum) → AtMost bound_weight (all_sizes ds) (bindings below ds)
bindings_small below small [] = omega arith
bindings_small below small (d ∷ ds) =
    then_small (λ b. option_map (λ bs. (b.0 ∷ bs.0, b.1 ∷ bs.1)) (bindings below ds)) (binding below d) named_weight bound_weight (datum_size d) (all_sizes (d ∷ ds)) (binding_small below small d)
    (λ b h. map_small (λ bs. (b.0 ∷ bs.0, b.1 ∷ bs.1)) (bindings below ds) bound_weight bound_weight (all_sizes ds) (all_sizes (d ∷ ds)) (bindings_small below small ds)
    (λ bs k. omega (arith, h, k)))

pub lone_small : (below : Below) → IsSmall below → (d : Datum) → AtMost named_weight (datum_size d) (lone_binding below d)
lone_small below small d =
    then_small (binding below) (option_and_then one_in (items_of (value_of d))) (λ x. 1 + datum_size x) named_weight (datum_size d) (datum_size d) (one_of d)
    (λ x h. wider (binding below x) named_weight (datum_size x) (datum_size d) (binding_small below small x) (omega (arith, h)))

else_small : (below : Below) → IsSmall below → (k : Option Keyword) (d : Datum) → AtMost weight (datum_size d) (else_with below k d)
else_small below small (Some keyword.Else) d = small d
else_small below small k d = tt

last_small : (below : Below) → IsSmall below → (d : Datum) → AtMost weight (datum_size d) (else_clause below d)
last_small below small d =
    then_small (λ x. else_with below (keyword_of (value_of x.0)) x.1) (option_and_then two_in (items_of (value_of d))) (λ x. 1 + two_sizes x) weight (datum_size d) (datum_size d) (two_of d)
    (λ x h. wider (else_with below (keyword_of (value_of x.0)) x.1) weight (datum_size x.1) (datum_size d) (else_small below small (keyword_of (value_of x.0)) x.1) (omega (arith, h)))

tested_small : (below : Below) → IsSmall below → (k : Option Keyword) (x : Datum × Datum) → AtMost two_weights (two_sizes x) (test_with below k x)
tested_small below small (Some keyword.Else) x = tt
tested_small below small k x = both_small below small x

test_small : (below : Below) → IsSmall below → (d : Datum) → AtMost two_weights (datum_size d) (test_clause below d)
test_small below small d =
    then_small (λ x. test_with below (keyword_of (value_of x.0)) x) (option_and_then two_in (items_of (value_of d))) (λ x. 1 + two_sizes x) two_weights (datum_size d) (datum_size d) (two_of d)
    (λ x h. wider (test_with below (keyword_of (value_of x.0)) x) two_weights (two_sizes x) (datum_size d) (tested_small below small (keyword_of (value_of x.0)) x) (omega (arith, h)))

pub clauses_small : (below : Below) → IsSmall below → (ds : List Datum) → AtMost clauses_weight (all_sizes ds) (clauses below ds)
clauses_small below small [] = tt
clauses_small below small (d ∷ []) =
    map_small (λ e. (([], []), e)) (else_clause below d) weight clauses_weight (datum_size d) (all_sizes (d ∷ [])) (last_small below small d) (λ e h. omega (arith, h))
clauses_small below small (d ∷ u ∷ ds) =
    then_small (λ c. option_map (λ cs. ((c.0 ∷ cs.0.0, c.1 ∷ cs.0.1), cs.1)) (clauses below (u ∷ ds))) (test_clause below d) two_weights clauses_weight (datum_size d) (all_sizes (d ∷ u ∷ ds))
    (test_small below small d)
    (λ c h. map_small (λ cs. ((c.0 ∷ cs.0.0, c.1 ∷ cs.0.1), cs.1)) (clauses below (u ∷ ds)) clauses_weight clauses_weight (all_sizes (u ∷ ds)) (all_sizes (d ∷ u ∷ ds))
    (clauses_small below small (u ∷ ds)) (λ cs k. omega (arith, h, k)))

params_small : (d : Datum) → AtMost length (datum_size d) (option_and_then symbols (items_of (value_of d)))
params_small d =
    then_small symbols (items_of (value_of d)) data_size length (datum_size d) (datum_size d) (items_in d)
    (λ ds h. wider (symbols ds) length (all_sizes ds) (datum_size d) (symbols_small ds) (omega (arith, h)))

behind_small : (below : Below) → IsSmall below → (k : Option Keyword) (x : Datum × Datum × Datum) → AtMost lambda_weight (three_sizes x) (lambda_with below k x)
behind_small below small (Some keyword.Lambda) x =
    then_small (λ ps. option_map (λ b. (ps, b)) (below x.2)) (option_and_then symbols (items_of (value_of x.1))) length lambda_weight (datum_size x.1) (three_sizes x) (params_small x.1)
    (λ ps h. map_small (λ b. (ps, b)) (below x.2) weight lambda_weight (datum_size x.2) (three_sizes x) (small x.2) (λ b k. omega (arith, h, k)))
behind_small below small k x = tt

lambda_small : (below : Below) → IsSmall below → (d : Datum) → AtMost lambda_weight (datum_size d) (lambda_of below d)
lambda_small below small d =
    then_small (λ x. lambda_with below (keyword_of (value_of x.0)) x) (option_and_then three_in (items_of (value_of d))) (λ x. 1 + three_sizes x) lambda_weight (datum_size d) (datum_size d) (three_of d)
    (λ x h. wider (lambda_with below (keyword_of (value_of x.0)) x) lambda_weight (three_sizes x) (datum_size d) (behind_small below small (keyword_of (value_of x.0)) x) (omega (arith, h)))

named_once : (vs : List (List ℕ)) (b : Expr) (n : ℕ) → length vs + weight b ≤ n → AtMost named_weight n (named_one vs b)
named_once [] b n h = tt
named_once (v ∷ []) b n h = omega (arith, h)
named_once (v ∷ a ∷ vs) b n h = tt

named_twice : (vs : List (List ℕ)) (b : Expr) (n : ℕ) → length vs + weight b ≤ n → AtMost step_weight n (named_two vs b)
named_twice [] b n h = tt
named_twice (v ∷ []) b n h = tt
named_twice (v ∷ a ∷ []) b n h = omega (arith, h)
named_twice (v ∷ a ∷ c ∷ vs) b n h = tt

pub handler_small : (below : Below) → IsSmall below → (d : Datum) → AtMost named_weight (datum_size d) (option_and_then one_param (lambda_of below d))
handler_small below small d =
    then_small one_param (lambda_of below d) lambda_weight named_weight (datum_size d) (datum_size d) (lambda_small below small d) (λ x h. named_once x.0 x.1 (datum_size d) h)

pub step_small : (below : Below) → IsSmall below → (d : Datum) → AtMost step_weight (datum_size d) (option_and_then two_params (lambda_of below d))
step_small below small d =
    then_small two_params (lambda_of below d) lambda_weight step_weight (datum_size d) (datum_size d) (lambda_small below small d) (λ x h. named_twice x.0 x.1 (datum_size d) h)
