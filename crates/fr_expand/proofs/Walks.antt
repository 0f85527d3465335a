-- Places in lists of expressions, and what they weigh.
use Rattle.std.proofs.Common.{◌≡◌, ◌≤◌, ◌<◌, ℕ, zero, suc, List, [], ◌∷◌, ◌+◌, ◌-◌, get_or, length, map, drop, take, min, refl, sym, ap, subst, arith, length-append}
use Rattle.std.proofs.lemmas.List.{take_all}
use Rattle.fr_value.specs.Data.{total}
use Rattle.fr_syntax.specs.Outlines.{Global}
use Rattle.fr_syntax.specs.Weights.{weight, weight_step}
use Rattle.fr_syntax.specs.declared.expr.Expr.{Expr, out-Expr, map-Expr, fold-Expr, fold_out-Expr}
use Rattle.fr_syntax.specs.declared.expr.Expr.TheOpen.{Expr-F}
use Rattle.fr_scope.specs.Meanings.{Binder}
use Rattle.fr_expand.specs.Faults.{Part, faults, chained_faults}

step_positive : (x : Expr-F ℕ) → 1 ≤ weight_step x
step_positive (Expr-F.Literal v) = omega arith
step_positive _ = omega arith

-- an expression weighs 1 at least
pub weight_positive : (e : Expr) → 1 ≤ weight e
unfolding weight
weight_positive e = subst (λ n. 1 ≤ n) (sym (fold_out-Expr ℕ weight_step e)) (step_positive (map-Expr Expr ℕ (fold-Expr ℕ weight_step) (out-Expr e)))

-- an expression weighs no more than the list that it stands in
pub weight_at : (es : List Expr) (i : ℕ) (e : Expr) → i < length es → e ≡ get_or es i e → weight e ≤ total (map weight es)
weight_at [] i e h is = absurd (omega arith)
weight_at (x ∷ es) zero e h is = omega (arith, ap weight is)
weight_at (x ∷ es) (suc i) e h is = omega (arith, weight_at es i e (omega arith) is)

without_names : (fs : List Part) (body : Part) (at : ℕ) (scope : List Binder) → chained_faults (drop at []) fs body scope ≡ body scope
without_names fs body zero scope = refl
without_names fs body (suc at) scope = refl

without_parts : (names : List (List ℕ)) (body : Part) (scope : List Binder) → chained_faults names [] body scope ≡ body scope
without_parts [] body scope = refl
without_parts (x ∷ names) body scope = refl

no_parts : (globals : List Global) (at : ℕ) → map (faults globals) (drop at []) ≡ []
no_parts globals zero = refl
no_parts globals (suc at) = refl

-- behind the last binding only the body is left
pub chain_end : (globals : List Global) (names : List (List ℕ)) (parts : List Expr) (body : Expr) (at : ℕ) (scope : List Binder) → min (length names) (length parts) ≤ at
    → chained_faults (drop at names) (map (faults globals) (drop at parts)) (faults globals body) scope ≡ faults globals body scope
chain_end globals [] parts body at scope h = without_names (map (faults globals) (drop at parts)) (faults globals body) at scope
chain_end globals (x ∷ names) [] body at scope h = rw (no_parts globals at) (without_parts (drop at (x ∷ names)) (faults globals body) scope)
chain_end globals (x ∷ names) (e ∷ parts) body zero scope h = absurd (omega arith)
chain_end globals (x ∷ names) (e ∷ parts) body (suc at) scope h = chain_end globals names parts body at scope (omega arith)

-- the weights of a list, that of its first part apart
pub weights_behind : (es : List Expr) (e : Expr) → 1 ≤ length es → e ≡ get_or es 0 e → total (map weight es) ≡ weight e + total (map weight (take (length es - 1) (drop 1 es)))
weights_behind [] e h is = absurd (omega arith)
weights_behind (x ∷ es) e h is =
    let behind : length (x ∷ es) - 1 ≡ length es = omega arith in
    rw (behind, take_all (length es) es (omega arith)) (ap (λ y. weight y + total (map weight es)) (sym is))

-- what tells that a walk over a chain ends
pub ruleset chained = (weight_positive, length-append)
