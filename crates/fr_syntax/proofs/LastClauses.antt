-- The clauses of a `cond`, before its last and with it.
use Rattle.std.specs.Prelude.{◌≡◌, List, [], ◌∷◌, ◌++◌, Option, Some, None, Result, Ok, Err, IfOk}
use Rattle.std.proofs.Common.{refl}
use Rattle.std.specs.Option.{option_map, option_and_then}
use Rattle.std.proofs.lemmas.List.{map-append}
use Rattle.fr_value.specs.Data.{datum_of, data_of}
use Rattle.fr_value.specs.declared.value.Datum.{Datum}
use Rattle.fr_value.specs.declared.value.Value.{Value}
use Rattle.fr_syntax.specs.declared.expr.Expr.{Expr}
use Rattle.fr_syntax.specs.Shapes.{Below, Clauses, else_clause, test_clause, clauses}
use Rattle.fr_syntax.specs.Layouts.{clauses_before}
use Rattle.fr_syntax.specs.Parts.{beside}

abbrev Tests : Type 0
Tests = List Expr × List Expr

abbrev ended : Option Expr → Tests → Option (Tests × Expr)
ended e cs = option_map (λ e. (cs, e)) e

one_more : (c : Option (Expr × Expr)) (r : Option Clauses) (b : Option Tests) (e : Option Expr) → r ≡ option_and_then (ended e) b
    → option_and_then (λ c. option_map (λ cs. ((c.0 ∷ cs.0.0, c.1 ∷ cs.0.1), cs.1)) r) c ≡ option_and_then (ended e) (option_and_then (λ c. option_map (λ cs. (c.0 ∷ cs.0, c.1 ∷ cs.1)) b) c)
one_more None r b e h = refl
one_more (Some c) r None e h = rw h refl
one_more (Some c) r (Some b) None h = rw h refl
one_more (Some c) r (Some b) (Some e) h = rw h refl

-- the clauses are those before the last, and the last
pub split : (below : Below) (ds : List Datum) (d : Datum) → clauses below (ds ++ d ∷ []) ≡ option_and_then (ended (else_clause below d)) (clauses_before below ds)
split below [] d = refl
split below (t ∷ []) d = one_more (test_clause below t) (clauses below (d ∷ [])) (Some ([], [])) (else_clause below d) (split below [] d)
split below (t ∷ u ∷ ds) d =
    one_more (test_clause below t) (clauses below (u ∷ (ds ++ d ∷ []))) (clauses_before below (u ∷ ds)) (else_clause below d) (split below (u ∷ ds) d)

split_values : (below : Below) (vs rest : List Value) (v : Value) → vs ≡ rest ++ v ∷ []
    → clauses below (data_of vs) ≡ option_and_then (ended (else_clause below (datum_of v))) (clauses_before below (data_of rest))
split_values below vs rest v h = rw (h, map-append) (split below (data_of rest) (datum_of v))

never_ends : (b : Option Tests) → None ≡ option_and_then (ended None) b
never_ends None = refl
never_ends (Some b) = refl

-- no clauses, where the last isn't `(else EXPR)`
pub no_else : (below : Below) (vs rest : List Value) (v : Value) → vs ≡ rest ++ v ∷ [] → None ≡ else_clause below (datum_of v) → None ≡ clauses below (data_of vs)
no_else below vs rest v h k = rw (split_values below vs rest v h, ← k) (never_ends (clauses_before below (data_of rest)))

-- no clauses, where one before the last is none
pub no_tests : (below : Below) (vs rest : List Value) (v : Value) → vs ≡ rest ++ v ∷ [] → None ≡ clauses_before below (data_of rest) → None ≡ clauses below (data_of vs)
no_tests below vs rest v h k = rw (split_values below vs rest v h, ← k) refl

-- the clauses, from those before the last and what the last gives
pub all_parts : (below : Below) (vs rest : List Value) (v last : Value) (cs : Tests) {E : Type 0} (r : Result (Option Expr) E) → vs ≡ rest ++ v ∷ []
    → below (datum_of last) ≡ else_clause below (datum_of v) → Some cs ≡ clauses_before below (data_of rest)
    → IfOk r (λ e. e ≡ below (datum_of last)) → IfOk (beside cs r) (λ x. x ≡ clauses below (data_of vs))
all_parts below vs rest v last cs (Ok e) h k l m = rw (split_values below vs rest v h, ← l, ← k, m) refl
all_parts below vs rest v last cs (Err e) h k l m = tt
