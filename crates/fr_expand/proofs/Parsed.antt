-- What holds of each expression of a form that has a shape.
use Rattle.std.specs.Prelude.{ℕ, zero, suc, ◌≡◌, List, [], ◌∷◌, length, Option, Some, None}
use Rattle.std.proofs.Common.{refl, sym, ap, subst}
use Rattle.std.specs.Option.{option_map, option_and_then}
use Rattle.fr_value.specs.Data.{value_of}
use Rattle.fr_value.specs.declared.value.Datum.{Datum}
use Rattle.fr_value.specs.declared.value.Value.{Value}
use Rattle.fr_value.specs.declared.value.Value.TheVariants as value
use Rattle.fr_syntax.specs.declared.keyword.Keyword.{Keyword}
use Rattle.fr_syntax.specs.declared.keyword.Keyword.TheVariants as keyword
use Rattle.fr_syntax.specs.declared.expr.Expr.{Expr, out-Expr}
use Rattle.fr_syntax.specs.declared.expr.Expr.TheOpen.{Expr-F}
use Rattle.fr_syntax.specs.declared.expr.Expr.TheVariants as expr
use Rattle.fr_syntax.specs.declared.expr.Expr.TheVariants.{outs-Literal, outs-Name, outs-If, outs-Let, outs-LetStar, outs-Cond, outs-And, outs-Or, outs-Fold, outs-Repeat, outs-MapE, outs-FilterE, outs-MergeE, outs-Hold, outs-CollectB, outs-CollectE, outs-Changes, outs-OnceE, outs-Delay, outs-DelayE, outs-Feedback, outs-Call}
use Rattle.fr_syntax.specs.declared.form.Form.{Form}
use Rattle.fr_syntax.specs.declared.form.Form.TheVariants as form
use Rattle.fr_syntax.specs.Keywords.{keyword_named}
use Rattle.fr_syntax.specs.Outlines.{symbol_of, keyword_of}
use Rattle.fr_syntax.specs.Shapes.{Below, Bindings, Clauses, items_of, one_in, two_in, three_in, each, both, triple, symbols, binding, bindings, let_form, else_with, else_clause, test_with, test_clause, clauses, lone_binding, fold_form, repeat_form, feedback_form, lambda_with, lambda_of, named_one, one_param, named_two, two_params, event_handler_form, collect_form, merge_form, one_part, two_parts, three_parts, keyword_form, named_form, expr_at, expr_to, expr_of, named_expr, function_with, define_at, form_with, form_at, form_of}
use Rattle.fr_expand.specs.Shapes.{shape, shape_of}
use Rattle.fr_expand.proofs.OfParts.{OfEach, OfParts, IsPaired}

-- it holds of what is there
abbrev pub Of : {A : Type 0} → (A → Type 0) → Option A → Type 0
Of P None = Unit {0}
Of P (Some a) = P a

-- it holds of the expression of a form, if it has one
abbrev pub OfForm : (Expr → Type 0) → Form → Type 0
OfForm P (form.Function name params body) = P body
OfForm P (form.Define name e) = P e
OfForm P (form.Show name e) = P e
OfForm P f = Unit {0}

then_of : {A B : Type 0} (P : A → Type 0) (Q : B → Type 0) (f : A → Option B) (o : Option A) → Of P o → ((a : A) → P a → Of Q (f a)) → Of Q (option_and_then f o)
then_of P Q f None h g = tt
then_of P Q f (Some a) h g = g a h

then_any : {A B : Type 0} (Q : B → Type 0) (f : A → Option B) (o : Option A) → ((a : A) → Of Q (f a)) → Of Q (option_and_then f o)
then_any Q f None g = tt
then_any Q f (Some a) g = g a

map_of : {A B : Type 0} (P : A → Type 0) (Q : B → Type 0) (f : A → B) (o : Option A) → Of P o → ((a : A) → P a → Q (f a)) → Of Q (option_map f o)
map_of P Q f None h g = tt
map_of P Q f (Some a) h g = g a h

map_any : {A B : Type 0} (Q : B → Type 0) (f : A → B) (o : Option A) → ((a : A) → Q (f a)) → Of Q (option_map f o)
map_any Q f None g = tt
map_any Q f (Some a) g = g a

module _ (P : Expr → Type 0) (closed : (e : Expr) → IsPaired (out-Expr e) → OfParts P (shape_of e) → P e) where
  -- it holds of an expression of this form
  made : (e : Expr) (f : Expr-F Expr) → out-Expr e ≡ f → IsPaired f → OfParts P (shape f) → P e
  made e f x p h = closed e (subst IsPaired (sym x) p) (subst (λ y. OfParts P (shape y)) (sym x) h)

  abbrev Pair : Expr × Expr → Type 0
  Pair x = P x.0 × P x.1

  abbrev Three : Expr × Expr × Expr → Type 0
  Three x = P x.0 × P x.1 × P x.2

  abbrev Bound : List ℕ × Expr → Type 0
  Bound x = P x.1

  abbrev AllBound : Bindings → Type 0
  AllBound x = (length x.0 ≡ length x.1) × OfEach P x.1

  abbrev Clause : Clauses → Type 0
  Clause x = (OfEach P x.0.0 × OfEach P x.0.1) × P x.1

  abbrev Handler : List (List ℕ) × Expr → Type 0
  Handler x = P x.1

  abbrev Step : List ℕ × List ℕ × Expr → Type 0
  Step x = P x.2

  module _ (below : Below) (holds : (d : Datum) → Of P (below d)) where
    each_of : (ds : List Datum) → Of (OfEach P) (each below ds)
    each_of [] = tt
    each_of (d ∷ ds) = then_of P (OfEach P) _ (below d) (holds d) (λ e h. map_of (OfEach P) (OfEach P) _ (each below ds) (each_of ds) (λ es k. (h, k)))

    both_of : (x : Datum × Datum) → Of Pair (both below x)
    both_of x = then_of P Pair _ (below x.0) (holds x.0) (λ a h. map_of P Pair _ (below x.1) (holds x.1) (λ b k. (h, k)))

    triple_of : (x : Datum × Datum × Datum) → Of Three (triple below x)
    triple_of x =
        then_of P Three _ (below x.0) (holds x.0) (λ a h. then_of P Three _ (below x.1) (holds x.1) (λ b k. map_of P Three _ (below x.2) (holds x.2) (λ c l. (h, k, l))))

    binding_of : (d : Datum) → Of Bound (binding below d)
    binding_of d =
        then_any Bound _ (option_and_then two_in (items_of (value_of d))) (λ x. then_any Bound _ (symbol_of (value_of x.0)) (λ s. map_of P Bound _ (below x.1) (holds x.1) (λ e h. h)))

    bindings_of : (ds : List Datum) → Of AllBound (bindings below ds)
    bindings_of [] = (refl, tt)
    bindings_of (d ∷ ds) = then_of Bound AllBound _ (binding below d) (binding_of d) (λ b h. map_of AllBound AllBound _ (bindings below ds) (bindings_of ds) (λ bs k. (ap suc k.0, (h, k.1))))

    let_of : (make : List (List ℕ) → List Expr → Expr → Expr) → ((xs : List (List ℕ)) (es : List Expr) (b : Expr) → length xs ≡ length es → OfEach P es → P b → P (make xs es b))
        → (ds : List Datum) → Of P (let_form below make ds)
    let_of make made ds =
        then_any P _ (two_in ds) (λ x. then_of AllBound P _ (option_and_then (bindings below) (items_of (value_of x.0))) (then_any AllBound _ (items_of (value_of x.0)) bindings_of)
        (λ bs h. map_of P P _ (below x.1) (holds x.1) (λ b k. made bs.0 bs.1 b h.0 h.1 k)))

    else_of : (k : Option Keyword) (d : Datum) → Of P (else_with below k d)
    else_of (Some keyword.Else) d = holds d
    else_of k d = tt

    last_of : (d : Datum) → Of P (else_clause below d)
    last_of d = then_any P _ (option_and_then two_in (items_of (value_of d))) (λ x. else_of (keyword_of (value_of x.0)) x.1)

    tested_of : (k : Option Keyword) (x : Datum × Datum) → Of Pair (test_with below k x)
    tested_of (Some keyword.Else) x = tt
    tested_of k x = both_of x

    test_of : (d : Datum) → Of Pair (test_clause below d)
    test_of d = then_any Pair _ (option_and_then two_in (items_of (value_of d))) (λ x. tested_of (keyword_of (value_of x.0)) x)

    clauses_of : (ds : List Datum) → Of Clause (clauses below ds)
    clauses_of [] = tt
    clauses_of (d ∷ []) = map_of P Clause _ (else_clause below d) (last_of d) (λ e h. ((tt, tt), h))
    clauses_of (d ∷ u ∷ ds) =
        then_of Pair Clause _ (test_clause below d) (test_of d) (λ c h. map_of Clause Clause _ (clauses below (u ∷ ds)) (clauses_of (u ∷ ds)) (λ cs k. (((h.0, k.0.0), (h.1, k.0.1)), k.1)))

    lone_of : (d : Datum) → Of Bound (lone_binding below d)
    lone_of d = then_any Bound _ (option_and_then one_in (items_of (value_of d))) binding_of

    fold_of : (ds : List Datum) → Of P (fold_form below ds)
    fold_of ds =
        then_any P _ (three_in ds) (λ x. then_of Bound P _ (lone_binding below x.0) (lone_of x.0) (λ a h. then_of Bound P _ (lone_binding below x.1) (lone_of x.1)
        (λ b k. map_of P P _ (below x.2) (holds x.2) (λ c l. made _ _ (outs-Fold a.0 b.0 a.1 b.1 c) tt ((h, (k, tt)), l)))))

    repeat_of : (ds : List Datum) → Of P (repeat_form below ds)
    repeat_of ds =
        then_any P _ (three_in ds) (λ x. then_of Bound P _ (binding below x.0) (binding_of x.0) (λ a h. then_of P P _ (below x.1) (holds x.1)
        (λ n k. map_of P P _ (below x.2) (holds x.2) (λ c l. made _ _ (outs-Repeat a.0 a.1 n c) tt ((h, (k, tt)), l)))))

    feedback_of : (ds : List Datum) → Of P (feedback_form below ds)
    feedback_of ds =
        then_any P _ (two_in ds) (λ x. then_of Bound P _ (binding below x.0) (binding_of x.0) (λ a h. map_of P P _ (below x.1) (holds x.1) (λ b k. made _ _ (outs-Feedback a.0 a.1 b) tt (h, k))))

    lambda_body : (k : Option Keyword) (x : Datum × Datum × Datum) → Of Handler (lambda_with below k x)
    lambda_body (Some keyword.Lambda) x = then_any Handler _ (option_and_then symbols (items_of (value_of x.1))) (λ ps. map_of P Handler _ (below x.2) (holds x.2) (λ b h. h))
    lambda_body k x = tt

    lambda_holds : (d : Datum) → Of Handler (lambda_of below d)
    lambda_holds d = then_any Handler _ (option_and_then three_in (items_of (value_of d))) (λ x. lambda_body (keyword_of (value_of x.0)) x)

    named_once : (vs : List (List ℕ)) (b : Expr) → P b → Of Bound (named_one vs b)
    named_once (v ∷ []) b h = h
    named_once _ b h = tt

    named_twice : (vs : List (List ℕ)) (b : Expr) → P b → Of Step (named_two vs b)
    named_twice (v ∷ a ∷ []) b h = h
    named_twice _ b h = tt

    handler_of : (make : List ℕ → Expr → Expr → Expr) → ((x : List ℕ) (b e : Expr) → P b → P e → P (make x b e)) → (ds : List Datum) → Of P (event_handler_form below make ds)
    handler_of make made ds =
        then_any P _ (two_in ds) (λ x. then_of Bound P _ (option_and_then one_param (lambda_of below x.0)) (then_of Handler Bound _ (lambda_of below x.0) (lambda_holds x.0) (λ l h. named_once l.0 l.1 h))
        (λ b h. map_of P P _ (below x.1) (holds x.1) (λ e k. made b.0 b.1 e h k)))

    collect_of : (make : Expr → Expr → List ℕ → List ℕ → Expr → Expr) → ((a b : Expr) (x y : List ℕ) (c : Expr) → P a → P b → P c → P (make a b x y c))
        → (ds : List Datum) → Of P (collect_form below make ds)
    collect_of make made ds =
        then_any P _ (three_in ds) (λ x. then_of P P _ (below x.0) (holds x.0) (λ e h. then_of P P _ (below x.1) (holds x.1)
        (λ i k. map_of Step P _ (option_and_then two_params (lambda_of below x.2)) (then_of Handler Step _ (lambda_of below x.2) (lambda_holds x.2) (λ l m. named_twice l.0 l.1 m))
        (λ s m. made e i s.0 s.1 s.2 h k m))))

    merge_of : (ds : List Datum) → Of P (merge_form below ds)
    merge_of (a ∷ b ∷ ds) = map_of (OfEach P) P _ (each below (a ∷ b ∷ ds)) (each_of (a ∷ b ∷ ds)) (λ es h. made _ _ (outs-MergeE es) tt h)
    merge_of _ = tt

    one_of : (make : Expr → Expr) → ((a : Expr) → P a → P (make a)) → (ds : List Datum) → Of P (one_part below make ds)
    one_of make made ds = map_of P P _ (option_and_then below (one_in ds)) (then_any P below (one_in ds) holds) made

    two_of : (make : Expr → Expr → Expr) → ((a b : Expr) → P a → P b → P (make a b)) → (ds : List Datum) → Of P (two_parts below make ds)
    two_of make made ds = map_of Pair P _ (option_and_then (both below) (two_in ds)) (then_any Pair (both below) (two_in ds) both_of) (λ x h. made x.0 x.1 h.0 h.1)

    three_of : (ds : List Datum) → Of P (three_parts below expr.If ds)
    three_of ds = map_of Three P _ (option_and_then (triple below) (three_in ds)) (then_any Three (triple below) (three_in ds) triple_of) (λ x h. made _ _ (outs-If x.0 x.1 x.2) tt h)

    keyword_holds : (k : Keyword) (ds : List Datum) → Of P (keyword_form below k ds)
    keyword_holds keyword.Quote ds = map_any P _ (one_in ds) (λ d. made _ _ (outs-Literal (value_of d)) tt tt)
    keyword_holds keyword.If ds = three_of ds
    keyword_holds keyword.Let ds = let_of expr.Let (λ xs es b l h k. made _ _ (outs-Let xs es b) l (h, k)) ds
    keyword_holds keyword.LetStar ds = let_of expr.LetStar (λ xs es b l h k. made _ _ (outs-LetStar xs es b) tt (h, k)) ds
    keyword_holds keyword.Cond ds = map_of Clause P _ (clauses below ds) (clauses_of ds) (λ cs h. made _ _ (outs-Cond cs.0.0 cs.0.1 cs.1) tt (h.0.0, h.0.1, h.1))
    keyword_holds keyword.And ds = map_of (OfEach P) P _ (each below ds) (each_of ds) (λ es h. made _ _ (outs-And es) tt h)
    keyword_holds keyword.Or ds = map_of (OfEach P) P _ (each below ds) (each_of ds) (λ es h. made _ _ (outs-Or es) tt h)
    keyword_holds keyword.ForFold ds = fold_of ds
    keyword_holds keyword.Repeat ds = repeat_of ds
    keyword_holds keyword.MapE ds = handler_of expr.MapE (λ x b e h k. made _ _ (outs-MapE x b e) tt ((k, tt), h)) ds
    keyword_holds keyword.FilterE ds = handler_of expr.FilterE (λ x b e h k. made _ _ (outs-FilterE x b e) tt ((k, tt), h)) ds
    keyword_holds keyword.MergeE ds = merge_of ds
    keyword_holds keyword.Hold ds = two_of expr.Hold (λ a b h k. made _ _ (outs-Hold a b) tt (h, (k, tt))) ds
    keyword_holds keyword.CollectB ds = collect_of expr.CollectB (λ a b x y c h k l. made _ _ (outs-CollectB a b x y c) tt ((h, (k, tt)), l)) ds
    keyword_holds keyword.CollectE ds = collect_of expr.CollectE (λ a b x y c h k l. made _ _ (outs-CollectE a b x y c) tt ((h, (k, tt)), l)) ds
    keyword_holds keyword.Changes ds = one_of expr.Changes (λ a h. made _ _ (outs-Changes a) tt (h, tt)) ds
    keyword_holds keyword.OnceE ds = one_of expr.OnceE (λ a h. made _ _ (outs-OnceE a) tt (h, tt)) ds
    keyword_holds keyword.Delay ds = two_of expr.Delay (λ a b h k. made _ _ (outs-Delay a b) tt (h, (k, tt))) ds
    keyword_holds keyword.DelayE ds = one_of expr.DelayE (λ a h. made _ _ (outs-DelayE a) tt (h, tt)) ds
    keyword_holds keyword.Feedback ds = feedback_of ds
    keyword_holds k ds = tt

    named_of : (k : Option Keyword) (name : List ℕ) (ds : List Datum) → Of P (named_form below k name ds)
    named_of (Some k) name ds = keyword_holds k ds
    named_of None name ds = map_of (OfEach P) P _ (each below ds) (each_of ds) (λ es h. made _ _ (outs-Call name es) tt h)

    at_of : (v : Value) → Of P (expr_at below v)
    at_of (value.Sym s) = made _ _ (outs-Name s) tt tt
    at_of (value.List []) = tt
    at_of (value.List (d ∷ ds)) = then_any P _ (symbol_of (value_of d)) (λ s. named_of (keyword_named s) s ds)
    at_of _ = made _ _ (outs-Literal _) tt tt

  to_of : (n : ℕ) (d : Datum) → Of P (expr_to n d)
  unfolding expr_to
  to_of zero d = tt
  to_of (suc n) d = at_of (expr_to n) (to_of n) (value_of d)

  named_expr_of : (make : List ℕ → Expr → Form) → ((s : List ℕ) (e : Expr) → P e → OfForm P (make s e)) → (x : Datum × Datum) → Of (OfForm P) (named_expr make x)
  named_expr_of make made x = then_any (OfForm P) _ (symbol_of (value_of x.0)) (λ s. map_of P (OfForm P) _ (expr_of x.1) (to_of 65 x.1) (made s))

  function_named : (ss : List (List ℕ)) (body : Datum) → Of (OfForm P) (function_with ss body)
  function_named [] body = tt
  function_named (s ∷ ss) body = map_of P (OfForm P) _ (expr_of body) (to_of 65 body) (λ e h. h)

  define_of : (v : Value) (x : Datum × Datum) → Of (OfForm P) (define_at v x)
  define_of (value.List head) x = then_any (OfForm P) _ (symbols head) (λ ss. function_named ss x.1)
  define_of _ x = named_expr_of form.Define (λ s e h. h) x

  with_of : (k : Option Keyword) (ds : List Datum) → Of (OfForm P) (form_with k ds)
  with_of (Some keyword.DefineInput) ds = then_any (OfForm P) _ (two_in ds) (λ x. map_any (OfForm P) _ (symbol_of (value_of x.0)) (λ s. tt))
  with_of (Some keyword.DefineEvent) ds = map_any (OfForm P) _ (option_and_then (λ d. symbol_of (value_of d)) (one_in ds)) (λ s. tt)
  with_of (Some keyword.Define) ds = then_any (OfForm P) _ (two_in ds) (λ x. define_of (value_of x.0) x)
  with_of (Some keyword.Show) ds = then_any (OfForm P) _ (two_in ds) (named_expr_of form.Show (λ s e h. h))
  with_of k ds = tt

  form_at_of : (v : Value) → Of (OfForm P) (form_at v)
  form_at_of (value.List (head ∷ ds)) = with_of (keyword_of (value_of head)) ds
  form_at_of _ = tt

  -- it holds of the expression of each form that has a shape
  pub form_holds : (d : Datum) → Of (OfForm P) (form_of d)
  unfolding form_of
  form_holds d = form_at_of (value_of d)
