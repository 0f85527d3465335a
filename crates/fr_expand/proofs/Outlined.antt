-- The global name that a form with a shape gives.
use Rattle.std.specs.Prelude.{ℕ, suc, ◌≡◌, ◌+◌, ◌≤◌, List, [], ◌∷◌, ◌++◌, length, Option, Some, None}
use Rattle.std.proofs.Common.{refl, ap, ◌∙◌, arith}
use Rattle.std.specs.Option.{option_map, option_and_then, option_to_list}
use Rattle.fr_value.specs.Data.{value_of}
use Rattle.fr_value.specs.declared.value.Datum.{Datum}
use Rattle.fr_value.specs.declared.value.Value.{Value}
use Rattle.fr_value.specs.declared.value.Value.TheVariants as value
use Rattle.fr_syntax.specs.declared.keyword.Keyword.{Keyword}
use Rattle.fr_syntax.specs.declared.keyword.Keyword.TheVariants as keyword
use Rattle.fr_syntax.specs.declared.expr.Expr.{Expr}
use Rattle.fr_syntax.specs.declared.form.Form.{Form}
use Rattle.fr_syntax.specs.declared.form.Form.TheVariants as form
use Rattle.fr_syntax.specs.declared.outlines.Sort.TheVariants as sort
use Rattle.fr_syntax.specs.Outlines.{Global, symbol_of, keyword_of, given, outline_of}
use Rattle.fr_syntax.specs.Shapes.{symbols, expr_of, function_with, define_at, form_with, form_at, form_of}
use Rattle.fr_scope.specs.Meanings.{globals_in}
use Rattle.fr_expand.specs.Shaped.{and_behind, shaped}
use Rattle.fr_expand.specs.Expansion.{functions_in, inputs_from, events_from}
use Rattle.fr_expand.proofs.Bound.{sources_among, functions_among}
use Rattle.fr_expand.proofs.Parsed.{Of}

-- the global name that a form gives
abbrev pub outline_at : Form → Option Global
outline_at (form.Input name v) = Some (name, sort.Input)
outline_at (form.Event name) = Some (name, sort.Event)
outline_at (form.Function name params body) = Some (name, sort.Function)
outline_at (form.Define name e) = None
outline_at (form.Show name e) = None

-- the outline of a form is this
abbrev Outlines : Option Global → Form → Type 0
Outlines o f = o ≡ outline_at f

input_outlined : (s : Option (List ℕ)) (v : Value) → Of (Outlines (option_map (λ n. (n, sort.Input)) s)) (option_map (λ n. form.Input n v) s)
input_outlined None v = tt
input_outlined (Some n) v = refl

event_outlined : (s : Option (List ℕ)) → Of (Outlines (option_map (λ n. (n, sort.Event)) s)) (option_map form.Event s)
event_outlined None = tt
event_outlined (Some n) = refl

made_outlined : (make : Expr → Form) (o : Option Global) (e : Option Expr) → ((x : Expr) → Outlines o (make x)) → Of (Outlines o) (option_map make e)
made_outlined make o None h = tt
made_outlined make o (Some x) h = h x

named_outlined : (make : List ℕ → Expr → Form) (s : Option (List ℕ)) (e : Option Expr) → ((n : List ℕ) (x : Expr) → Outlines None (make n x))
    → Of (Outlines None) (option_and_then (λ n. option_map (make n) e) s)
named_outlined make None e h = tt
named_outlined make (Some n) e h = made_outlined (make n) None e (h n)

rest_outlined : (n : List ℕ) (params : Option (List (List ℕ))) (body : Datum)
    → Of (Outlines (Some (n, sort.Function))) (option_and_then (λ ss. function_with ss body) (option_map (λ ss. n ∷ ss) params))
rest_outlined n None body = tt
rest_outlined n (Some ps) body = made_outlined (form.Function n ps) (Some (n, sort.Function)) (expr_of body) (λ x. refl)

head_outlined : (s : Option (List ℕ)) (params : Option (List (List ℕ))) (body : Datum)
    → Of (Outlines (option_map (λ n. (n, sort.Function)) s)) (option_and_then (λ ss. function_with ss body) (option_and_then (λ n. option_map (λ ss. n ∷ ss) params) s))
head_outlined None params body = tt
head_outlined (Some n) params body = rest_outlined n params body

define_outlined : (v : Value) (x : Datum × Datum) → Of (Outlines (given (Some keyword.Define) v)) (define_at v x)
define_outlined (value.List []) x = tt
define_outlined (value.List (d ∷ ds)) x = head_outlined (symbol_of (value_of d)) (symbols ds) x.1
define_outlined (value.Int n) x = named_outlined form.Define (symbol_of (value_of x.0)) (expr_of x.1) (λ n y. refl)
define_outlined (value.Bool b) x = named_outlined form.Define (symbol_of (value_of x.0)) (expr_of x.1) (λ n y. refl)
define_outlined (value.Str s) x = named_outlined form.Define (symbol_of (value_of x.0)) (expr_of x.1) (λ n y. refl)
define_outlined (value.Sym s) x = named_outlined form.Define (symbol_of (value_of x.0)) (expr_of x.1) (λ n y. refl)

-- what follows a keyword, and the outline that it gives
abbrev outline_behind : Option Keyword → List Datum → Option Global
outline_behind k [] = None
outline_behind k (d ∷ ds) = given k (value_of d)

with_outlined : (k : Option Keyword) (ds : List Datum) → Of (Outlines (outline_behind k ds)) (form_with k ds)
with_outlined (Some keyword.DefineInput) [] = tt
with_outlined (Some keyword.DefineInput) (a ∷ []) = tt
with_outlined (Some keyword.DefineInput) (a ∷ b ∷ []) = input_outlined (symbol_of (value_of a)) (value_of b)
with_outlined (Some keyword.DefineInput) (a ∷ b ∷ c ∷ ds) = tt
with_outlined (Some keyword.DefineEvent) [] = tt
with_outlined (Some keyword.DefineEvent) (a ∷ []) = event_outlined (symbol_of (value_of a))
with_outlined (Some keyword.DefineEvent) (a ∷ b ∷ ds) = tt
with_outlined (Some keyword.Define) [] = tt
with_outlined (Some keyword.Define) (a ∷ []) = tt
with_outlined (Some keyword.Define) (a ∷ b ∷ []) = define_outlined (value_of a) (a, b)
with_outlined (Some keyword.Define) (a ∷ b ∷ c ∷ ds) = tt
with_outlined (Some keyword.Show) [] = tt
with_outlined (Some keyword.Show) (a ∷ []) = tt
with_outlined (Some keyword.Show) (a ∷ b ∷ []) = named_outlined form.Show (symbol_of (value_of a)) (expr_of b) (λ n y. refl)
with_outlined (Some keyword.Show) (a ∷ b ∷ c ∷ ds) = tt
with_outlined k ds = tt

at_outlined : (v : Value) → Of (Outlines (outline_of v)) (form_at v)
at_outlined (value.List []) = tt
at_outlined (value.List (d ∷ [])) = with_outlined (keyword_of (value_of d)) []
at_outlined (value.List (d ∷ e ∷ ds)) = with_outlined (keyword_of (value_of d)) (e ∷ ds)
at_outlined (value.Int n) = tt
at_outlined (value.Bool b) = tt
at_outlined (value.Str s) = tt
at_outlined (value.Sym s) = tt

-- a form with a shape gives the name that its outline gives
pub outlined : (d : Datum) → Of (Outlines (outline_of (value_of d))) (form_of d)
unfolding form_of
outlined d = at_outlined (value_of d)

-- the global names that forms give
abbrev pub outlines_of : List Form → List Global
outlines_of [] = []
outlines_of (f ∷ fs) = option_to_list (outline_at f) ++ outlines_of fs

globals_behind : (o : Option Global) (x : Option Form) (n : ℕ) (gs : List Global) (fs : List Form) → Of (Outlines o) x → suc n ≤ length (and_behind x fs) → (n ≤ length fs → gs ≡ outlines_of fs)
    → option_to_list o ++ gs ≡ outlines_of (and_behind x fs)
globals_behind o None n gs fs h few k = absurd (omega (arith, few))
globals_behind o (Some f) n gs fs h few k = ap (λ p. option_to_list p ++ gs) h ∙ ap (λ l. option_to_list (outline_at f) ++ l) (k (omega (arith, few)))

-- where all forms have a shape, these are the global names
pub globals_shaped : (ds : List Datum) → length ds ≤ length (shaped ds) → globals_in ds ≡ outlines_of (shaped ds)
globals_shaped [] h = refl
globals_shaped (d ∷ ds) h = globals_behind (outline_of (value_of d)) (form_of d) (length ds) (globals_in ds) (shaped ds) (outlined d) h (globals_shaped ds)

-- as many functions as global names of functions
pub functions_counted : (g : List Global) (fs : List Form) → functions_among (outlines_of fs) ≡ length (functions_in g fs)
functions_counted g [] = refl
functions_counted g (form.Function name params body ∷ fs) = omega (arith, functions_counted g fs)
functions_counted g (form.Input name v ∷ fs) = functions_counted g fs
functions_counted g (form.Event name ∷ fs) = functions_counted g fs
functions_counted g (form.Define name e ∷ fs) = functions_counted g fs
functions_counted g (form.Show name e ∷ fs) = functions_counted g fs

-- as many sources as global names of sources
pub sources_counted : (n : ℕ) (fs : List Form) → sources_among (outlines_of fs) ≡ length (inputs_from n fs) + length (events_from n fs)
sources_counted n [] = refl
sources_counted n (form.Input name v ∷ fs) = omega (arith, sources_counted (n + 1) fs)
sources_counted n (form.Event name ∷ fs) = omega (arith, sources_counted (n + 1) fs)
sources_counted n (form.Function name params body ∷ fs) = sources_counted n fs
sources_counted n (form.Define name e ∷ fs) = sources_counted n fs
sources_counted n (form.Show name e ∷ fs) = sources_counted n fs
