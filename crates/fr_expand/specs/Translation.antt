-- The core expression that an expression stands for.
use Rattle.std.specs.Prelude.{ℕ, Bool, true, false, List, [], ◌∷◌, ◌++◌, map, length, Option, Some, None}
use Rattle.fr_value.specs.declared.primitive.Primitive.TheVariants as primitive
use Rattle.fr_value.specs.declared.value.Value.TheVariants as value
use Rattle.fr_syntax.specs.Outlines.{Global}
use Rattle.fr_syntax.specs.declared.expr.Expr.{Expr, fold-Expr}
use Rattle.fr_syntax.specs.declared.expr.Expr.TheOpen.{Expr-F}
use Rattle.fr_core.specs.declared.core_form.Core.{Core}
use Rattle.fr_core.specs.declared.core_form.Core.TheVariants as core
use Rattle.fr_core.specs.declared.core_form.Operator.TheVariants as operator
use Rattle.fr_scope.specs.declared.meaning.Meaning.{Meaning}
use Rattle.fr_scope.specs.declared.meaning.Meaning.TheVariants as meaning
use Rattle.fr_scope.specs.Meanings.{Binder, meaning_of}
use Rattle.fr_expand.specs.declared.view.Binding.{Binding}
use Rattle.fr_expand.specs.declared.view.Binding.TheVariants as binding
use Rattle.fr_expand.specs.Faults.{named}
use Rattle.fr_expand.specs.Shapes.{Shape, literal, reference, call, choice, chain, clauses, all_of, any_of, operation, binder, feedback, shape}

-- the literal of a truth value
abbrev pub truth : Bool → Core
truth b = core.Lit (value.Bool b)

-- the core expression of a name that stands for a value; of a name that is refused there it is `#f`
abbrev pub value_core : Option Meaning → Core
value_core (Some (meaning.Variable x)) = core.Var x
value_core (Some (meaning.Source x)) = core.Source x
value_core m = truth false

-- the core expression of a call; of a name that can't be called it is the list of its arguments
abbrev pub call_core : Option Meaning → List Core → Core
call_core (Some (meaning.Function f)) es = core.Apply f es
call_core (Some (meaning.Primitive p)) es = core.Operator (operator.Prim p) es
call_core m es = core.Operator (operator.Prim primitive.List) es

-- the core expression of a form with a body
abbrev pub binding_core : Binding → List Core → Core → Core
binding_core binding.Let es b = core.Let es b
binding_core (binding.Handler h) es b = core.Handler h es b
binding_core (binding.Loop l) es b = core.Loop l es b

-- the core expression of a part, where these variables are in scope
abbrev pub Part : Type 0
Part = List Binder → Core

-- the core expressions of all parts at one place
abbrev pub each_core : List Part → List Binder → List Core
each_core es scope = map (λ e. e scope) es

-- one binding inside another
abbrev pub chained_core : List (List ℕ) → List Part → Part → Part
chained_core (x ∷ xs) (e ∷ es) body scope = core.Let (e scope ∷ []) (chained_core xs es body (scope ++ Some x ∷ []))
chained_core xs es body scope = body scope

-- one test inside another
abbrev pub cond_core : List Core → List Core → Core → Core
cond_core (t ∷ ts) (e ∷ es) other = core.If t e (cond_core ts es other)
cond_core ts es other = other

-- all but the last are tests
abbrev pub and_core : List Core → Core
and_core [] = truth true
and_core (e ∷ []) = e
and_core (e ∷ es) = core.If e (and_core es) (truth false)

-- all but the last are bound to a variable without a name, tested, and given where they aren't `#f`
abbrev pub or_core : List Part → Part
or_core [] scope = truth false
or_core (e ∷ []) scope = e scope
or_core (e ∷ es) scope = core.Let (e scope ∷ []) (core.If (core.Var (record { 0 = length scope })) (core.Var (record { 0 = length scope })) (or_core es (scope ++ None ∷ [])))

-- the core expression of a shape from those of its parts
abbrev pub core_by : List Global → Shape Part → Part
core_by globals (literal v) scope = core.Lit v
core_by globals (reference x) scope = value_core (meaning_of globals scope x)
core_by globals (call f es) scope = call_core (meaning_of globals scope f) (each_core es scope)
core_by globals (choice a b c) scope = core.If (a scope) (b scope) (c scope)
core_by globals (chain xs es b) scope = chained_core xs es b scope
core_by globals (clauses ts es e) scope = cond_core (each_core ts scope) (each_core es scope) (e scope)
core_by globals (all_of es) scope = and_core (each_core es scope)
core_by globals (any_of es) scope = or_core es scope
core_by globals (operation o es) scope = core.Operator o (each_core es scope)
core_by globals (binder k es xs b) scope = binding_core k (each_core es scope) (b (scope ++ named xs))
core_by globals (feedback x a b) scope = core.Feedback (a scope) (b (scope ++ named (x ∷ [])))

-- the core expression from those of the parts
abbrev pub core_step : List Global → Expr-F Part → Part
core_step globals f = core_by globals (shape f)

-- the core expression that an expression stands for, where these names are global and these variables are in scope
unfoldable pub core_of : List Global → Expr → Part
core_of globals = fold-Expr Part (core_step globals)
