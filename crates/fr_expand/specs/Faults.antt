-- Which names in an expression may not stand where they stand.
use Rattle.std.specs.Prelude.{ℕ, ◌||◌, Bool, true, false, List, [], ◌∷◌, ◌++◌, map, Option, Some, None, is_some}
use Rattle.std.specs.Str.{bytes_eq}
use Rattle.fr_syntax.specs.Keywords.{keyword_named}
use Rattle.fr_syntax.specs.Outlines.{Global}
use Rattle.fr_syntax.specs.declared.expr.Expr.{Expr, fold-Expr}
use Rattle.fr_syntax.specs.declared.expr.Expr.TheOpen.{Expr-F}
use Rattle.fr_scope.specs.declared.meaning.Meaning.{Meaning}
use Rattle.fr_scope.specs.declared.meaning.Meaning.TheVariants as meaning
use Rattle.fr_scope.specs.Meanings.{Binder, meaning_of}
use Rattle.fr_expand.specs.declared.faults.Faults.{Faults}
use Rattle.fr_expand.specs.Shapes.{Shape, literal, reference, call, choice, chain, clauses, all_of, any_of, operation, binder, feedback, shape}

-- no fault
abbrev pub clean : Faults
clean = record { name = false; unbound = false; twice = false }

-- the faults of either
abbrev pub with : Faults → Faults → Faults
with a b = record { name = a.name || b.name; unbound = a.unbound || b.unbound; twice = a.twice || b.twice }

-- a name stands where what it means may not
abbrev pub misplaced : Faults
misplaced = record { name = true; unbound = false; twice = false }

-- a name means nothing
abbrev pub meaningless : Faults
meaningless = record { name = false; unbound = true; twice = false }

-- the fault of a name that stands for a value and means this: a function or a primitive is no value
abbrev pub value_fault : Option Meaning → Faults
value_fault None = meaningless
value_fault (Some (meaning.Variable x)) = clean
value_fault (Some (meaning.Source x)) = clean
value_fault (Some (meaning.Function f)) = misplaced
value_fault (Some (meaning.Primitive p)) = misplaced

-- the fault of a name that is called and means this: a variable or a source can't be called
abbrev pub callee_fault : Option Meaning → Faults
callee_fault None = meaningless
callee_fault (Some (meaning.Variable x)) = misplaced
callee_fault (Some (meaning.Source x)) = misplaced
callee_fault (Some (meaning.Function f)) = clean
callee_fault (Some (meaning.Primitive p)) = clean

-- the fault of a keyword, and else this one
abbrev pub unless_keyword : Bool → Faults → Faults
unless_keyword true f = misplaced
unless_keyword false f = f

abbrev pub is_keyword : List ℕ → Bool
is_keyword name = is_some (keyword_named name)

-- whether a name is among these
abbrev pub is_among : List ℕ → List (List ℕ) → Bool
is_among name [] = false
is_among name (n ∷ ns) = bytes_eq n name || is_among name ns

abbrev pub any_keyword : List (List ℕ) → Bool
any_keyword [] = false
any_keyword (n ∷ ns) = is_keyword n || any_keyword ns

-- whether a name stands twice
abbrev pub any_twice : List (List ℕ) → Bool
any_twice [] = false
any_twice (n ∷ ns) = is_among n ns || any_twice ns

-- the faults of names that are bound together: no keyword may be bound, and no name twice
abbrev pub binding_faults : List (List ℕ) → Faults
binding_faults names = record { name = any_keyword names; unbound = false; twice = any_twice names }

-- the faults of names that are bound one after the other, which may repeat
abbrev pub chain_faults : List (List ℕ) → Faults
chain_faults names = record { name = any_keyword names; unbound = false; twice = false }

-- these names as what binds variables
abbrev pub named : List (List ℕ) → List Binder
named names = map Some names

-- the faults of a part, where these variables are in scope
abbrev pub Part : Type 0
Part = List Binder → Faults

-- the faults of all parts at one place
abbrev pub all_faults : List Part → Part
all_faults [] scope = clean
all_faults (f ∷ fs) scope = with (f scope) (all_faults fs scope)

-- the faults of parts of which each but the first sees the name before it, and of a body that sees all
abbrev pub chained_faults : List (List ℕ) → List Part → Part → Part
chained_faults (x ∷ xs) (f ∷ fs) body scope = with (f scope) (chained_faults xs fs body (scope ++ Some x ∷ []))
chained_faults xs fs body scope = body scope

-- the faults of a shape from those of its parts
abbrev pub faults_by : List Global → Shape Part → Part
faults_by globals (literal v) scope = clean
faults_by globals (reference x) scope = unless_keyword (is_keyword x) (value_fault (meaning_of globals scope x))
faults_by globals (call f es) scope = with (callee_fault (meaning_of globals scope f)) (all_faults es scope)
faults_by globals (choice a b c) scope = with (a scope) (all_faults (b ∷ c ∷ []) scope)
faults_by globals (chain xs es b) scope = with (chain_faults xs) (chained_faults xs es b scope)
faults_by globals (clauses ts es e) scope = with (all_faults ts scope) (with (all_faults es scope) (e scope))
faults_by globals (all_of es) scope = all_faults es scope
faults_by globals (any_of es) scope = all_faults es scope
faults_by globals (operation o es) scope = all_faults es scope
faults_by globals (binder k es xs b) scope = with (binding_faults xs) (with (all_faults es scope) (b (scope ++ named xs)))
faults_by globals (feedback x a b) scope = with (binding_faults (x ∷ [])) (with (all_faults (a ∷ []) scope) (b (scope ++ named (x ∷ []))))

-- the faults of an expression from those of its parts
abbrev pub faults_step : List Global → Expr-F Part → Part
faults_step globals f = faults_by globals (shape f)

-- the faults of an expression, where these names are global and these variables are in scope
unfoldable pub faults : List Global → Expr → Part
faults globals = fold-Expr Part (faults_step globals)
