-- Which functions of a program are closed, which are pure, and which expressions are pure or fit.
use Rattle.std.specs.Prelude.{ℕ, ◌≡◌, ◌==◌, ◌&&◌, Bool, true, false, List, map, length, slice_get, Option, Some, None}
use Rattle.fr_core.specs.WellFormed.{Root, roots}
use Rattle.fr_core.specs.declared.core_form.Core.{Core, fold-Core}
use Rattle.fr_core.specs.declared.core_form.Core.TheOpen.{Core-F}
use Rattle.fr_core.specs.declared.core_form.Operator.{Operator}
use Rattle.fr_core.specs.declared.core_form.Operator.TheVariants as operator
use Rattle.fr_core.specs.Shapes.{parts_in, all_true}
use Rattle.fr_core.specs.declared.program.Function.{Function}
use Rattle.fr_core.specs.declared.program.Program.{Program}

-- a set of functions: whether the function of a number is a member
abbrev pub FunctionSet : Type 0
FunctionSet = ℕ → Bool

-- whether an expression itself is no source, and no call but of a member
abbrev pub closed_itself : {X : Type 0} → FunctionSet → Core-F X → Bool
closed_itself s (Core-F.Source x) = false
closed_itself s (Core-F.Apply f es) = s f.0
closed_itself s f = true

-- whether an expression names no source and calls members alone, from that of its parts
abbrev pub closed_step : FunctionSet → Core-F Bool → Bool
closed_step s f = closed_itself s f && all_true (parts_in f)

-- whether an expression names no source and calls members of the set alone, bodies included
unfoldable pub names_only : FunctionSet → Core → Bool
names_only s = fold-Core Bool (closed_step s)

-- a function of the program whose body names no source and calls members of the set alone; its variables are its own, since each number names something in scope
pub record ClosedOver (p : Program) (s : FunctionSet) (f : ℕ) : Type 0 where
  pub function : Function
  pub stands : slice_get p.functions f ≡ Some function
  pub body : names_only s function.body ≡ true

-- each member is a function of the program that is closed over the set
pub record FitsClosed (p : Program) (s : FunctionSet) : Type 0 where
  pub fits : (f : ℕ) → s f ≡ true → ClosedOver p s f

-- a closed function is a member of one of the sets that fit: the closed functions are the union of them all
pub record IsClosed (p : Program) (f : ℕ) : Type 0 where
  pub set : FunctionSet
  pub fits : FitsClosed p set
  pub member : set f ≡ true

-- whether an expression is pure, and whether the bodies of its handlers and loops are pure
pub record Judged : Type 0 where
  pub pure : Bool
  pub fit : Bool

-- whether all of these are pure
abbrev pub all_pure : List Judged → Bool
all_pure js = all_true (map (λ j. j.pure) js)

-- whether all of these are fit
abbrev pub all_fit : List Judged → Bool
all_fit js = all_true (map (λ j. j.fit) js)

-- whether an operator is a primitive
abbrev pub is_prim : Operator → Bool
is_prim (operator.Prim p) = true
is_prim o = false

-- whether an expression itself has no state and is none of an event, where the test tells whether a call of a function with so many arguments is pure
abbrev pub pure_itself : {X : Type 0} → (ℕ → ℕ → Bool) → Core-F X → Bool
pure_itself calls (Core-F.Apply f es) = calls f.0 (length es)
pure_itself calls (Core-F.Operator o es) = is_prim o
pure_itself calls (Core-F.Handler h es b) = false
pure_itself calls (Core-F.Feedback a b) = false
pure_itself calls f = true

-- whether the body of an expression that is itself a handler or a loop passes the test
abbrev pub body_passes : {X : Type 0} → (X → Bool) → Core-F X → Bool
body_passes test (Core-F.Handler h es b) = test b
body_passes test (Core-F.Loop l es b) = test b
body_passes test f = true

-- what is pure and what is fit, from the judgements of the parts
abbrev pub judge_step : (ℕ → ℕ → Bool) → Core-F Judged → Judged
judge_step calls f = record {
  pure = pure_itself calls f && all_pure (parts_in f);
  fit = body_passes (λ j. j.pure) f && all_fit (parts_in f);
}

-- an expression is pure where it has no form with a state and none of an event, and each call in it is pure; it is fit where the body of each handler and loop in it is pure
unfoldable pub judge : (ℕ → ℕ → Bool) → Core → Judged
judge calls = fold-Core Judged (judge_step calls)

-- the function has so many parameters
abbrev pub takes : Option Function → ℕ → Bool
takes None n = false
takes (Some function) n = function.params == n

-- a call of a member with as many arguments as it has parameters
abbrev pub calls_of : Program → FunctionSet → ℕ → ℕ → Bool
calls_of p s f n = s f && takes (slice_get p.functions f) n

-- a closed function whose body is pure where calls of members are
pub record PureOver (p : Program) (s : FunctionSet) (f : ℕ) : Type 0 where
  pub closed : IsClosed p f
  pub function : Function
  pub stands : slice_get p.functions f ≡ Some function
  pub body : (judge (calls_of p s) function.body).pure ≡ true

-- each member is pure over the set
pub record FitsPure (p : Program) (s : FunctionSet) : Type 0 where
  pub fits : (f : ℕ) → s f ≡ true → PureOver p s f

-- a pure function is a member of one of the sets that fit: the pure functions are the union of them all
pub record IsPure (p : Program) (f : ℕ) : Type 0 where
  pub set : FunctionSet
  pub fits : FitsPure p set
  pub member : set f ≡ true

-- an expression of the program is pure: it is, where calls of the members of one of these sets are
pub record IsPureExpr (p : Program) (e : Core) : Type 0 where
  pub set : FunctionSet
  pub fits : FitsPure p set
  pub pure : (judge (calls_of p set) e).pure ≡ true

-- the bodies of an expression's handlers and loops are pure
pub record IsFitExpr (p : Program) (e : Core) : Type 0 where
  pub set : FunctionSet
  pub fits : FitsPure p set
  pub fit : (judge (calls_of p set) e).fit ≡ true

-- the bodies of all handlers and loops of the program are pure
pub record IsFit (p : Program) : Type 0 where
  pub each : (i : ℕ) (r : Root) → slice_get (roots p) i ≡ Some r → IsFitExpr p r.expr
