-- What tells the forms of a shape apart, and the parts of an expression.
use Rattle.std.specs.Prelude.{ℕ, ◌==◌, ◌&&◌, Bool, true, List, [], ◌∷◌, ◌++◌, map, length}
use Rattle.fr_core.specs.declared.core_form.Core.{Core, out-Core}
use Rattle.fr_core.specs.declared.core_form.Core.TheOpen.{Core-F}
use Rattle.fr_core.specs.declared.core_form.Operator.{Operator}
use Rattle.fr_core.specs.declared.core_form.Operator.TheVariants as operator
use Rattle.fr_core.specs.declared.core_form.Handler.{Handler}
use Rattle.fr_core.specs.declared.core_form.Handler.TheVariants as handler
use Rattle.fr_core.specs.declared.core_form.Loop.{Loop}
use Rattle.fr_core.specs.declared.core_form.Loop.TheVariants as loop

-- whether an operator takes so many parts
abbrev pub operator_takes : Operator → ℕ → Bool
operator_takes (operator.Prim p) n = true
operator_takes operator.MergeE n = true
operator_takes operator.Hold n = n == 2
operator_takes operator.Changes n = n == 1
operator_takes operator.OnceE n = n == 1
operator_takes operator.Delay n = n == 2
operator_takes operator.DelayE n = n == 1

-- the number of parts that a handler has beside its body
abbrev pub handler_parts : Handler → ℕ
handler_parts handler.MapE = 1
handler_parts handler.FilterE = 1
handler_parts handler.CollectB = 2
handler_parts handler.CollectE = 2

-- the number of variables that a handler binds for its body
abbrev pub handler_binds : Handler → ℕ
handler_binds handler.MapE = 1
handler_binds handler.FilterE = 1
handler_binds handler.CollectB = 2
handler_binds handler.CollectE = 2

-- the number of variables that a loop binds for its body
abbrev pub loop_binds : Loop → ℕ
loop_binds loop.Fold = 2
loop_binds loop.Repeat = 1

-- parts for which nothing is bound
abbrev pub outer : {X : Type 0} → List X → List (ℕ × X)
outer xs = map (λ x. (0, x)) xs

-- the parts of an expression in their order, each behind the number of variables that the expression binds for it
abbrev pub inner : {X : Type 0} → Core-F X → List (ℕ × X)
inner (Core-F.Lit v) = []
inner (Core-F.Var x) = []
inner (Core-F.Source x) = []
inner (Core-F.Let es b) = outer es ++ (length es, b) ∷ []
inner (Core-F.If a b c) = outer (a ∷ b ∷ c ∷ [])
inner (Core-F.Apply f es) = outer es
inner (Core-F.Operator o es) = outer es
inner (Core-F.Handler h es b) = outer es ++ (handler_binds h, b) ∷ []
inner (Core-F.Loop l es b) = outer es ++ (loop_binds l, b) ∷ []
inner (Core-F.Feedback a b) = (0, a) ∷ (1, b) ∷ []

-- these parts alone
abbrev pub parts_in : {X : Type 0} → Core-F X → List X
parts_in f = map (λ x. x.1) (inner f)

-- the parts of an expression in their order
abbrev pub parts_of : Core → List Core
parts_of e = parts_in (out-Core e)

-- the number of entries of the list that an expression has itself
abbrev pub entries : {X : Type 0} → Core-F X → ℕ
entries (Core-F.Let es b) = length es
entries (Core-F.Apply f es) = length es
entries (Core-F.Operator o es) = length es
entries (Core-F.Handler h es b) = length es
entries (Core-F.Loop l es b) = length es
entries f = 0

-- whether a form has its number of parts
abbrev pub has_its_parts : {X : Type 0} → Core-F X → Bool
has_its_parts (Core-F.Operator o es) = operator_takes o (length es)
has_its_parts (Core-F.Handler h es b) = length es == handler_parts h
has_its_parts (Core-F.Loop l es b) = length es == 2
has_its_parts f = true

-- all of these are true
abbrev pub all_true : List Bool → Bool
all_true [] = true
all_true (b ∷ bs) = b && all_true bs
