-- How the expression of a kernel is numbered: its variables and sources become slots.
use Rattle.std.specs.Prelude.{◌≡◌, ℕ, ◌+◌, ◌-◌, ◌<◌, ◌==◌, nat_lt, if◌then◌else◌, List, [], ◌∷◌, length, slice_get, slice_index}
use Rattle.fr_value.specs.declared.now.Now.{Now}
use Rattle.fr_core.specs.declared.core_form.Core.{Core, fold-Core}
use Rattle.fr_core.specs.declared.core_form.Core.TheOpen.{Core-F}
use Rattle.fr_core.specs.declared.core_form.Core.TheVariants as core
use Rattle.fr_meaning.specs.Words.{Env, found}
use Rattle.fr_meaning.specs.Evaluation.{source_seen}
use Rattle.fr_meaning.specs.Dependence.{variables, sources_of}

-- what the slots of a kernel's code stand for: these variables below `first`, then these sources, then so many parameters, which are the variables from number `first` on
pub record Scheme : Type 0 where
  pub first : ℕ
  pub params : ℕ
  pub outer : List ℕ
  pub sources : List ℕ

-- the number of variables in scope around the expression
abbrev pub around : Scheme → ℕ
around s = s.first + s.params

-- the number of slots
abbrev pub width : Scheme → ℕ
width s = length s.outer + length s.sources + s.params

-- the index of a number in a list, or the list's length
abbrev pub index_of : ℕ → List ℕ → ℕ
index_of n [] = 0
index_of n (m ∷ ms) = if n == m then 0 else 1 + index_of n ms

-- the number of slots before the parameters
abbrev pub before_params : Scheme → ℕ
before_params s = length s.outer + length s.sources

-- the slot of a variable below `first`, of a parameter, or of a variable that the expression binds itself, which comes behind all others
abbrev pub variable_slot : Scheme → ℕ → ℕ
variable_slot s x = if nat_lt x s.first then index_of x s.outer else if nat_lt x (around s) then x - s.first + before_params s else x - around s + width s

-- the slot of a source
abbrev pub source_slot : Scheme → ℕ → ℕ
source_slot s x = length s.outer + index_of x s.sources

-- an expression over slots, from its parts
abbrev pub number_step : Scheme → Core-F Core → Core
number_step s (Core-F.Var x) = core.Var (record { 0 = variable_slot s x.0 })
number_step s (Core-F.Source x) = core.Var (record { 0 = source_slot s x.0 })
number_step s (Core-F.Lit v) = core.Lit v
number_step s (Core-F.Let es b) = core.Let es b
number_step s (Core-F.If a b c) = core.If a b c
number_step s (Core-F.Apply f es) = core.Apply f es
number_step s (Core-F.Operator o es) = core.Operator o es
number_step s (Core-F.Handler h es b) = core.Handler h es b
number_step s (Core-F.Loop l es b) = core.Loop l es b
number_step s (Core-F.Feedback a b) = core.Feedback a b

-- an expression whose variables and sources became slots
unfoldable pub numbered : Scheme → Core → Core
numbered s = fold-Core Core (number_step s)

-- a variable by its number
abbrev pub variable_of : ℕ → Core
variable_of n = core.Var (record { 0 = n })

-- a source by its number
abbrev pub source_of : ℕ → Core
source_of n = core.Source (record { 0 = n })

-- what a slot stands for: a variable below `first`, a source, a parameter, or behind all slots a variable that the expression binds itself
abbrev pub stood_for : Scheme → ℕ → Core
stood_for s k =
    if nat_lt k (length s.outer) then variable_of (slice_index s.outer k)
    else if nat_lt k (before_params s) then source_of (slice_index s.sources (k - length s.outer))
    else if nat_lt k (width s) then variable_of (k - before_params s + s.first)
    else variable_of (k - width s + around s)

-- an expression over variables and sources, from its parts
abbrev pub restore_step : Scheme → Core-F Core → Core
restore_step s (Core-F.Var x) = stood_for s x.0
restore_step s (Core-F.Source x) = core.Source x
restore_step s (Core-F.Lit v) = core.Lit v
restore_step s (Core-F.Let es b) = core.Let es b
restore_step s (Core-F.If a b c) = core.If a b c
restore_step s (Core-F.Apply f es) = core.Apply f es
restore_step s (Core-F.Operator o es) = core.Operator o es
restore_step s (Core-F.Handler h es b) = core.Handler h es b
restore_step s (Core-F.Loop l es b) = core.Loop l es b
restore_step s (Core-F.Feedback a b) = core.Feedback a b

-- the expression that was numbered: each slot is what it stands for again
unfoldable pub restored : Scheme → Core → Core
restored s = fold-Core Core (restore_step s)

-- this holds of each
abbrev pub Every : (ℕ → Type 0) → List ℕ → Type 0
Every P [] = Unit {0}
Every P (n ∷ ns) = P n × Every P ns

-- the slots have the values of all variables in scope around an expression and of all sources that it names
pub record Stand (s : Scheme) (e : Core) (sources : List Now) (env slots : Env) : Type 0 where
  pub env_length : length env ≡ around s
  pub slots_length : length slots ≡ width s
  pub variables_read : Every (λ x. x < around s → slice_get env x ≡ slice_get slots (variable_slot s x)) (variables e)
  pub sources_read : Every (λ x. (source_slot s x < width s) × (found (slice_get slots (source_slot s x)) ≡ source_seen (slice_get sources x))) (sources_of e)
