-- What a walk is given: pure expressions.
use Rattle.std.specs.Prelude.{◌≡◌, ℕ, List, [], ◌∷◌, slice_get, Some}
use Rattle.fr_core.specs.Classes.{IsPureExpr}
use Rattle.fr_core.specs.declared.core_form.Core.{Core}
use Rattle.fr_core.specs.declared.program.Function.{Function}
use Rattle.fr_core.specs.declared.program.Program.{Program}
use Rattle.fr_meaning.specs.Evaluation.{body_for}

-- an expression is pure in a program that has these functions
pub record IsPureOver (fs : List Function) (e : Core) : Type 0 where
  pub program : Program
  pub functions : program.functions ≡ fs
  pub pure : IsPureExpr program e

-- each of these is
abbrev pub ArePureOver : List Function → List Core → Type 0
ArePureOver fs [] = Unit {0}
ArePureOver fs (e ∷ es) = IsPureOver fs e × ArePureOver fs es

-- the body that a call with so many arguments evaluates is
abbrev pub IsPureCall : List Function → ℕ → ℕ → Type 0
IsPureCall fs f n = (body : Core) → body_for (slice_get fs f) n ≡ Some body → IsPureOver fs body
