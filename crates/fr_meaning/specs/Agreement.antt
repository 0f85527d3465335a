-- Evaluations that answer the same, whatever they keep.
use Rattle.std.specs.Prelude.{ℕ, ◌≡◌}
use Rattle.fr_core.specs.declared.core_form.Core.{Core}
use Rattle.fr_core.specs.declared.kept.Kept.{Kept}
use Rattle.fr_meaning.specs.Words.{Env, Done}
use Rattle.fr_meaning.specs.Evaluation.{World, eval}

-- two evaluations have the same value, the same cost and the same first error
pub record Agree (a b : Done) : Type 0 where
  pub value : a.value ≡ b.value
  pub cost : a.cost ≡ b.cost
  pub first : a.first ≡ b.first

-- an expression's evaluation is the same in two worlds, whatever is kept: at every nest and over every environment it answers the same over any two kept trees
abbrev pub IsSteadyOver : World → World → Core → Type 0
IsSteadyOver w w' e = (nest : ℕ) (env : Env) (k k' : Kept) → Agree (eval w nest e env k) (eval w' nest e env k')

-- an expression's evaluation doesn't depend on its kept tree
abbrev pub IsSteady : World → Core → Type 0
IsSteady w e = IsSteadyOver w w e
