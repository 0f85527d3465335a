-- How the code keeps variables in scope: which variable each of them hides, and how the innermost variable of a name is found.
use Rattle.std.specs.Prelude.{ℕ, ◌≡◌, ◌≤◌, List, [], ◌∷◌, ◌++◌, Option, Some, None, map, length}
use Rattle.std.specs.Option.{option_map}
use Rattle.fr_value.specs.declared.ids.VarId.{VarId}
use Rattle.fr_scope.specs.declared.scope.Variable.{Variable}
use Rattle.fr_scope.specs.Meanings.{Binder, innermost, most_numbered}

-- what binds each of these variables
abbrev pub binders : List Variable → List Binder
binders vs = map (λ v. v.name) vs

-- the innermost variable of a name
abbrev pub variable_in : List Binder → List ℕ → Option VarId
variable_in bs name = option_map (λ n. record { 0 = n }) (innermost name 0 bs)

-- the variable that one with this binder hides where these are in scope
abbrev pub hides : List Binder → Binder → Option VarId
hides bs None = None
hides bs (Some name) = variable_in bs name

-- what each of these variables hides, behind the outer ones
abbrev pub hidden_behind : List Binder → List Binder → List (Option VarId)
hidden_behind outer [] = []
hidden_behind outer (b ∷ bs) = hides outer b ∷ hidden_behind (outer ++ b ∷ []) bs

-- each variable keeps the one that it hides, the look-up finds each name's innermost variable, and the variables' numbers fit
pub record IsKept (vs : List Variable) (look_up : List ℕ → Option VarId) : Type 0 where
  pub few : length vs ≤ most_numbered
  pub hidden : map (λ v. v.hidden) vs ≡ hidden_behind [] (binders vs)
  pub found : (name : List ℕ) → look_up name ≡ variable_in (binders vs) name
