-- What code tells of a body that was evaluated.
use Rattle.std.specs.Prelude.{◌≡◌, None}
use Rattle.fr_meaning.specs.Afresh.{Evaluated}
use Rattle.fr_afresh.specs.declared.bodies.Progress.{Progress}
use Rattle.fr_afresh.specs.Bodies.{all_good}

-- what was done tells of items that were evaluated
pub record IsProgressOf (p : Progress) (n : Evaluated) : Type 0 where
  pub shown : p.shown ≡ n.shown
  pub kepts : p.around.kepts ≡ n.kepts
  pub first : p.around.first ≡ n.first

-- where nothing errs, no shown value is Bad
abbrev pub IsClean : Progress → Type 0
IsClean p = p.around.first ≡ None → all_good p.shown ≡ None → ⊥
