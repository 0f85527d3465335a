-- Inputs in the order of their sources.
use Rattle.std.specs.Prelude.{ℕ, ◌==◌, Bool, false, List, [], ◌∷◌, map, drop}
use Rattle.fr_value.specs.declared.value.Value.{Value}
use Rattle.fr_value.specs.declared.now.Now.{Now}
use Rattle.fr_core.specs.WellFormed.{AllAbove, Rises}
use Rattle.fr_core.specs.declared.inputs.Entry.{Entry}
use Rattle.fr_core.specs.declared.program.Input.{Input}
use Rattle.fr_meaning.specs.Afresh.{sources_from}

-- the numbers of their sources
abbrev pub numbers : List Input → List ℕ
numbers is = map (λ i. i.source.0) is

-- their sources rise, and all of them come behind source number n
pub record AreBehind (n : ℕ) (is : List Input) : Type 0 where
  pub above : AllAbove n (numbers is)
  pub rise : Rises (numbers is)

-- the first of them is source number n
abbrev pub begins_with : ℕ → List Input → Bool
begins_with n [] = false
begins_with n (i ∷ is) = i.source.0 == n

-- so many sources from number n on, where only the inputs from the one at index `next` on may be among them
abbrev pub left_from : List Input → List Value → List Entry → ℕ → ℕ → ℕ → List Now
left_from is vs sets next n more = sources_from (drop next is) (drop next vs) sets n more
