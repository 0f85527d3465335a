-- Which functions an expression calls.
use Rattle.std.specs.Prelude.{ℕ, List, [], ◌∷◌, ◌++◌}
use Rattle.std.specs.List.{concat}
use Rattle.fr_core.specs.declared.core_form.Core.{Core, fold-Core}
use Rattle.fr_core.specs.declared.core_form.Core.TheOpen.{Core-F}
use Rattle.fr_core.specs.Shapes.{parts_in}

-- the number of the function that an expression itself calls
abbrev pub calls_itself : {X : Type 0} → Core-F X → List ℕ
calls_itself (Core-F.Apply f es) = f.0 ∷ []
calls_itself f = []

-- the functions that an expression calls, from those that its parts call
abbrev pub calls_step : Core-F (List ℕ) → List ℕ
calls_step f = calls_itself f ++ concat (parts_in f)

-- the number of the function of each call in an expression, bodies included, in the order in which they are written
unfoldable pub calls : Core → List ℕ
calls = fold-Core (List ℕ) calls_step
