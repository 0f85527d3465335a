-- What an evaluation depends on: the variables and the sources that an expression names, and the values that earlier items bind.
use Rattle.std.specs.Prelude.{ℕ, ◌+◌, ◌≡◌, List, [], ◌∷◌, ◌++◌, slice_get}
use Rattle.std.specs.Option.{option_or}
use Rattle.fr_core.specs.declared.core_form.Core.{Core, fold-Core}
use Rattle.fr_core.specs.declared.core_form.Core.TheOpen.{Core-F}
use Rattle.fr_core.specs.Shapes.{parts_in}
use Rattle.fr_core.specs.declared.kept.Kept.{Kept}
use Rattle.fr_core.specs.declared.program.Item.{Item}
use Rattle.fr_core.specs.declared.program.Item.TheVariants as item
use Rattle.fr_meaning.specs.Words.{Seen, Env}
use Rattle.fr_meaning.specs.Cells.{child}
use Rattle.fr_meaning.specs.Evaluation.{Ev, Parts}
use Rattle.fr_meaning.specs.Afresh.{Evaluated}

-- lists one after the other
abbrev pub joined : List (List ℕ) → List ℕ
joined [] = []
joined (ns ∷ rest) = ns ++ joined rest

-- the variable that an expression itself is
abbrev pub own_variable : {X : Type 0} → Core-F X → List ℕ
own_variable (Core-F.Var x) = x.0 ∷ []
own_variable f = []

-- the variables that an expression names, from those that its parts name
abbrev pub variables_step : Core-F (List ℕ) → List ℕ
variables_step f = own_variable f ++ joined (parts_in f)

-- the variables that an expression names, those of its handlers and loops and those that it binds itself included
unfoldable pub variables : Core → List ℕ
variables = fold-Core (List ℕ) variables_step

-- the source that an expression itself is
abbrev pub own_source : {X : Type 0} → Core-F X → List ℕ
own_source (Core-F.Source s) = s.0 ∷ []
own_source f = []

-- the sources that an expression names, from those that its parts name
abbrev pub sources_step : Core-F (List ℕ) → List ℕ
sources_step f = own_source f ++ joined (parts_in f)

-- the sources that an expression names, those of its handlers and loops included
unfoldable pub sources_of : Core → List ℕ
sources_of = fold-Core (List ℕ) sources_step

-- both lists have the same at each of these numbers, or neither has anything there
abbrev pub AgreeAt : {X : Type 0} → List ℕ → List X → List X → Type 0
AgreeAt [] xs others = Unit {0}
AgreeAt (n ∷ ns) xs others = (slice_get xs n ≡ slice_get others n) × AgreeAt ns xs others

-- parts that were evaluated, and then others
abbrev pub parts_followed : Parts → Parts → Parts
parts_followed a b = record { values = a.values ++ b.values; kepts = a.kepts ++ b.kepts; cost = a.cost + b.cost; first = option_or a.first b.first }

-- the expression of an item
abbrev pub item_expr : Item → Core
item_expr (item.Define e) = e
item_expr (item.Show name e) = e

-- what is in scope behind an item: a `define` binds its value
abbrev pub with_bound : {X : Type 0} → Item → List X → X → List X
with_bound (item.Define e) scope x = scope ++ x ∷ []
with_bound (item.Show name e) scope x = scope

-- the values that items bind
abbrev pub bound : Ev → Env → Kept → ℕ → List Item → List Seen
bound ev env k i [] = []
bound ev env k i (x ∷ xs) = let v = (ev (item_expr x) env (child k i)).value in with_bound x [] v ++ bound ev (with_bound x env v) k (i + 1) xs

-- items that were evaluated, and then others
abbrev pub followed : Evaluated → Evaluated → Evaluated
followed a b = record { shown = a.shown ++ b.shown; kepts = a.kepts ++ b.kepts; cost = a.cost + b.cost; first = option_or a.first b.first }
