-- Items that were evaluated so far, as code tells of them.
use Rattle.std.specs.Prelude.{ℕ, List, [], ◌∷◌, ◌++◌, Option, Some, None, Ok, Err}
use Rattle.std.specs.Option.{option_or, option_map}
use Rattle.fr_value.specs.declared.now.Now.{Now}
use Rattle.fr_core.specs.declared.kept.Kept.{Kept}
use Rattle.fr_core.specs.declared.program.Item.{Item}
use Rattle.fr_core.specs.declared.program.Item.TheVariants as item
use Rattle.fr_meaning.specs.Words.{Seen}
use Rattle.fr_meaning.specs.Evaluation.{Ev}
use Rattle.fr_meaning.specs.Afresh.{Evaluated, items}
use Rattle.fr_afresh.specs.declared.bodies.Progress.{Progress}
use Rattle.fr_afresh.specs.declared.joining.Done.{Done}
use Rattle.fr_afresh.specs.Outcomes.{unbegun_around, with_kept}

-- the items so far, and behind them item number n: its value is bound for the items behind it, or shown
abbrev pub behind_item : Progress → ℕ → Item → Done → Progress
behind_item p n (item.Define e) d = record { env = p.env ++ d.value ∷ []; shown = p.shown; around = with_kept p.around n d.kept d.first }
behind_item p n (item.Show name e) d = record { env = p.env; shown = p.shown ++ d.value ∷ []; around = with_kept p.around n d.kept d.first }

-- what all items give, at no cost, where these are left from number i on
abbrev pub whole : Ev → Kept → ℕ → Progress → List Item → Evaluated
whole ev k i p is = let rest = items ev p.env k i is in record { shown = p.shown ++ rest.shown; kepts = p.around.kepts ++ rest.kepts; cost = 0; first = option_or p.around.first rest.first }

-- before the first item
abbrev pub unbegun : Progress
unbegun = record { env = []; shown = []; around = unbegun_around }

-- the values, where none of them is Bad
abbrev pub all_good : List Seen → Option (List Now)
all_good [] = Some []
all_good (Ok v ∷ xs) = option_map (λ vs. v ∷ vs) (all_good xs)
all_good (Err b ∷ xs) = None
