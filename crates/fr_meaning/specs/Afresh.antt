-- Evaluation afresh: at every instant the whole program is evaluated over its inputs and what was kept.
use Rattle.std.specs.Prelude.{ℕ, ◌+◌, ◌==◌, zero, suc, pos, if◌then◌else◌, List, [], ◌∷◌, ◌++◌, map, Option, Some, None, unwrap_or}
use Rattle.std.specs.Option.{option_or}
use Rattle.fr_value.specs.declared.value.Value.{Value}
use Rattle.fr_value.specs.declared.value.Value.TheVariants as value
use Rattle.fr_value.specs.declared.now.Now.{Now}
use Rattle.fr_value.specs.declared.now.Now.TheVariants.{Plain, Occ}
use Rattle.fr_core.specs.Sets.{value_in}
use Rattle.fr_core.specs.WellFormed.{last_source}
use Rattle.fr_core.specs.declared.inputs.Entry.{Entry}
use Rattle.fr_core.specs.declared.inputs.Inputs.{Inputs}
use Rattle.fr_core.specs.declared.kept.Kept.{Kept}
use Rattle.fr_core.specs.declared.kept.Kept.TheVariants as kept
use Rattle.fr_core.specs.declared.program.Input.{Input}
use Rattle.fr_core.specs.declared.program.Item.{Item}
use Rattle.fr_core.specs.declared.program.Item.TheVariants as item
use Rattle.fr_core.specs.declared.program.Program.{Program}
use Rattle.fr_meaning.specs.Words.{Seen, Env, First, Done, under}
use Rattle.fr_meaning.specs.Cells.{child}
use Rattle.fr_meaning.specs.Evaluation.{Ev, world_of, eval}

-- the values of the inputs, where each that is set has its new one
abbrev pub latest : List Input → List Value → List Entry → List Value
latest [] vs sets = []
latest (i ∷ is) [] sets = []
latest (i ∷ is) (v ∷ vs) sets = unwrap_or (value_in i.source sets) v ∷ latest is vs sets

-- the value of the input that is source number n, if one is
abbrev pub input_value : List Input → List Value → ℕ → Option Value
input_value [] vs n = None
input_value (i ∷ is) [] n = None
input_value (i ∷ is) (v ∷ vs) n = if i.source.0 == n then Some v else input_value is vs n

-- an input has its value; an event occurs where it is set
abbrev pub source_now : Option Value → Option Value → Now
source_now (Some v) set = Plain v
source_now None set = Occ set

-- so many sources from number n on
abbrev pub sources_from : List Input → List Value → List Entry → ℕ → ℕ → List Now
sources_from is vs sets n zero = []
sources_from is vs sets n (suc more) = source_now (input_value is vs n) (value_in (record { 0 = n }) sets) ∷ sources_from is vs sets (n + 1) more

-- the sources at an instant: `now` is its time
abbrev pub sources_at : Program → List Value → Inputs → List Now
sources_at p vs i = Plain (value.Int (pos i.time)) ∷ sources_from p.inputs vs i.sets 1 (last_source p)

-- items that were evaluated in order
pub record Evaluated : Type 0 where
  pub shown : List Seen
  pub kepts : List Kept
  pub cost : ℕ
  pub first : First

-- item number i before those behind it; a show's value is shown
abbrev pub join_item : ℕ → List Seen → Done → Evaluated → Evaluated
join_item i shown d rest = record { shown = shown ++ rest.shown; kepts = d.kept ∷ rest.kepts; cost = d.cost + rest.cost; first = option_or (under i d.first) rest.first }

-- the items from number i on, each over its part of what was kept; a value is bound for the items behind it
abbrev pub items : Ev → Env → Kept → ℕ → List Item → Evaluated
items ev env k i [] = record { shown = []; kepts = []; cost = 0; first = None }
items ev env k i (item.Define e ∷ is) = let d = ev e env (child k i) in join_item i [] d (items ev (env ++ d.value ∷ []) k (i + 1) is)
items ev env k i (item.Show name e ∷ is) = let d = ev e env (child k i) in join_item i (d.value ∷ []) d (items ev env k (i + 1) is)

-- the whole body, each item at nest 1
abbrev pub body : Program → List Now → Kept → Evaluated
body p sources k = items (eval (world_of p sources) 1) [] k 0 p.body

-- all that one instant hands to the next: the values of the inputs, and what the body keeps
pub record State : Type 0 where
  pub values : List Value
  pub kept : Kept

-- before instant 0
abbrev pub beginning : Program → State
beginning p = record { values = map (λ i. i.first) p.inputs; kept = kept.Nothing }

-- an instant: the values of the inputs at it, and the evaluation
pub record Instant : Type 0 where
  pub values : List Value
  pub evaluated : Evaluated

abbrev pub over_values : Program → List Value → Kept → Inputs → Instant
over_values p vs k i = record { values = vs; evaluated = body p (sources_at p vs i) k }

-- an instant after a state
unfoldable pub instant : Program → State → Inputs → Instant
instant p s i = over_values p (latest p.inputs s.values i.sets) s.kept i

-- what an instant hands on
abbrev pub handed_on : Instant → State
handed_on n = record { values = n.values; kept = kept.Group n.evaluated.kepts }

-- instant 0 has time 0 and sets nothing
abbrev pub first_instant : Inputs
first_instant = record { time = 0; sets = [] }
