-- What it is for the nodes of an era to stay from one graph to another, whatever becomes of other eras.
use Rattle.std.specs.Prelude.{◌≡◌, ◌≢◌, ℕ, true}
use Rattle.fr_graph.specs.Graph.{source, result, Graph}
use Rattle.fr_way.specs.Frame.{is_watch}

-- a node lives in the new graph too, with its kind, later part, level and era, its inputs unless it is a result, and its result if it is a watch
pub record Stays (old new : Graph) (m : ℕ) : Type 0 where
  pub live : new.live m ≡ true
  pub kind : new.kind m ≡ old.kind m
  pub later : new.later m ≡ old.later m
  pub level : new.level m ≡ old.level m
  pub era : new.era m ≡ old.era m
  pub inputs : old.kind m ≢ result → new.inputs m ≡ old.inputs m
  pub result_of : is_watch (old.kind m) ≡ true → new.result_of m ≡ old.result_of m

-- the nodes of an era stay, and those of the sources live with their kind
pub record StaysIn (x : ℕ) (old new : Graph) : Type 0 where
  pub nodes : (m : ℕ) → old.live m ≡ true → old.era m ≡ x → Stays old new m
  pub sources : (m s : ℕ) → old.live m ≡ true → old.kind m ≡ source s → (new.live m ≡ true) × (new.kind m ≡ source s)
