-- What burying does to a graph: the numbers of nodes that live no more are given up.
use Rattle.std.specs.Prelude.{◌≡◌, ℕ, true}
use Rattle.fr_graph.specs.Graph.{Graph}
use Rattle.fr_way.specs.Frame.{is_watch}

-- the same nodes live, each as it was, and every era has the same members; nothing is told of numbers that no node has
pub record Buries (old new : Graph) : Type 0 where
  pub live : (m : ℕ) → new.live m ≡ old.live m
  pub kind : (m : ℕ) → old.live m ≡ true → new.kind m ≡ old.kind m
  pub inputs : (m : ℕ) → old.live m ≡ true → new.inputs m ≡ old.inputs m
  pub later : (m : ℕ) → old.live m ≡ true → new.later m ≡ old.later m
  pub value : (m : ℕ) → old.live m ≡ true → new.value m ≡ old.value m
  pub cell : (m : ℕ) → old.live m ≡ true → new.cell m ≡ old.cell m
  pub level : (m : ℕ) → old.live m ≡ true → new.level m ≡ old.level m
  pub era : (m : ℕ) → old.live m ≡ true → new.era m ≡ old.era m
  pub members : (x : ℕ) → new.members x ≡ old.members x
  pub result_of : (m : ℕ) → old.live m ≡ true → is_watch (old.kind m) ≡ true → new.result_of m ≡ old.result_of m
