-- What one instant may do to the nodes of a graph, as far as kept states go.
use Rattle.std.specs.Prelude.{◌≡◌, ◌≢◌, ℕ, suc, true, false, Option, None}
use Rattle.fr_meaning.specs.Words.{test_of}
use Rattle.fr_meaning.specs.Cells.{Cell}
use Rattle.fr_graph.specs.Graph.{Graph}

-- a node that lives in both has its cell before the instant, and a further one has none; the era of a watch whose key is the same has the same members, and in the era of another key, or of a further watch, every node is a further one
pub record Goes (old new : Graph) (before : ℕ → Option Cell) : Type 0 where
  pub cell : (m : ℕ) → old.live m ≡ true → new.live m ≡ true → before m ≡ old.cell m
  pub cell_new : (m : ℕ) → old.live m ≡ false → new.live m ≡ true → before m ≡ None
  pub era_same : (w : ℕ) → old.live w ≡ true → new.live w ≡ true → test_of (new.value w) ≡ test_of (old.value w) → new.members (suc w) ≡ old.members (suc w)
  pub era_new : (w m : ℕ) → old.live w ≡ true → new.live w ≡ true → test_of (new.value w) ≢ test_of (old.value w) → new.live m ≡ true → new.era m ≡ suc w → old.live m ≡ false
  pub era_born : (w m : ℕ) → old.live w ≡ false → new.live m ≡ true → new.era m ≡ suc w → old.live m ≡ false

-- no node lives
abbrev pub IsEmpty : Graph → Type 0
IsEmpty g = (m : ℕ) → g.live m ≡ false
