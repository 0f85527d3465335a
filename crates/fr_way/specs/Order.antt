-- Which node stands above which among all whose numbers are in use: those that live, and those that await burial.
use Rattle.std.specs.Prelude.{◌≡◌, ◌≢◌, ◌⊎◌, ℕ, suc, ◌<◌, true, false}
use Rattle.fr_graph.specs.Graph.{Graph}
use Rattle.fr_graph.specs.Known.{Reads}
use Rattle.fr_way.specs.Frame.{is_watch}
use Rattle.fr_way.specs.Way.{Way}

-- a node stands above another: it reads it, or it lives in the era that the other owns, or it is the other's result
abbrev pub IsOver : Way → ℕ → ℕ → Type 0
IsOver at lower upper =
    ((at.taken upper ≡ true) × Reads lower (at.graph.inputs upper))
    ⊎ (((at.graph.live upper ≡ true) × (at.graph.era upper ≡ suc lower)) ⊎ ((at.graph.live lower ≡ true) × (is_watch (at.graph.kind lower) ≡ true) × (upper ≡ at.graph.result_of lower)))

-- what the nodes that await burial read is in use, and stands below them
abbrev pub DeadAreLevelled : Way → Type 0
DeadAreLevelled at = (m j : ℕ) → at.taken m ≡ true → at.graph.live m ≡ false → Reads j (at.graph.inputs m) → (at.taken j ≡ true) × (at.height j < at.height m)

-- each node stands higher than those that it is above, but for what this one reads
abbrev pub AreLevelledBut : Way → ℕ → Type 0
AreLevelledBut at r = (a b : ℕ) → IsOver at a b → (b ≢ r) ⊎ (Reads a (at.graph.inputs b) → ⊥) → at.height a < at.height b

-- no node lives whose number is this or greater
abbrev pub AreBelow : ℕ → Graph → Type 0
AreBelow numbers g = (m : ℕ) → g.live m ≡ true → m < numbers

-- ranks rise from each node to those above it
pub record IsOrdered (at : Way) : Type 0 where
  pub rank : ℕ → ℕ
  pub rises : (a b : ℕ) → IsOver at a b → rank a < rank b
