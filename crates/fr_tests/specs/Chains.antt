-- Chains of nodes, in which what stands above each is the next one.
use Rattle.std.specs.Prelude.{◌≡◌, ◌≢◌, ℕ, ◌+◌, ◌<◌, ◌≤◌, List, [], length, Some, IsSome, true, slice_get}
use Rattle.fr_value.specs.declared.now.Held.{Held}
use Rattle.fr_store.specs.declared.node.Node.{Node}
use Rattle.fr_store.specs.Nodes.{Stored, node_at, reads}
use Rattle.fr_eras.specs.Lives.{Lives, is_era, members}
use Rattle.fr_eras.specs.Heights.{AreThere}

-- Among these inputs is no node, or the one before this number alone.
abbrev pub ReadsBefore : ℕ → List Held → Type 0
ReadsBefore i inputs = (a : ℕ) → reads a inputs ≡ true → i ≡ a + 1

-- The nodes have the numbers below how many they are, each stands at the height of its number and reads at most the one before it, and all are members of the program's era in this order.
pub record IsChain (lives : Lives) (store : Stored) : Type 0 where
  pub there : AreThere lives store
  pub program : is_era lives 0 ≡ true
  pub only : (era : ℕ) → era ≢ 0 → members lives era ≡ []
  pub places : (place node : ℕ) → slice_get (members lives 0) place ≡ Some node → node ≡ place
  pub long : length (members lives 0) ≡ length store.nodes
  pub dense : (i : ℕ) → i < length store.nodes → IsSome (node_at store i)
  pub few : length store.nodes ≤ 4194304
  pub height : (i : ℕ) (n : Node) → node_at store i ≡ Some n → n.height ≡ i
  pub before : (i : ℕ) (n : Node) → node_at store i ≡ Some n → ReadsBefore i n.inputs
