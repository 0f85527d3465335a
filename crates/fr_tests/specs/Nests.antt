-- Eras within eras, of nodes that were not computed yet.
use Rattle.std.specs.Prelude.{◌≡◌, ℕ, Some, None, true}
use Rattle.fr_store.specs.declared.node.Node.{Node}
use Rattle.fr_store.specs.Nodes.{Stored, node_at}
use Rattle.fr_eras.specs.Lives.{Lives, is_era}
use Rattle.fr_eras.specs.Heights.{AreThere}

-- The program's era is there, every member and every dead node is, and no node was computed.
pub record IsYoung (lives : Lives) (store : Stored) : Type 0 where
  pub there : AreThere lives store
  pub program : is_era lives 0 ≡ true
  pub uncomputed : (i : ℕ) (n : Node) → node_at store i ≡ Some n → n.stamp ≡ None
