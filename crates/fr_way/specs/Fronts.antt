-- What is known to be right while an instant is under way: the nodes below what is queued.
use Rattle.std.specs.Prelude.{◌≡◌, ℕ, suc, Bool, true, false, List, [], nat_lt}
use Rattle.fr_value.specs.declared.now.Now.{Now}
use Rattle.fr_core.specs.declared.lowered.LowItem.{LowItem}
use Rattle.fr_links.specs.Lists.{has_item}
use Rattle.fr_graph.specs.Graph.{Kind, works, watch, Graph}
use Rattle.fr_graph.specs.Walk.{Plan}
use Rattle.fr_graph.specs.Known.{AllKnown}
use Rattle.fr_graph.specs.Front.{Errs}
use Rattle.fr_graph.specs.Items.{place_items, body_walk, IsUnderWay}
use Rattle.fr_way.specs.Frame.{is_source}
use Rattle.fr_way.specs.Way.{Way, cell_in}

-- whether a node stands below a height
abbrev pub stands_below : Way → ℕ → ℕ → Bool
stands_below at h m = nat_lt (at.height m) h

-- the nodes below a height are right, and what a node reads is among them
pub record IsFront (p : Plan) (is : List LowItem) (ms : List ℕ) (sources : List Now) (old : Graph) (at : Way) (m h : ℕ) : Type 0 where
  pub right : IsUnderWay at.graph (λ n. stands_below at h n ≡ true) p is ms sources (cell_in old)
  pub inputs : AllKnown (λ n. stands_below at h n ≡ true) (at.graph.inputs m)

-- every node is known
abbrev pub every_node : ℕ → Bool
every_node m = true

-- a kind of which a node stands for an expression: a work or a watch
abbrev pub stands_itself : Kind → Bool
stands_itself (works w) = true
stands_itself (watch a b env) = true
stands_itself k = false

-- the nodes of the program's era are sources or among these members, each of which the items use
pub record AreUsed (g : Graph) (p : Plan) (is : List LowItem) (ms : List ℕ) : Type 0 where
  pub among : (m : ℕ) → g.live m ≡ true → g.era m ≡ 0 → is_source (g.kind m) ≡ false → has_item ms m ≡ true
  pub all : (place_items (body_walk p) [] is ms).left ≡ []

-- the watches that own eras are known, from a node upwards
pub record OwnersKnown (g : Graph) (known : ℕ → Type 0) (m : ℕ) : Type 0 where
  pub here : (w : ℕ) → g.era m ≡ suc w → known w
  pub above : (v w : ℕ) → known v → g.live v ≡ true → g.era v ≡ suc w → known w

-- a node errs on the values that it reads, where what stands below its height is known
abbrev pub ErrsAt : Way → ℕ → Plan → Graph → ℕ → Type 0
ErrsAt at h p old m = Errs at.graph (λ n. stands_below at h n ≡ true) p (cell_in old) m (at.graph.kind m) (at.graph.inputs m)

-- a live node errs on the values that it reads, where everything is known
pub record ErrsAtEnd (at : Way) (p : Plan) (old : Graph) (m : ℕ) : Type 0 where
  pub live : at.graph.live m ≡ true
  pub errs : Errs at.graph (λ n. every_node n ≡ true) p (cell_in old) m (at.graph.kind m) (at.graph.inputs m)
