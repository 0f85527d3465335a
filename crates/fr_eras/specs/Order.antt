-- The order in which members are gone over.
use Rattle.std.specs.Prelude.{ℕ, List, [], ◌∷◌, map, Option, Some, None, cond, nat_eq}
use Rattle.std.specs.Option.{option_map}
use Rattle.fr_value.specs.declared.ids.NodeId.{NodeId}

-- The items of a list from one on.
abbrev pub from_item : List ℕ → ℕ → List ℕ
from_item [] item = []
from_item (x ∷ xs) item = cond (nat_eq x item) (x ∷ xs) (from_item xs item)

-- The items of a list from one on, or none.
abbrev pub from_here : List ℕ → Option ℕ → List ℕ
from_here xs None = []
from_here xs (Some item) = from_item xs item

-- The node with this number.
abbrev pub node_of : ℕ → NodeId
node_of number = record { 0 = number }

-- The nodes with these numbers.
abbrev pub nodes_of : List ℕ → List NodeId
nodes_of = map node_of

-- The node with this number, where there is one.
abbrev pub node_at : Option ℕ → Option NodeId
node_at = option_map node_of
