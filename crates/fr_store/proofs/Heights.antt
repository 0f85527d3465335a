-- Heights of what inputs name.
use Rattle.std.proofs.Common.{◌≡◌, ℕ, ◌^◌, ◌<◌, ◌≤◌, List, length, Option, Some, None, true, get_or, refl, sym, ap, ◌∙◌, arith}
use Rattle.std.proofs.lemmas.Option.{slice_get-get_or}
use Rattle.fr_links.proofs.Has.{eq_self}
use Rattle.fr_value.specs.declared.ids.NodeId.{NodeId}
use Rattle.fr_value.specs.declared.now.Held.{Held}
use Rattle.fr_value.specs.declared.now.Held.TheVariants.{Signal}
use Rattle.fr_store.specs.declared.node.Node.{Node}
use Rattle.fr_store.specs.Nodes.{height_in, is_number, named, node_in, reads}
use Rattle.fr_store.proofs.Dependents.{place_read}

-- a signal among the inputs is read
pub read_at : (inputs : List Held) (k : ℕ) (h : Held) (id : NodeId) → k < length inputs → h ≡ get_or inputs k h → h ≡ Signal id → reads id.0 inputs ≡ true
read_at inputs k h id lt at is =
    place_read id.0 inputs k (ap (λ (o : Option Held). is_number (named o) id.0) (slice_get-get_or inputs k h lt ∙ ap Some (sym at ∙ is)) ∙ eq_self id.0)

-- what is read stands low
pub low_height : (nodes : List (Option Node)) (inputs : List Held)
    → ((i : ℕ) (n : Node) → reads i inputs ≡ true → node_in nodes i ≡ Some n → n.height ≤ 2 ^ 120) → (i : ℕ) → reads i inputs ≡ true → height_in (node_in nodes i) ≤ 2 ^ 120
low_height nodes inputs low i read = by (node_in nodes i) (λ n e. low i n read e)
  where
    by : (o : Option Node) → ((n : Node) → o ≡ Some n → n.height ≤ 2 ^ 120) → height_in o ≤ 2 ^ 120
    by None f = omega arith
    by (Some n) f = f n refl
