-- The height of a new node, and what its inputs name.
use Rattle.std.proofs.Common.{◌≡◌, ℕ, ◌+◌, ◌<◌, ◌≤◌, List, [], ◌∷◌, inl, inr, Option, max, true, false, Bool, not, ◌||◌, nat_eq, refl, ap, ◌∙◌, subst, arith}
use Rattle.fr_links.specs.Lists.{has_item}
use Rattle.fr_links.proofs.Has.{eq_is, eq_self, or_case}
use Rattle.fr_value.specs.declared.now.Held.{Held}
use Rattle.fr_value.specs.declared.now.Held.TheVariants.{Steady, Signal}
use Rattle.fr_store.specs.declared.node.Node.{Node}
use Rattle.fr_store.specs.Nodes.{AreLive, Stored, height_in, least_height, node_at, node_in, reads}
use Rattle.fr_eras.specs.Lives.{Lives, grave}
use Rattle.fr_queue.specs.Queue.{Queued}
use Rattle.fr_graph.specs.Known.{Reads}
use Rattle.fr_nodes.specs.Kinds.{Sites, parts_of}
use Rattle.fr_nodes.specs.Makes.{AreThere}
use Rattle.fr_world.specs.World.{way_by, way_of}
use Rattle.fr_world.proofs.Whole.{live_there, some_sites}

or_left : (a b : Bool) → a ≡ true → (a || b) ≡ true
or_left true b e = refl
or_left false b e = cc

or_right : (a b : Bool) → b ≡ true → (a || b) ≡ true
or_right true b e = refl
or_right false b e = e

-- what a part names, an input names
pub reads_of : (hs : List Held) (j : ℕ) → Reads j (parts_of hs) → reads j hs ≡ true
reads_of [] j h = elim h [ ]
reads_of (Steady v ∷ hs) j h = reads_of hs j h
reads_of (Signal id ∷ hs) j (inl e) = or_left (nat_eq id.0 j) (reads j hs) (ap (λ (k : ℕ). nat_eq k j) e ∙ eq_self j)
reads_of (Signal id ∷ hs) j (inr h) = or_right (nat_eq id.0 j) (reads j hs) (reads_of hs j h)

-- what an input names, its part names
pub of_reads : (hs : List Held) (j : ℕ) → reads j hs ≡ true → Reads j (parts_of hs)
of_reads [] j h = cc
of_reads (Steady v ∷ hs) j h = of_reads hs j h
of_reads (Signal id ∷ hs) j h = or_case (nat_eq id.0 j) (reads j hs) h (λ e. inl (eq_is id.0 j e)) (λ later. inr (of_reads hs j later))

-- the height is at least the floor
pub over_floor : (nodes : List (Option Node)) (hs : List Held) (floor : ℕ) → floor ≤ least_height nodes floor hs
over_floor nodes [] floor = omega arith
over_floor nodes (Steady v ∷ hs) floor = over_floor nodes hs floor
over_floor nodes (Signal id ∷ hs) floor =
    let h = over_floor nodes hs (max floor (height_in (node_in nodes id.0) + 1)) in
    grind arith

-- it is above each input
pub over_input : (nodes : List (Option Node)) (hs : List Held) (floor j : ℕ) → Reads j (parts_of hs) → height_in (node_in nodes j) < least_height nodes floor hs
over_input nodes [] floor j h = elim h [ ]
over_input nodes (Steady v ∷ hs) floor j h = over_input nodes hs floor j h
over_input nodes (Signal id ∷ hs) floor j (inl e) =
    let P : ℕ → Type 0 = λ k. height_in (node_in nodes k) < least_height nodes (max floor (height_in (node_in nodes id.0) + 1)) hs in
    let h = over_floor nodes hs (max floor (height_in (node_in nodes id.0) + 1)) in
    subst P e (grind arith)
over_input nodes (Signal id ∷ hs) floor j (inr h) = over_input nodes hs (max floor (height_in (node_in nodes id.0) + 1)) j h

-- it is no higher than need be
pub under_bound : (nodes : List (Option Node)) (hs : List Held) (floor top : ℕ) → floor ≤ top + 1 → ((i : ℕ) → height_in (node_in nodes i) ≤ top) → least_height nodes floor hs ≤ top + 1
under_bound nodes [] floor top low all = low
under_bound nodes (Steady v ∷ hs) floor top low all = under_bound nodes hs floor top low all
under_bound nodes (Signal id ∷ hs) floor top low all =
    let h = all id.0 in
    under_bound nodes hs (max floor (height_in (node_in nodes id.0) + 1)) top (grind arith) all

-- inputs whose parts live name nodes of the store
pub are_live : (b : Bool) (s : Stored) (l : Lives) (q : Queued) (k : ℕ) (hs : List Held) → b ≡ true → ((sites : Sites) → AreThere (way_by b (way_of sites s l q k)) (parts_of hs)) → AreLive s hs
are_live true s l q k hs e there i h = live_there (node_at s i) (not (has_item (grave l) i)) (there some_sites i (of_reads hs i h))
are_live false s l q k hs e there i h = cc
