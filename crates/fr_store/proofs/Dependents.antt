-- What the lists of edges say of the nodes that read a node.
use Rattle.std.proofs.Common.{◌≡◌, ℕ, zero, suc, ◌+◌, ◌-◌, ◌<◌, ◌≤◌, List, [], ◌∷◌, length, map, inl, inr, Option, Some, None, IsSome, Bool, true, false, nat_eq, ◌||◌, ◌&&◌, slice_get, refl, sym, ap, ◌∙◌, subst, arith}
use Rattle.std.specs.Option.{option_map}
use Rattle.std.proofs.lemmas.List.{get_or-map, get_or_past, length-map}
use Rattle.fr_links.specs.Lists.{has_item, list_at}
use Rattle.fr_links.proofs.Has.{eq_is, eq_self, or_case, true_false}
use Rattle.fr_value.specs.declared.now.Held.{Held}
use Rattle.fr_store.specs.declared.edges.Edges.{Edges}
use Rattle.fr_store.specs.declared.edges.Run.{Run}
use Rattle.fr_store.specs.declared.node.Node.{Node}
use Rattle.fr_store.specs.declared.table.Table.{Table}
use Rattle.fr_store.specs.Nodes.{AreDependents, Edge, IsEdge, StandsAt, dependents_at, edge_number, has_edge, has_reader, is_number, named, node_at, node_in, reads, signal_at}
use Rattle.fr_store.specs.Kept.{IsStore, edge_of, edge_count, first_at, inputs_at, inputs_in, nodes_of, owner_at, room_at, stored_in}
use Rattle.fr_store.proofs.Lists.{by_bound, same_tests}

and_both : (a b : Bool) → (a && b) ≡ true → (a ≡ true) × (b ≡ true)
and_both true b h = (refl, h)
and_both false b h = cc

both_and : (a b : Bool) → a ≡ true → b ≡ true → (a && b) ≡ true
both_and true b e f = f
both_and false b e f = cc

or_left : (a b : Bool) → a ≡ true → (a || b) ≡ true
or_left true b e = refl
or_left false b e = cc

or_right : (a b : Bool) → b ≡ true → (a || b) ≡ true
or_right true b e = refl
or_right false b e = e

-- an edge among those of these numbers
edge_in : (runs : List Run) (owners xs : List ℕ) (j place : ℕ) → has_edge (map (edge_of runs owners) xs) j place ≡ true
    → (x : ℕ) × (has_item xs x ≡ true) × (owner_at owners x ≡ j) × (x - first_at runs (owner_at owners x) ≡ place)
edge_in runs owners [] j place h = cc
edge_in runs owners (x ∷ xs) j place h =
    or_case (nat_eq (owner_at owners x) j && nat_eq (x - first_at runs (owner_at owners x)) place) (has_edge (map (edge_of runs owners) xs) j place) h
    (λ e. let b = and_both (nat_eq (owner_at owners x) j) (nat_eq (x - first_at runs (owner_at owners x)) place) e in
    (x, or_left (nat_eq x x) (has_item xs x) (eq_self x), eq_is (owner_at owners x) j b.0, eq_is (x - first_at runs (owner_at owners x)) place b.1))
    (λ later. let r = edge_in runs owners xs j place later in (r.0, or_right (nat_eq x r.0) (has_item xs r.0) r.1, r.2, r.3))

in_edge : (runs : List Run) (owners xs : List ℕ) (x j place : ℕ) → has_item xs x ≡ true → owner_at owners x ≡ j
    → x - first_at runs (owner_at owners x) ≡ place → has_edge (map (edge_of runs owners) xs) j place ≡ true
in_edge runs owners [] x j place h own at = cc
in_edge runs owners (y ∷ xs) x j place h own at = or_case (nat_eq y x) (has_item xs x) h
    (λ e. or_left (nat_eq (owner_at owners y) j && nat_eq (y - first_at runs (owner_at owners y)) place) (has_edge (map (edge_of runs owners) xs) j place)
    (let same : y ≡ x = eq_is y x e in
    both_and (nat_eq (owner_at owners y) j) (nat_eq (y - first_at runs (owner_at owners y)) place)
    (ap (λ (k : ℕ). nat_eq k j) (ap (owner_at owners) same ∙ own) ∙ eq_self j)
    (ap (λ (k : ℕ). nat_eq k place) (ap (λ (k : ℕ). k - first_at runs (owner_at owners k)) same ∙ at) ∙ eq_self place)))
    (λ later. or_right (nat_eq (owner_at owners y) j && nat_eq (y - first_at runs (owner_at owners y)) place) (has_edge (map (edge_of runs owners) xs) j place)
    (in_edge runs owners xs x j place later own at))

-- who reads names at some place
reader_place : (es : List Edge) (j : ℕ) → has_reader es j ≡ true → (place : ℕ) × (has_edge es j place ≡ true)
reader_place [] j h = cc
reader_place (e ∷ es) j h = or_case (nat_eq e.node j) (has_reader es j) h
    (λ here. (e.place, or_left (nat_eq e.node j && nat_eq e.place e.place) (has_edge es j e.place) (both_and (nat_eq e.node j) (nat_eq e.place e.place) here (eq_self e.place))))
    (λ later. let r = reader_place es j later in (r.0, or_right (nat_eq e.node j && nat_eq e.place r.0) (has_edge es j r.0) r.1))

place_reader : (es : List Edge) (j place : ℕ) → has_edge es j place ≡ true → has_reader es j ≡ true
place_reader [] j place h = cc
place_reader (e ∷ es) j place h = or_case (nat_eq e.node j && nat_eq e.place place) (has_edge es j place) h
    (λ here. or_left (nat_eq e.node j) (has_reader es j) (and_both (nat_eq e.node j) (nat_eq e.place place) here).0)
    (λ later. or_right (nat_eq e.node j) (has_reader es j) (place_reader es j place later))

read_place : (i : ℕ) (inputs : List Held) → reads i inputs ≡ true → (place : ℕ) × (is_number (signal_at inputs place) i ≡ true)
read_place i [] h = cc
read_place i (input ∷ inputs) h = or_case (is_number (named (Some input)) i) (reads i inputs) h
    (λ here. (zero, here)) (λ later. let r = read_place i inputs later in (suc r.0, r.1))

pub place_read : (i : ℕ) (inputs : List Held) (place : ℕ) → is_number (signal_at inputs place) i ≡ true → reads i inputs ≡ true
place_read i [] place h = cc
place_read i (input ∷ inputs) zero h = or_left (is_number (named (Some input)) i) (reads i inputs) h
place_read i (input ∷ inputs) (suc place) h = or_right (is_number (named (Some input)) i) (reads i inputs) (place_read i inputs place h)

-- behind the inputs there is no signal
pub no_signal : (inputs : List Held) (place : ℕ) → length inputs ≤ place → signal_at inputs place ≡ None
no_signal [] place le = refl
no_signal (input ∷ inputs) zero le = absurd (omega arith)
no_signal (input ∷ inputs) (suc place) le = no_signal inputs place (omega arith)

-- an edge of a list of dependents is known by its number
pub numbers_of : (runs : List Run) (owners xs : List ℕ) (place : ℕ) → option_map (λ (e : Edge). e.number) (slice_get (map (edge_of runs owners) xs) place) ≡ slice_get xs place
numbers_of runs owners [] place = refl
numbers_of runs owners (x ∷ xs) zero = refl
numbers_of runs owners (x ∷ xs) (suc place) = numbers_of runs owners xs place

-- the edge at a place of a list of dependents
pub edge_there : (runs : List Run) (owners xs : List ℕ) (place : ℕ) (e : Edge) → slice_get (map (edge_of runs owners) xs) place ≡ Some e
    → (x : ℕ) × (slice_get xs place ≡ Some x) × (e ≡ edge_of runs owners x)
edge_there runs owners [] place e h = cc
edge_there runs owners (x ∷ xs) zero e h = (x, refl, same_some e (edge_of runs owners x) (sym h))
  where
    same_some : (a b : Edge) → Some a ≡ Some b → a ≡ b
    same_some a b e = cc
edge_there runs owners (x ∷ xs) (suc place) e h = edge_there runs owners xs place e h

pub item_there : (xs : List ℕ) (place x : ℕ) → slice_get xs place ≡ Some x → has_item xs x ≡ true
item_there [] place x h = cc
item_there (y ∷ xs) zero x h = or_left (nat_eq y x) (has_item xs x) (ap (λ (k : ℕ). nat_eq k x) (same_some y x h) ∙ eq_self x)
  where
    same_some : (a b : ℕ) → Some a ≡ Some b → a ≡ b
    same_some a b e = cc
item_there (y ∷ xs) (suc place) x h = or_right (nat_eq y x) (has_item xs x) (item_there xs place x h)

pub dependents_are : (limit : ℕ) (t : Table) (e : Edges) (i : ℕ)
    → dependents_at (stored_in limit t e) i ≡ map (edge_of e.runs.items e.owners.items) (list_at e.links.lists i)
dependents_are limit t e i = elim (by_bound i (length e.links.lists)) [
  | inl lt ↦ get_or-map (map (edge_of e.runs.items e.owners.items)) e.links.lists i [] [] lt
  | inr le ↦
      get_or_past (map (map (edge_of e.runs.items e.owners.items)) e.links.lists) i []
      (subst (λ (n : ℕ). n ≤ i) (sym (length-map e.links.lists (map (edge_of e.runs.items e.owners.items)))) le)
      ∙ ap (map (edge_of e.runs.items e.owners.items)) (sym (get_or_past e.links.lists i [] le))
]

module _ (limit : ℕ) (t : Table) (e : Edges) (s : IsStore limit t e) (i : ℕ) where
  edges : List Edge
  edges = map (edge_of e.runs.items e.owners.items) (list_at e.links.lists i)

  -- each edge in the list is a place that names the node
  is_place : (j place : ℕ) → has_edge (map (edge_of e.runs.items e.owners.items) (list_at e.links.lists i)) j place ≡ true
      → (j < length e.runs.items) × (place < room_at e.runs.items j) × (has_item (list_at e.links.lists i) (first_at e.runs.items j + place) ≡ true)
  is_place j place h =
      let x = edge_in e.runs.items e.owners.items (list_at e.links.lists i) j place h in
      let p = s.kept_edges.inside i x.0 x.1 in
      let own : owner_at e.owners.items x.0 ≡ p.number = ap (owner_at e.owners.items) p.same ∙ s.kept_edges.owned p.number p.place p.there p.within in
      let same : p.number ≡ j = sym own ∙ x.2 in
      let from : first_at e.runs.items (owner_at e.owners.items x.0) ≡ first_at e.runs.items p.number = ap (first_at e.runs.items) own in
      let at : p.place ≡ place = behind x.0 (first_at e.runs.items p.number) p.place place (first_at e.runs.items (owner_at e.owners.items x.0)) p.same x.3 from in (
        subst (λ (k : ℕ). k < length e.runs.items) same p.there,
        subst (λ (k : ℕ). place < room_at e.runs.items k) same (subst (λ (k : ℕ). k < room_at e.runs.items p.number) at p.within),
        subst (λ (k : ℕ). has_item (list_at e.links.lists i) (first_at e.runs.items k + place) ≡ true) same
            (subst (λ (k : ℕ). has_item (list_at e.links.lists i) (first_at e.runs.items p.number + k) ≡ true) at
            (subst (λ (k : ℕ). has_item (list_at e.links.lists i) k ≡ true) p.same x.1)),
      )
    where
      behind : (x first p place other : ℕ) → x ≡ first + p → x - other ≡ place → other ≡ first → p ≡ place
      behind x first p place other a b d = omega arith

  names : (j place : ℕ) → has_edge (map (edge_of e.runs.items e.owners.items) (list_at e.links.lists i)) j place ≡ true
      → is_number (signal_at (inputs_at t j) place) i ≡ true
  names j place h = let p = is_place j place h in sym (s.listed.listed i j place p.0 p.1) ∙ p.2

  named_there : (j place : ℕ) → is_number (signal_at (inputs_at t j) place) i ≡ true
      → has_edge (map (edge_of e.runs.items e.owners.items) (list_at e.links.lists i)) j place ≡ true
  named_there j place h = elim (by_bound place (length (inputs_at t j))) [
    | inr le ↦ true_false (is_number (signal_at (inputs_at t j) place) i) h (ap (λ (o : Option ℕ). is_number o i) (no_signal (inputs_at t j) place le))
    | inl lt ↦
        let wide = s.listed.enough j in
        let within : place < room_at e.runs.items j = omega arith in
        let there : j < length e.runs.items = has_run j within in
        let own = s.kept_edges.owned j place there within in
        in_edge e.runs.items e.owners.items (list_at e.links.lists i) (first_at e.runs.items j + place) j place
        (s.listed.listed i j place there within ∙ h) own
        (ap (λ (k : ℕ). first_at e.runs.items j + place - first_at e.runs.items k) own ∙ less (first_at e.runs.items j) place)
  ]
    where
      less : (a b : ℕ) → a + b - a ≡ b
      less a b = omega arith

      has_run : (j : ℕ) → place < room_at e.runs.items j → j < length e.runs.items
      has_run j lt = elim (by_bound j (length e.runs.items)) [
        | inl there ↦ there
        | inr beyond ↦
            let none : room_at e.runs.items j ≡ 0 = ap (λ (r : Run). r.room) (get_or_past e.runs.items j (record { first = 0; room = 0 }) beyond) in
            absurd (omega arith)
      ]

  inputs_are : (j : ℕ) (n : Node) → node_at (stored_in limit t e) j ≡ Some n → inputs_at t j ≡ n.inputs
  inputs_are j n at = ap inputs_in at

  has_node : (j place : ℕ) → is_number (signal_at (inputs_at t j) place) i ≡ true → IsSome (node_in (nodes_of t) j)
  has_node j place h = by (node_in (nodes_of t) j) h
    where
      by : (o : Option Node) → is_number (signal_at (inputs_in o) place) i ≡ true → IsSome o
      by None h = cc
      by (Some n) h = refl

  exact : AreDependents (stored_in limit t e) i (map (edge_of e.runs.items e.owners.items) (list_at e.links.lists i))
  exact = record {
    places = λ j place n at.
        same_tests (has_edge (map (edge_of e.runs.items e.owners.items) (list_at e.links.lists i)) j place) (is_number (signal_at (inputs_at t j) place) i)
        (names j place) (named_there j place)
        ∙ ap (λ (hs : List Held). is_number (signal_at hs place) i) (inputs_are j n at);
    readers = λ j n at.
        same_tests (has_reader (map (edge_of e.runs.items e.owners.items) (list_at e.links.lists i)) j) (reads i (inputs_at t j))
        (λ h. let p = reader_place (map (edge_of e.runs.items e.owners.items) (list_at e.links.lists i)) j h in place_read i (inputs_at t j) p.0 (names j p.0 p.1))
        (λ h. let p = read_place i (inputs_at t j) h in place_reader (map (edge_of e.runs.items e.owners.items) (list_at e.links.lists i)) j p.0 (named_there j p.0 p.1))
        ∙ ap (reads i) (inputs_are j n at);
    live = λ j h. let p = reader_place (map (edge_of e.runs.items e.owners.items) (list_at e.links.lists i)) j h in has_node j p.0 (names j p.0 p.1);
  }

  pub exact_dependents : AreDependents (stored_in limit t e) i (dependents_at (stored_in limit t e) i)
  exact_dependents = subst (λ (es : List Edge). AreDependents (stored_in limit t e) i es) (sym (dependents_are limit t e i)) exact

-- where an edge stands, it is an item of the list
pub edge_item : (limit : ℕ) (t : Table) (e : Edges) (edge i place : ℕ) (d : Edge) → StandsAt (stored_in limit t e) edge i place d
    → (slice_get (list_at e.links.lists i) place ≡ Some edge) × (d ≡ edge_of e.runs.items e.owners.items edge)
edge_item limit t e edge i place d s =
    let r = edge_there e.runs.items e.owners.items (list_at e.links.lists i) place d (ap (λ (es : List Edge). slice_get es place) (sym (dependents_are limit t e i)) ∙ s.here) in
    let same : r.0 ≡ edge = ap (λ (x : Edge). x.number) (sym r.2) ∙ s.same in
    (r.1 ∙ ap Some same, r.2 ∙ ap (edge_of e.runs.items e.owners.items) same)

pub seen_number : (limit : ℕ) (t : Table) (e : Edges) (i place : ℕ) → slice_get (list_at e.links.lists i) place ≡ edge_number (dependents_at (stored_in limit t e) i) place
seen_number limit t e i place =
    sym (numbers_of e.runs.items e.owners.items (list_at e.links.lists i) place)
    ∙ ap (λ (es : List Edge). edge_number es place) (sym (dependents_are limit t e i))

-- an edge that stands among dependents is one of those that there are
pub edge_within : (limit : ℕ) (t : Table) (e : Edges) (edge : ℕ) → IsStore limit t e → IsEdge (stored_in limit t e) edge → edge < edge_count e
edge_within limit t e edge s d =
    let at = edge_item limit t e edge d.0 d.1 d.2 d.3 in
    let p = s.kept_edges.inside d.0 edge (item_there (list_at e.links.lists d.0) d.1 edge at.0) in
    let r = (s.kept_edges.runs p.number p.there).1 in
    let same = p.same in
    let lt = p.within in
    omega arith
