-- A store through its calls.
use Rattle.std.proofs.Common.{◌≡◌, ◌≢◌, ℕ, zero, suc, ◌+◌, ◌-◌, ◌<◌, ◌≤◌, List, [], ◌∷◌, ◌++◌, length, map, replicate, ◌⊎◌, inl, inr, Option, Some, None, IsSome, is_some, count_by, Bool, true, false, nat_eq, ◌||◌, get_or, slice_set, slice_index_or, refl, sym, ap, ◌∙◌, subst, arith, get_or-set_same, get_or-set_other, length-append, length-set}
use Rattle.std.proofs.lemmas.List.{get_or-append_right, get_or-replicate, get_or_append_left, get_or_past, length-map, length-replicate}
use Rattle.fr_links.specs.Lists.{Linked, has_item, list_at}
use Rattle.fr_links.proofs.Has.{eq_self}
use Rattle.fr_value.specs.declared.now.Held.{Held}
use Rattle.fr_store.specs.declared.edges.Edges.{Edges}
use Rattle.fr_store.specs.declared.edges.Run.{Run}
use Rattle.fr_store.specs.declared.node.Node.{Node}
use Rattle.fr_store.specs.declared.table.Table.{Table}
use Rattle.fr_store.specs.Nodes.{Edge, Makes, Stored, is_number, node_in, placed, reads, signal_at}
use Rattle.fr_store.specs.Kept.{AreEdges, AreListed, IsStore, IsTable, SameEdges, SameNumbers, SameTable, Widened, Wires, edge_of, first_at, inputs_at, inputs_in, key_at, next_number, node_under, nodes_of, owner_at, room_at, stored_in}
use Rattle.fr_store.proofs.Dependents.{place_read}
use Rattle.fr_store.proofs.Lists.{by_bound, by_number}
use Rattle.fr_store.proofs.Tables.{node_by_key, some_of}
use Rattle.fr_store.proofs.Widening.{listed_anew, listed_wider}

same_map : {A B : Type 0} (f g : A → B) (xs : List A) → ((x : A) → g x ≡ f x) → map g xs ≡ map f xs
same_map f g [] same = refl
same_map f g (x ∷ xs) same = ap (λ y. y ∷ map g xs) (same x) ∙ ap (λ ys. f x ∷ ys) (same_map f g xs same)

-- the same nodes under the same keys
pub same_nodes : (old new : Table) → SameTable old new → nodes_of new ≡ nodes_of old
same_nodes old new e =
    ap (map (node_under new.nodes)) e.numbers.keys ∙ same_map (node_under old.nodes) (node_under new.nodes) old.keys.items under
  where
    under : (o : Option ℕ) → node_under new.nodes o ≡ node_under old.nodes o
    under None = refl
    under (Some key) = ap (λ (slots : List (Option Node)). slice_index_or slots key None) e.slots

pub same_inputs : (old new : Table) → SameTable old new → (i : ℕ) → inputs_at new i ≡ inputs_at old i
same_inputs old new e i = ap (λ (nodes : List (Option Node)). inputs_in (node_in nodes i)) (same_nodes old new e)

-- the inputs of nodes where one was changed, put in or taken out
pub inputs_set : (nodes : List (Option Node)) (i : ℕ) (o : Option Node) (j : ℕ) → j ≢ i → inputs_in (node_in (slice_set nodes i o) j) ≡ inputs_in (node_in nodes j)
inputs_set nodes i o j ne = ap inputs_in (get_or-set_other nodes i j o None ne)

within : (nodes : List (Option Node)) (i : ℕ) (n : Node) → node_in nodes i ≡ Some n → i < length nodes
within nodes i n e = elim (by_bound i (length nodes)) [
  | inl lt ↦ lt
  | inr le ↦ absurd (never (node_in nodes i) (get_or_past nodes i None le) e)
]
  where
    never : (o : Option Node) → o ≡ None → o ≡ Some n → ⊥
    never o a b = cc

-- a node that is there has a number, and edges
pub number_within : (t : Table) (i : ℕ) (n : Node) → node_in (nodes_of t) i ≡ Some n → i < length t.keys.items
number_within t i n e = subst (λ (m : ℕ). i < m) (length-map t.keys.items (node_under t.nodes)) (within (nodes_of t) i n e)

-- other lists of numbers and nodes, and the same inputs
pub store_same : (limit : ℕ) (t : Table) (e : Edges) (u : Table) → IsStore limit t e → IsTable u → length u.keys.items ≡ length t.keys.items
    → ((i : ℕ) → inputs_at u i ≡ inputs_at t i) → IsStore limit u e
store_same limit t e u s k len same = record {
  small = s.small;
  few = subst (λ (n : ℕ). n ≤ limit) (sym len) s.few;
  kept_table = k;
  kept_edges = s.kept_edges;
  runs = s.runs ∙ sym len;
  listed = record {
    enough = λ i. subst (λ (hs : List Held). length hs ≤ room_at e.runs.items i) (sym (same i)) (s.listed.enough i);
    listed = λ l i place lt small. s.listed.listed l i place lt small ∙ ap (λ (hs : List Held). is_number (signal_at hs place) l) (sym (same i));
  };
}

-- a node was changed, and not its inputs
pub store_changed : (limit : ℕ) (t : Table) (e : Edges) (u : Table) (i : ℕ) (n m : Node) → IsStore limit t e → IsTable u → SameNumbers t u
    → node_in (nodes_of t) i ≡ Some n → nodes_of u ≡ slice_set (nodes_of t) i (Some m) → m.inputs ≡ n.inputs → IsStore limit u e
store_changed limit t e u i n m s k numbers at set same = store_same limit t e u s k (ap length numbers.keys) each
  where
    each : (j : ℕ) → inputs_at u j ≡ inputs_at t j
    each j = elim (by_number j i) [
      | inl eq ↦
          ap (inputs_at u) eq ∙ ap (λ (nodes : List (Option Node)). inputs_in (node_in nodes i)) set
          ∙ ap inputs_in (get_or-set_same (nodes_of t) i (Some m) None (within (nodes_of t) i n at)) ∙ same ∙ sym (ap (inputs_at t) eq ∙ ap inputs_in at)
      | inr ne ↦ ap (λ (nodes : List (Option Node)). inputs_in (node_in nodes j)) set ∙ inputs_set (nodes_of t) i (Some m) j ne
    ]

-- a node without inputs was taken out
pub store_freed : (limit : ℕ) (t : Table) (e : Edges) (u : Table) (i : ℕ) (n : Node) → IsStore limit t e → IsTable u → length u.keys.items ≡ length t.keys.items
    → node_in (nodes_of t) i ≡ Some n → n.inputs ≡ [] → nodes_of u ≡ slice_set (nodes_of t) i None → IsStore limit u e
store_freed limit t e u i n s k len at none set = store_same limit t e u s k len each
  where
    each : (j : ℕ) → inputs_at u j ≡ inputs_at t j
    each j = elim (by_number j i) [
      | inl eq ↦
          ap (inputs_at u) eq ∙ ap (λ (nodes : List (Option Node)). inputs_in (node_in nodes i)) set
          ∙ ap inputs_in (get_or-set_same (nodes_of t) i None None (within (nodes_of t) i n at)) ∙ sym (ap (inputs_at t) eq ∙ ap inputs_in at ∙ none)
      | inr ne ↦ ap (λ (nodes : List (Option Node)). inputs_in (node_in nodes j)) set ∙ inputs_set (nodes_of t) i None j ne
    ]

-- a node got other inputs, and its edges other lists
pub store_rewired : (limit : ℕ) (t : Table) (e : Edges) (u : Table) (f : Edges) (i : ℕ) (n m : Node) → IsStore limit t e → IsTable u → SameNumbers t u
    → node_in (nodes_of t) i ≡ Some n → nodes_of u ≡ slice_set (nodes_of t) i (Some m) → AreEdges f → f.runs.items ≡ e.runs.items
    → length m.inputs ≤ room_at e.runs.items i → Wires e.links.lists f.links.lists (first_at e.runs.items i) (room_at e.runs.items i) (signal_at m.inputs)
    → IsStore limit u f
store_rewired limit t e u f i n m s k numbers at set edges runs wide w = record {
  small = s.small;
  few = subst (λ (ks : List (Option ℕ)). length ks ≤ limit) (sym numbers.keys) s.few;
  kept_table = k;
  kept_edges = edges;
  runs = ap length runs ∙ s.runs ∙ sym (ap length numbers.keys);
  listed = listed_anew e f i (inputs_at t) (inputs_at u) s.kept_edges s.listed runs there
      (subst (λ (hs : List Held). length hs ≤ room_at e.runs.items i) (sym now) wide) others
      (subst (λ (hs : List Held). Wires e.links.lists f.links.lists (first_at e.runs.items i) (room_at e.runs.items i) (signal_at hs)) (sym now) w);
}
  where
    there : i < length e.runs.items
    there = subst (λ (x : ℕ). i < x) (sym s.runs) (number_within t i n at)

    now : inputs_at u i ≡ m.inputs
    now = ap (λ (nodes : List (Option Node)). inputs_in (node_in nodes i)) set ∙ ap inputs_in (get_or-set_same (nodes_of t) i (Some m) None (within (nodes_of t) i n at))

    others : (j : ℕ) → j ≢ i → inputs_at u j ≡ inputs_at t j
    others j ne = ap (λ (nodes : List (Option Node)). inputs_in (node_in nodes j)) set ∙ inputs_set (nodes_of t) i (Some m) j ne

-- the next number is free, or new where no number is free
pub next_is : (t : Table) → IsTable t
    → ((next_number t < length t.keys.items) × (key_at t.keys.items (next_number t) ≡ None)) ⊎ ((next_number t ≡ length t.keys.items) × (t.count ≡ length t.keys.items))
next_is t k = elim (by_bound 0 (length t.free.items)) [
  | inl some ↦
      let e = t.free.ok.0 in
      inl (k.free (next_number t) (listed t.free.items (length t.free.items - 1) (length t.keys.items) (omega arith)))
  | inr none ↦
      let w = k.whole in
      inr (get_or_past t.free.items (length t.free.items - 1) (length t.keys.items) (omega arith), omega arith)
]
  where
    listed : (xs : List ℕ) (j d : ℕ) → j < length xs → has_item xs (get_or xs j d) ≡ true
    listed [] j d lt = absurd (omega arith)
    listed (x ∷ xs) zero d lt = here (has_item xs x) x
      where
        open_or : (a b : Bool) → a ≡ true → (a || b) ≡ true
        open_or true b e = refl
        open_or false b e = cc

        here : (b : Bool) (x : ℕ) → (nat_eq x x || b) ≡ true
        here b x = open_or (nat_eq x x) b (eq_self x)
    listed (x ∷ xs) (suc j) d lt = there (nat_eq x (get_or xs j d)) (has_item xs (get_or xs j d)) (listed xs j d (omega arith))
      where
        there : (a b : Bool) → b ≡ true → (a || b) ≡ true
        there true b e = refl
        there false b e = e

pub listed_table : (e : Edges) (t u : Table) → AreListed e (inputs_at t) → SameTable t u → AreListed e (inputs_at u)
listed_table e t u a same = record {
  enough = λ i. subst (λ (hs : List Held). length hs ≤ room_at e.runs.items i) (sym (same_inputs t u same i)) (a.enough i);
  listed = λ l i place lt small. a.listed l i place lt small ∙ ap (λ (hs : List Held). is_number (signal_at hs place) l) (sym (same_inputs t u same i));
}

-- nothing is at the next number
pub next_none : (t : Table) → IsTable t → node_in (nodes_of t) (next_number t) ≡ None
next_none t k = node_by_key t.nodes t.keys.items (next_number t) ∙ elim (next_is t k) [
  | inl free ↦ ap (node_under t.nodes) free.1
  | inr new ↦ ap (node_under t.nodes) (ap (key_at t.keys.items) new.0 ∙ get_or_past t.keys.items (length t.keys.items) None (omega arith))
]

pub next_inputs : (t : Table) → IsTable t → inputs_at t (next_number t) ≡ []
next_inputs t k = ap inputs_in (next_none t k)

pub next_near : (t : Table) → IsTable t → next_number t ≤ length t.keys.items
next_near t k = elim (next_is t k) [ inl free ↦ let a = free.0 in omega arith | inr new ↦ let a = new.0 in omega arith ]

pub next_below : (t : Table) (limit : ℕ) → IsTable t → t.count < limit → length t.keys.items ≤ limit → next_number t < limit
next_below t limit k lt few = elim (next_is t k) [
  | inl free ↦ let a = free.0 in omega arith
  | inr new ↦ let a = new.0 in let b = new.1 in omega arith
]

-- the edges of the next number are in no list
pub next_idle : (t : Table) (e : Edges) → IsTable t → length e.runs.items ≡ length t.keys.items → AreListed e (inputs_at t)
    → (l p : ℕ) → p < room_at e.runs.items (next_number t) → has_item (list_at e.links.lists l) (first_at e.runs.items (next_number t) + p) ≡ false
next_idle t e k runs a l p lt = elim (by_bound (next_number t) (length e.runs.items)) [
  | inl there ↦ a.listed l (next_number t) p there lt ∙ ap (λ (hs : List Held). is_number (signal_at hs p) l) (next_inputs t k)
  | inr beyond ↦
      let none : room_at e.runs.items (next_number t) ≡ 0 = ap (λ (r : Run). r.room) (get_or_past e.runs.items (next_number t) (record { first = 0; room = 0 }) beyond) in
      absurd (omega arith)
]

with_none : (nodes : List (Option Node)) (k j : ℕ) → node_in (nodes ++ replicate k None) j ≡ node_in nodes j
with_none nodes k j = elim (by_bound j (length nodes)) [
  | inl lt ↦ get_or_append_left nodes (replicate k None) None j lt
  | inr le ↦ get_or-append_right nodes (replicate k None) (length nodes) j None refl le ∙ empty k (j - length nodes) ∙ sym (get_or_past nodes j None le)
]
  where
    empty : (n i : ℕ) → node_in (replicate n None) i ≡ None
    empty n i = elim (by_bound i n) [
      | inl lt ↦ get_or-replicate n i None None lt
      | inr le ↦ get_or_past (replicate n None) i None (subst (λ (m : ℕ). m ≤ i) (sym (length-replicate n None)) le)
    ]

none_long : (nodes : List (Option Node)) (k : ℕ) → length (nodes ++ replicate k None) ≡ length nodes + k
none_long nodes k = length-append nodes (replicate k None) ∙ ap (λ (n : ℕ). length nodes + n) (length-replicate k None)

placed_here : (nodes : List (Option Node)) (i : ℕ) (n : Node) → node_in (placed nodes i n) i ≡ Some n
placed_here nodes i n =
    let long = none_long nodes (i + 1 - length nodes) in
    get_or-set_same (nodes ++ replicate (i + 1 - length nodes) None) i (Some n) None (omega arith)

placed_other : (nodes : List (Option Node)) (i : ℕ) (n : Node) (j : ℕ) → j ≢ i → node_in (placed nodes i n) j ≡ node_in nodes j
placed_other nodes i n j ne =
    get_or-set_other (nodes ++ replicate (i + 1 - length nodes) None) i j (Some n) None ne ∙ with_none nodes (i + 1 - length nodes) j

placed_long : (nodes : List (Option Node)) (i : ℕ) (n : Node) → length (placed nodes i n) ≡ length nodes + (i + 1 - length nodes)
placed_long nodes i n = length-set (nodes ++ replicate (i + 1 - length nodes) None) i (Some n) ∙ none_long nodes (i + 1 - length nodes)

-- how a node is made: memory is taken, its edges are put into lists, and it is put at the next number
pub record IsMade (limit : ℕ) (t mid u : Table) (e wide f : Edges) (n : Node) (places : ℕ) : Type 0 where
  pub same : SameTable t mid
  pub sound : IsTable mid
  pub wide_edges : AreEdges wide
  pub widened : Widened e wide (next_number mid) places
  pub edges : AreEdges f
  pub runs : f.runs.items ≡ wide.runs.items
  pub few : length n.inputs ≤ places
  pub wired : Wires wide.links.lists f.links.lists (first_at wide.runs.items (next_number mid)) (room_at wide.runs.items (next_number mid)) (signal_at n.inputs)
  pub table : IsTable u
  pub nodes : nodes_of u ≡ placed (nodes_of mid) (next_number mid) n
  pub room : t.count ≢ limit

-- there are no more nodes than the limit
pub count_few : (limit : ℕ) (t : Table) (e : Edges) → IsStore limit t e → t.count ≤ limit
count_few limit t e s = let w = s.kept_table.whole in let f = s.few in omega arith

pub made_below : (limit : ℕ) (t mid u : Table) (e wide f : Edges) (n : Node) (places : ℕ) → IsStore limit t e → IsMade limit t mid u e wide f n places
    → next_number mid < limit
made_below limit t mid u e wide f n places s m =
    let few = count_few limit t e s in
    let apart = m.room in
    let same = m.same.numbers.count in
    let lt : mid.count < limit = omega arith in
    let long : length mid.keys.items ≡ length t.keys.items = ap length m.same.numbers.keys in
    let g = s.few in
    let le : length mid.keys.items ≤ limit = omega arith in
    next_below mid limit m.sound lt le

pub store_made : (limit : ℕ) (t mid u : Table) (e wide f : Edges) (n : Node) (places : ℕ) → IsStore limit t e → IsMade limit t mid u e wide f n places → IsStore limit u f
store_made limit t mid u e wide f n places s m = record {
  small = s.small;
  few = let a = long in let b = made_below limit t mid u e wide f n places s m in let d = was_long in let g = s.few in omega arith;
  kept_table = m.table;
  kept_edges = m.edges;
  runs = ap length m.runs ∙ run_count;
  listed = listed_anew wide f (next_number mid) (inputs_at mid) (inputs_at u) m.wide_edges
      (listed_wider e wide (next_number mid) places (inputs_at mid) (listed_table e t mid s.listed m.same) (next_inputs mid m.sound) m.widened)
      m.runs m.widened.there
      (subst (λ (hs : List Held). length hs ≤ room_at wide.runs.items (next_number mid)) (sym now) (let a = m.few in let b = m.widened.wide in omega arith))
      others
      (subst (λ (hs : List Held). Wires wide.links.lists f.links.lists (first_at wide.runs.items (next_number mid)) (room_at wide.runs.items (next_number mid)) (signal_at hs)) (sym now) m.wired);
}
  where
    was_long : length mid.keys.items ≡ length t.keys.items
    was_long = ap length m.same.numbers.keys

    long : length u.keys.items ≡ length mid.keys.items + (next_number mid + 1 - length mid.keys.items)
    long =
        sym (length-map u.keys.items (node_under u.nodes)) ∙ ap length m.nodes ∙ placed_long (nodes_of mid) (next_number mid) n
        ∙ ap (λ (k : ℕ). k + (next_number mid + 1 - k)) (length-map mid.keys.items (node_under mid.nodes))

    run_count : length wide.runs.items ≡ length u.keys.items
    run_count =
        let a = long in
        let b = was_long in
        let d = s.runs in
        elim m.widened.len [
          | inl same ↦ let x = same.0 in let y = same.1 in omega arith
          | inr more ↦ let x = more.0 in let y = more.1 in omega arith
        ]

    now : inputs_at u (next_number mid) ≡ n.inputs
    now = ap (λ (nodes : List (Option Node)). inputs_in (node_in nodes (next_number mid))) m.nodes ∙ ap inputs_in (placed_here (nodes_of mid) (next_number mid) n)

    others : (j : ℕ) → j ≢ next_number mid → inputs_at u j ≡ inputs_at mid j
    others j ne = ap (λ (nodes : List (Option Node)). inputs_in (node_in nodes j)) m.nodes ∙ ap inputs_in (placed_other (nodes_of mid) (next_number mid) n j ne)

-- lists of edges where only edges that are in none got other numbers
dependents_on : (f g : ℕ → Edge) (lists : List (List ℕ)) → ((l x : ℕ) → has_item (list_at lists l) x ≡ true → g x ≡ f x) → map (map g) lists ≡ map (map f) lists
dependents_on f g [] same = refl
dependents_on f g (xs ∷ lists) same =
    ap (λ (ys : List Edge). ys ∷ map (map g) lists) (each xs (λ x h. same zero x h))
    ∙ ap (λ (ls : List (List Edge)). map f xs ∷ ls) (dependents_on f g lists (λ l x h. same (suc l) x h))
  where
    open_or : (a b : Bool) → a ≡ true → (a || b) ≡ true
    open_or true b e = refl
    open_or false b e = cc

    later : (a b : Bool) → b ≡ true → (a || b) ≡ true
    later true b e = refl
    later false b e = e

    each : (xs : List ℕ) → ((x : ℕ) → has_item xs x ≡ true → g x ≡ f x) → map g xs ≡ map f xs
    each [] same = refl
    each (x ∷ xs) same =
        ap (λ (y : Edge). y ∷ map g xs) (same x (open_or (nat_eq x x) (has_item xs x) (eq_self x)))
        ∙ ap (λ (ys : List Edge). f x ∷ ys) (each xs (λ y h. same y (later (nat_eq x y) (has_item xs y) h)))

-- where memory was wanting all is as before
pub view_again : (limit : ℕ) (t u : Table) (e f : Edges) → IsStore limit t e → SameTable t u → SameEdges e f → stored_in limit u f ≡ stored_in limit t e
view_again limit t u e f s same edges =
    ap (λ (nodes : List (Option Node)). record { limit = limit; nodes = nodes; dependents = map (map (edge_of f.runs.items f.owners.items)) f.links.lists }) (same_nodes t u same)
    ∙ ap (λ (ds : List (List Edge)). record { limit = limit; nodes = nodes_of t; dependents = ds })
    (ap (λ (ls : Linked). map (map (edge_of f.runs.items f.owners.items)) ls.lists) edges.links
    ∙ ap (λ (rs : List Run). map (map (edge_of rs f.owners.items)) e.links.lists) edges.runs
    ∙ dependents_on (edge_of e.runs.items e.owners.items) (edge_of e.runs.items f.owners.items) e.links.lists (λ l x h.
    let p = s.kept_edges.inside l x h in
    let r = (s.kept_edges.runs p.number p.there).1 in
    let at = p.same in
    let lt = p.within in
    let own : owner_at f.owners.items x ≡ owner_at e.owners.items x = edges.owners x (omega arith) in
    ap (λ (o : ℕ). record { number = x; node = o; place = x - first_at e.runs.items o }) own))

pub store_again : (limit : ℕ) (t u : Table) (e f : Edges) → IsStore limit t e → SameTable t u → SameEdges e f → IsTable u → AreEdges f → IsStore limit u f
store_again limit t u e f s same edges table kept = record {
  small = s.small;
  few = subst (λ (ks : List (Option ℕ)). length ks ≤ limit) (sym same.numbers.keys) s.few;
  kept_table = table;
  kept_edges = kept;
  runs = ap length edges.runs ∙ s.runs ∙ sym (ap length same.numbers.keys);
  listed =
      let a = listed_table e t u s.listed same in
      record {
        enough = λ i. subst (λ (rs : List Run). length (inputs_at u i) ≤ room_at rs i) (sym edges.runs) (a.enough i);
        listed = λ l i place lt small.
            ap (λ (rs : List Run). has_item (list_at f.links.lists l) (first_at rs i + place)) edges.runs
            ∙ ap (λ (k : Linked). has_item (list_at k.lists l) (first_at e.runs.items i + place)) edges.links
            ∙ a.listed l i place (subst (λ (rs : List Run). i < length rs) edges.runs lt) (subst (λ (rs : List Run). place < room_at rs i) edges.runs small);
      };
}

-- what these inputs name has a list
pub signals_within : (limit : ℕ) (t : Table) (e : Edges) → IsStore limit t e → (inputs : List Held)
    → ((i : ℕ) → reads i inputs ≡ true → IsSome (node_in (nodes_of t) i)) → (l p : ℕ) → signal_at inputs p ≡ Some l → l < length e.runs.items
signals_within limit t e s inputs live l p at =
    let read = place_read l inputs p (ap (λ (o : Option ℕ). is_number o l) at ∙ eq_self l) in
    let n = some_of (node_in (nodes_of t) l) (live l read) in
    subst (λ (k : ℕ). l < k) (sym s.runs) (number_within t l n.0 n.1)

pub signals_listed : (limit : ℕ) (t : Table) (e : Edges) → IsStore limit t e → (inputs : List Held)
    → ((i : ℕ) → reads i inputs ≡ true → IsSome (node_in (nodes_of t) i)) → (l p : ℕ) → signal_at inputs p ≡ Some l → l < length e.links.lists
signals_listed limit t e s inputs live l p at =
    let a = signals_within limit t e s inputs live l p at in
    let b = s.kept_edges.lists in
    omega arith

-- the node that was made
pub made_is : (limit : ℕ) (t mid u : Table) (e wide f : Edges) (n : Node) (places : ℕ) (old : Stored) → IsStore limit t e → IsMade limit t mid u e wide f n places
    → stored_in limit t e ≡ old → Makes old (stored_in limit u f) (next_number mid) n
made_is limit t mid u e wide f n places old s m is = subst (λ (v : Stored). Makes v (stored_in limit u f) (next_number mid) n) is (record {
  limit = refl;
  below = made_below limit t mid u e wide f n places s m;
  free = ap (λ (nodes : List (Option Node)). node_in nodes (next_number mid)) (sym (same_nodes t mid m.same)) ∙ next_none mid m.sound;
  near =
      let a = next_near mid m.sound in
      let b : length (nodes_of t) ≡ length t.keys.items = length-map t.keys.items (node_under t.nodes) in
      let d : length mid.keys.items ≡ length t.keys.items = ap length m.same.numbers.keys in
      omega arith;
  nodes = m.nodes ∙ ap (λ (nodes : List (Option Node)). placed nodes (next_number mid) n) (same_nodes t mid m.same);
})

-- how many nodes contracts see
pub count_seen : (limit : ℕ) (t : Table) (e : Edges) (old : Stored) → IsStore limit t e → stored_in limit t e ≡ old → t.count ≡ count_by is_some old.nodes
count_seen limit t e old s is = s.kept_table.counted ∙ ap (λ (v : Stored). count_by is_some v.nodes) is

-- what these inputs name has a list where a number got more edges
pub signals_wide : (limit : ℕ) (t : Table) (e wide : Edges) (number places : ℕ) → IsStore limit t e → AreEdges wide → Widened e wide number places → (inputs : List Held)
    → ((i : ℕ) → reads i inputs ≡ true → IsSome (node_in (nodes_of t) i)) → (l p : ℕ) → signal_at inputs p ≡ Some l → l < length wide.links.lists
signals_wide limit t e wide number places s edges w inputs live l p at =
    let a = signals_within limit t e s inputs live l p at in
    let b = edges.lists in
    elim w.len [
      | inl same ↦ let x = same.1 in omega arith
      | inr more ↦ let x = more.1 in omega arith
    ]
