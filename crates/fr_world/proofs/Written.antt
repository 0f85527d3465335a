-- A world in which a node of the store was written, but for its era and its height.
use Rattle.std.proofs.Common.{◌≡◌, ◌≢◌, ℕ, ◌-◌, ◌<◌, ◌≤◌, List, length, inl, inr, Option, Some, None, IsSome, is_some, Bool, true, not, ◌&&◌, slice_set, refl, sym, ap, ◌∙◌, subst, arith, get_or-set_same, get_or-set_other, length-set}
use Rattle.std.proofs.lemmas.List.{get_or_past}
use Rattle.std.specs.Option.{option_map}
use Rattle.fr_value.specs.declared.ids.EraId.{EraId}
use Rattle.fr_value.specs.declared.now.Held.{Held}
use Rattle.fr_value.specs.declared.now.Now.{Now}
use Rattle.fr_links.specs.Lists.{has_item}
use Rattle.fr_links.proofs.Has.{by_number, eq_self}
use Rattle.fr_queue.specs.Queue.{Queued}
use Rattle.fr_store.specs.declared.cell.Cell.{Cell}
use Rattle.fr_store.specs.declared.node.Node.{Node}
use Rattle.fr_store.specs.declared.node.NodeKind.{NodeKind}
use Rattle.fr_store.specs.Nodes.{Renames, Stored, computed, height_in, latched, most_nodes, node_at, node_in, rewired, tied, with_node}
use Rattle.fr_store.proofs.Lists.{by_bound}
use Rattle.fr_store.proofs.Tables.{none_some, some_of}
use Rattle.fr_eras.specs.Lives.{Lives, grave, members}
use Rattle.fr_meaning.specs.Evaluation.{most_levels}
use Rattle.fr_events.specs.Works.{cell_of}
use Rattle.fr_nodes.specs.Kinds.{Sites, kind_of, part_of, parts_of}
use Rattle.fr_nodes.specs.Makes.{Ties}
use Rattle.fr_nodes.specs.Signals.{IsNodeOf, Latches, Writes}
use Rattle.fr_way.specs.Steps.{SameShape}
use Rattle.fr_way.specs.Turns.{Rewires}
use Rattle.fr_world.specs.World.{AreJoined, IsFit, IsWorld, cell_at, done_at, era_at, graph_of, inputs_at, is_live, kind_at, later_at, level_at, next_in, value_at, way_by, way_of}
use Rattle.fr_world.proofs.Whole.{both, lives_there, lives_whole, one}

within : (s : Stored) (m : ℕ) (n : Node) → node_at s m ≡ Some n → m < length s.nodes
within s m n e = elim (by_bound m (length s.nodes)) [
  | inl lt ↦ lt
  | inr le ↦ none_some (node_at s m) n (get_or_past s.nodes m None le) e
]

-- a node was written over another
pub record Rewrites (s t : Stored) (m : ℕ) (n u : Node) : Type 0 where
  pub was : node_at s m ≡ Some n
  pub nodes : t.nodes ≡ slice_set s.nodes m (Some u)
  pub limit : t.limit ≡ s.limit

pub by_with : (s t : Stored) (m : ℕ) (n u : Node) → node_at s m ≡ Some n → t ≡ with_node s m (Some u) → Rewrites s t m n u
by_with s t m n u was now = record { was = was; nodes = ap (λ (v : Stored). v.nodes) now; limit = ap (λ (v : Stored). v.limit) now }

pub by_renames : (s t : Stored) (m : ℕ) (n u : Node) → node_at s m ≡ Some n → Renames s t m u → Rewrites s t m n u
by_renames s t m n u was now = record { was = was; nodes = now.nodes; limit = now.limit }

module _ (s t : Stored) (m : ℕ) (n u : Node) (r : Rewrites s t m n u) where
  pub written_here : node_at t m ≡ Some u
  written_here = ap (λ (v : List (Option Node)). node_in v m) r.nodes ∙ get_or-set_same s.nodes m (Some u) None (within s m n r.was)

  pub written_other : (j : ℕ) → j ≢ m → node_at t j ≡ node_at s j
  written_other j ne = ap (λ (v : List (Option Node)). node_in v j) r.nodes ∙ get_or-set_other s.nodes m j (Some u) None ne

  pub written_long : length t.nodes ≡ length s.nodes
  written_long = ap (λ (v : List (Option Node)). length v) r.nodes ∙ length-set s.nodes m (Some u)

  -- what both nodes have alike is as it was everywhere
  pub keeps : {X : Type 0} (f : Option Node → X) → f (Some u) ≡ f (Some n) → (j : ℕ) → f (node_at t j) ≡ f (node_at s j)
  keeps {X} f e j = elim (by_number j m) [
    | inl same ↦ let P : ℕ → Type 0 = λ v. f (node_at t v) ≡ f (node_at s v) in subst P (sym same) (ap f written_here ∙ e ∙ sym (ap f r.was))
    | inr ne ↦ ap f (written_other j ne)
  ]

  pub live_keeps : (l : Lives) (j : ℕ) → is_live t l j ≡ is_live s l j
  live_keeps l j = ap (λ (b : Bool). b && not (has_item (grave l) j)) (keeps is_some refl j)

  joined_written : (l : Lives) → u.era ≡ n.era → AreJoined s l → AreJoined t l
  joined_written l same j = record {
    there = record { member = λ y i e. keeps is_some refl i ∙ j.there.member y i e; buried = λ i e. keeps is_some refl i ∙ j.there.buried i e };
    once = j.once;
    apart = j.apart;
    era = λ y i h. eras i ∙ j.era y i h;
    listed = λ i h. ap (λ (y : ℕ). has_item (members l y) i) (eras i) ∙ j.listed i (sym (live_keeps l i) ∙ h);
    hollow = j.hollow;
    owners = λ w e. live_keeps l w ∙ j.owners w e;
  }
    where
      eras : (i : ℕ) → era_at (node_at t i) ≡ era_at (node_at s i)
      eras = keeps era_at (ap (λ (e : EraId). e.0) same)

  -- a node of the same height and era leaves a world what it is
  pub world_written : (l : Lives) (q : Queued) (i h : ℕ) → u.height ≡ n.height → u.era ≡ n.era → (IsFit i n → IsFit i u) → IsWorld s l q i h → IsWorld t l q i h
  world_written l q i h high same fits w = record {
    joined = joined_written l same w.joined;
    queue = record { live = λ j e. live_keeps l j ∙ w.queue.live j e; right = λ j k e. w.queue.right j k e ∙ sym (keeps height_in high j) };
    fit = fit;
    small = λ j e. subst (λ (k : ℕ). j < k) (sym r.limit) (w.small j (sym (keeps is_some refl j) ∙ e));
    few = subst (λ (k : ℕ). k ≤ most_nodes) (sym r.limit) w.few;
    below = λ j. let P : ℕ → Type 0 = λ k. k ≤ h in subst P (sym (keeps height_in high j)) (w.below j);
    mild = w.mild;
  }
    where
      fit : (j : ℕ) (v : Node) → node_at t j ≡ Some v → IsFit i v
      fit j v e = elim (by_number j m) [
        | inl same ↦
            let at : node_at t m ≡ Some v = ap (λ (k : ℕ). node_at t k) (sym same) ∙ e in
            let both : Some u ≡ Some v = sym written_here ∙ at in
            let is : u ≡ v = cc in
            subst (IsFit i) is (fits (w.fit m n r.was))
        | inr ne ↦ w.fit j v (sym (written_other j ne) ∙ e)
      ]

  pub next_keeps : (l : Lives) → u.era ≡ n.era → (j : ℕ) → next_in (length t.nodes) (members l (era_at (node_at t j))) j ≡ next_in (length s.nodes) (members l (era_at (node_at s j))) j
  next_keeps l era j = ap (λ (o : ℕ). next_in o (members l (era_at (node_at t j))) j) written_long
      ∙ ap (λ (y : ℕ). next_in (length s.nodes) (members l y) j) (keeps era_at (ap (λ (e : EraId). e.0) era) j)

  -- the shape of the graph stays where all that shapes it does
  pub shape_keeps : (sites : Sites) (l : Lives) → u.kind ≡ n.kind → u.inputs ≡ n.inputs → u.source ≡ n.source → u.nest ≡ n.nest → u.era ≡ n.era
      → SameShape (graph_of sites s l) (graph_of sites t l)
  shape_keeps sites l kind inputs source nest era = record {
    live = live_keeps l;
    kind = λ j. keeps (kind_at sites j) (ap (λ (k : NodeKind). kind_of sites j k) kind) j;
    inputs = keeps inputs_at (ap parts_of inputs);
    later = keeps later_at (ap (option_map part_of) source);
    level = keeps level_at (ap (λ (k : ℕ). most_levels - k) nest);
    era = keeps era_at (ap (λ (e : EraId). e.0) era);
    members = λ y. refl;
    result_of = next_keeps l era;
  }

module _ (s t : Stored) (l : Lives) (q : Queued) (i m : ℕ) (n : Node) where
  pub writes : (sites : Sites) (now : Now) (cell : Option Cell) → Rewrites s t m n (computed n now cell i) → Writes (way_of sites s l q i) (way_of sites t l q i) m now (option_map cell_of cell)
  writes sites now cell r = record {
    shape = shape_keeps s t m n (computed n now cell i) r sites l refl refl refl refl refl;
    value_here = ap value_at (written_here s t m n (computed n now cell i) r);
    value = λ j ne. ap value_at (written_other s t m n (computed n now cell i) r j ne);
    cell_here = ap cell_at (written_here s t m n (computed n now cell i) r);
    cell = λ j ne. ap cell_at (written_other s t m n (computed n now cell i) r j ne);
    taken = keeps s t m n (computed n now cell i) r is_some refl;
    heights = keeps s t m n (computed n now cell i) r height_in refl;
    done_here = ap (done_at i) (written_here s t m n (computed n now cell i) r) ∙ eq_self i;
    done = λ j ne. ap (done_at i) (written_other s t m n (computed n now cell i) r j ne);
    queue = λ j. refl;
  }

  pub latches : (sites : Sites) (cell : Cell) → Rewrites s t m n (latched n cell) → Latches (way_of sites s l q i) (way_of sites t l q i) m (cell_of cell)
  latches sites cell r = record {
    shape = shape_keeps s t m n (latched n cell) r sites l refl refl refl refl refl;
    value = keeps s t m n (latched n cell) r value_at refl;
    here = ap cell_at (written_here s t m n (latched n cell) r);
    cell = λ j ne. ap cell_at (written_other s t m n (latched n cell) r j ne);
    taken = keeps s t m n (latched n cell) r is_some refl;
    heights = keeps s t m n (latched n cell) r height_in refl;
    done = keeps s t m n (latched n cell) r (done_at i) refl;
    queue = λ j. refl;
  }

  pub ties : (sites : Sites) (last : Held) → Rewrites s t m n (tied n last) → Ties (way_of sites s l q i) (way_of sites t l q i) m (part_of last)
  ties sites last r = record {
    live = live_keeps s t m n (tied n last) r l;
    here = ap later_at (written_here s t m n (tied n last) r);
    later = λ j ne. ap later_at (written_other s t m n (tied n last) r j ne);
    kind = λ j. keeps s t m n (tied n last) r (kind_at sites j) refl j;
    inputs = keeps s t m n (tied n last) r inputs_at refl;
    value = keeps s t m n (tied n last) r value_at refl;
    cell = keeps s t m n (tied n last) r cell_at refl;
    level = keeps s t m n (tied n last) r level_at refl;
    era = keeps s t m n (tied n last) r era_at refl;
    members = λ y. refl;
    result_of = next_keeps s t m n (tied n last) r l refl;
    taken = keeps s t m n (tied n last) r is_some refl;
    heights = keeps s t m n (tied n last) r height_in refl;
    done = keeps s t m n (tied n last) r (done_at i) refl;
    queued = λ j. refl;
  }

  pub rewires : (sites : Sites) (input : Held) → Rewrites s t m n (rewired n input) → Rewires (way_of sites s l q i) (way_of sites t l q i) m (part_of input)
  rewires sites input r = record {
    here = ap inputs_at (written_here s t m n (rewired n input) r);
    inputs = λ j ne. ap inputs_at (written_other s t m n (rewired n input) r j ne);
    live = live_keeps s t m n (rewired n input) r l;
    kind = λ j. keeps s t m n (rewired n input) r (kind_at sites j) refl j;
    later = keeps s t m n (rewired n input) r later_at refl;
    value = keeps s t m n (rewired n input) r value_at refl;
    cell = keeps s t m n (rewired n input) r cell_at refl;
    level = keeps s t m n (rewired n input) r level_at refl;
    era = keeps s t m n (rewired n input) r era_at refl;
    members = λ y. refl;
    result_of = next_keeps s t m n (rewired n input) r l refl;
    taken = keeps s t m n (rewired n input) r is_some refl;
    heights = keeps s t m n (rewired n input) r height_in refl;
    done = keeps s t m n (rewired n input) r (done_at i) refl;
    queue = λ j. refl;
  }

  -- a node that was computed at this instant isn't stamped later
  pub fit_computed : (now : Now) (cell : Option Cell) → IsFit i n → IsFit i (computed n now cell i)
  fit_computed now cell f = record { early = λ k e. (let same : i ≡ k = cc in omega arith); nest = f.nest }

-- a world after each of these calls, by what the store's call ensures
module _ (s t : Stored) (l : Lives) (q : Queued) (i m : ℕ) where
  pub world_computed : (h : ℕ) (now : Now) (cell : Option Cell) → IsSome (node_at s m) → ((n : Node) → node_at s m ≡ Some n → t ≡ with_node s m (Some (computed n now cell i))) → IsWorld s l q i h → IsWorld t l q i h
  world_computed h now cell there by w =
      let n = some_of (node_at s m) there in
      world_written s t m n.0 (computed n.0 now cell i) (by_with s t m n.0 (computed n.0 now cell i) n.1 (by n.0 n.1)) l q i h refl refl (fit_computed s t l q i m n.0 now cell) w

  pub world_latched : (h : ℕ) (cell : Cell) → IsSome (node_at s m) → ((n : Node) → node_at s m ≡ Some n → t ≡ with_node s m (Some (latched n cell))) → IsWorld s l q i h → IsWorld t l q i h
  world_latched h cell there by w =
      let n = some_of (node_at s m) there in
      world_written s t m n.0 (latched n.0 cell) (by_with s t m n.0 (latched n.0 cell) n.1 (by n.0 n.1)) l q i h refl refl (λ f. record { early = f.early; nest = f.nest }) w

  pub world_tied : (h : ℕ) (last : Held) → IsSome (node_at s m) → ((n : Node) → node_at s m ≡ Some n → t ≡ with_node s m (Some (tied n last))) → IsWorld s l q i h → IsWorld t l q i h
  world_tied h last there by w =
      let n = some_of (node_at s m) there in
      world_written s t m n.0 (tied n.0 last) (by_with s t m n.0 (tied n.0 last) n.1 (by n.0 n.1)) l q i h refl refl (λ f. record { early = f.early; nest = f.nest }) w

  pub world_rewired : (h : ℕ) (input : Held) → IsSome (node_at s m) → ((n : Node) → node_at s m ≡ Some n → Renames s t m (rewired n input)) → IsWorld s l q i h → IsWorld t l q i h
  world_rewired h input there by w =
      let n = some_of (node_at s m) there in
      world_written s t m n.0 (rewired n.0 input) (by_renames s t m n.0 (rewired n.0 input) n.1 (by n.0 n.1)) l q i h refl refl (λ f. record { early = f.early; nest = f.nest }) w

  module _ (b : Bool) (lives : (sites : Sites) → (way_by b (way_of sites s l q i)).graph.live m ≡ true) where
    pub way_computed : (now : Now) (cell : Option Cell) → ((n : Node) → node_at s m ≡ Some n → t ≡ with_node s m (Some (computed n now cell i)))
        → (sites : Sites) → Writes (way_by b (way_of sites s l q i)) (way_by b (way_of sites t l q i)) m now (option_map cell_of cell)
    way_computed now cell by sites =
        let whole = lives_whole b (λ v. way_of v s l q i) m lives in
        let n = some_of (node_at s m) (lives_there b s l q i m lives) in
        both (λ at new. Writes at new m now (option_map cell_of cell)) b b (way_of sites s l q i) (way_of sites t l q i) whole whole
        (writes s t l q i m n.0 sites now cell (by_with s t m n.0 (computed n.0 now cell i) n.1 (by n.0 n.1)))

    pub way_latched : (cell : Cell) → ((n : Node) → node_at s m ≡ Some n → t ≡ with_node s m (Some (latched n cell)))
        → (sites : Sites) → Latches (way_by b (way_of sites s l q i)) (way_by b (way_of sites t l q i)) m (cell_of cell)
    way_latched cell by sites =
        let whole = lives_whole b (λ v. way_of v s l q i) m lives in
        let n = some_of (node_at s m) (lives_there b s l q i m lives) in
        both (λ at new. Latches at new m (cell_of cell)) b b (way_of sites s l q i) (way_of sites t l q i) whole whole
        (latches s t l q i m n.0 sites cell (by_with s t m n.0 (latched n.0 cell) n.1 (by n.0 n.1)))

    pub way_tied : (last : Held) → ((n : Node) → node_at s m ≡ Some n → t ≡ with_node s m (Some (tied n last)))
        → (sites : Sites) → Ties (way_by b (way_of sites s l q i)) (way_by b (way_of sites t l q i)) m (part_of last)
    way_tied last by sites =
        let whole = lives_whole b (λ v. way_of v s l q i) m lives in
        let n = some_of (node_at s m) (lives_there b s l q i m lives) in
        both (λ at new. Ties at new m (part_of last)) b b (way_of sites s l q i) (way_of sites t l q i) whole whole
        (ties s t l q i m n.0 sites last (by_with s t m n.0 (tied n.0 last) n.1 (by n.0 n.1)))

    pub way_rewired : (input : Held) → ((n : Node) → node_at s m ≡ Some n → Renames s t m (rewired n input))
        → (sites : Sites) → Rewires (way_by b (way_of sites s l q i)) (way_by b (way_of sites t l q i)) m (part_of input)
    way_rewired input by sites =
        let whole = lives_whole b (λ v. way_of v s l q i) m lives in
        let n = some_of (node_at s m) (lives_there b s l q i m lives) in
        both (λ at new. Rewires at new m (part_of input)) b b (way_of sites s l q i) (way_of sites t l q i) whole whole
        (rewires s t l q i m n.0 sites input (by_renames s t m n.0 (rewired n.0 input) n.1 (by n.0 n.1)))

-- a node of the store is what the graph has
pub node_of : (s : Stored) (l : Lives) (q : Queued) (i h m : ℕ) (n : Node) (b : Bool) → ((sites : Sites) → (way_by b (way_of sites s l q i)).graph.live m ≡ true) → node_at s m ≡ Some n
    → (b ≡ true → IsWorld s l q i h) → (sites : Sites) → IsNodeOf sites (way_by b (way_of sites s l q i)) m n
node_of s l q i h m n b lives e w sites =
    let whole = lives_whole b (λ v. way_of v s l q i) m lives in
    let f = (w whole).fit m n e in
    one (λ at. IsNodeOf sites at m n) b (way_of sites s l q i) whole (record {
      kind = ap (kind_at sites m) e;
      inputs = ap inputs_at e;
      later = ap later_at e;
      value = ap value_at e;
      cell = ap cell_at e;
      nest = f.nest;
      level = ap level_at e;
      era = ap era_at e;
    })
