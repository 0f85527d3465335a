-- Chains of nodes as they grow, and before they are raised.
use Rattle.std.proofs.Common.{◌≡◌, ◌≢◌, ℕ, zero, suc, ◌+◌, ◌^◌, ◌<◌, ◌≤◌, List, [], ◌∷◌, ◌++◌, length, ◌⊎◌, inl, inr, Option, Some, None, IsSome, Bool, true, false, ◌||◌, max, nat_eq, cond, is_some, count_by, slice_get, refl, sym, ap, ◌∙◌, subst, arith, length-append, length-set, get_or-set_same, get_or-set_other}
use Rattle.std.proofs.lemmas.List.Sums.{sum_by-cons}
use Rattle.fr_links.specs.Lists.{has_item}
use Rattle.fr_links.proofs.Has.{by_number, eq_is, eq_self, or_case, true_false}
use Rattle.fr_queue.specs.Queue.{IsEmpty, Queued}
use Rattle.fr_value.specs.declared.ids.NodeId.{NodeId}
use Rattle.fr_value.specs.declared.now.Held.{Held}
use Rattle.fr_value.specs.declared.now.Held.TheVariants.{Signal, Steady}
use Rattle.fr_store.specs.declared.node.Node.{Node}
use Rattle.fr_store.specs.Nodes.{AreLive, AreLow, Makes, Stored, height_in, least_height, lifted, node_at, node_in, placed, reads, with_node}
use Rattle.fr_store.proofs.Tables.{is_there, placed_behind, some_of, some_same}
use Rattle.fr_eras.specs.Lives.{AreNew, JoinsEra, Lives, is_era, members}
use Rattle.fr_eras.specs.Heights.{AreLevelledBut, AreMild, AreQueuedRight, AreThere, IsLive, RisesAlong, above, height_at}
use Rattle.fr_eras.proofs.Only.{node_inside}
use Rattle.fr_eras.proofs.Places.{has_place}
use Rattle.fr_eras.proofs.Theres.{made_here, made_other, there_joins, there_made, there_new}
use Rattle.fr_tests.specs.Chains.{IsChain, ReadsBefore}

by_bound : (i n : ℕ) → (i < n) ⊎ (n ≤ i)
by_bound i n = grind arith

none_there : {A : Type 0} (o : Option Node) → o ≡ None → IsSome o → A
none_there None e h = cc
none_there (Some n) e h = cc

-- what inputs read
pub reads_none : (i : ℕ) → ReadsBefore i []
reads_none i a h = true_false false h refl

pub reads_one : (i : ℕ) (id : NodeId) → i ≡ id.0 + 1 → ReadsBefore i (Signal id ∷ [])
reads_one i id e a h =
    or_case (nat_eq id.0 a) false h (λ t. (let same : id.0 ≡ a = eq_is id.0 a t in omega arith)) (λ f. true_false false f refl)

or_true : (b : Bool) → (b || true) ≡ true
or_true true = refl
or_true false = refl

least_is : (nodes : List (Option Node)) (floor : ℕ) (inputs : List Held) → ((a : ℕ) → reads a inputs ≡ true → height_in (node_in nodes a) + 1 ≤ floor)
    → least_height nodes floor inputs ≡ floor
least_is nodes floor [] low = refl
least_is nodes floor (Steady v ∷ inputs) low = least_is nodes floor inputs low
least_is nodes floor (Signal id ∷ inputs) low =
    let here : height_in (node_in nodes id.0) + 1 ≤ floor = low id.0 (ap (λ (b : Bool). b || reads id.0 inputs) (eq_self id.0)) in
    let same : max floor (height_in (node_in nodes id.0) + 1) ≡ floor = omega arith in
    ap (λ (f : ℕ). least_height nodes f inputs) same
    ∙ least_is nodes floor inputs (λ a h. low a (ap (λ (r : Bool). nat_eq id.0 a || r) h ∙ or_true (nat_eq id.0 a)))

-- how many nodes there are
pub all_counted : (nodes : List (Option Node)) → ((i : ℕ) → i < length nodes → IsSome (node_in nodes i)) → count_by is_some nodes ≡ length nodes
all_counted [] dense = refl
all_counted (None ∷ nodes) dense = none_there None refl (dense 0 (omega arith))
all_counted (Some n ∷ nodes) dense =
    let rest : count_by is_some nodes ≡ length nodes = all_counted nodes (λ i lt. dense (suc i) (omega arith)) in
    let one : count_by is_some (Some n ∷ nodes) ≡ 1 + count_by is_some nodes = sum_by-cons (λ (o : Option Node). cond (is_some o) 1 0) (Some n) nodes in
    omega arith

module _ (lives : Lives) (store : Stored) (chain : IsChain lives store) where
  pub chain_counted : count_by is_some store.nodes ≡ length store.nodes
  chain_counted = all_counted store.nodes chain.dense

  -- no node stands above its number
  height_low : (i : ℕ) → height_at store i ≤ i
  height_low i = low (node_at store i) (chain.height i)
    where
      low : (o : Option Node) → ((n : Node) → o ≡ Some n → n.height ≡ i) → height_in o ≤ i
      low None f = omega arith
      low (Some n) f = let e : n.height ≡ i = f n refl in omega arith

  height_there : (i : ℕ) → IsSome (node_at store i) → height_at store i ≡ i
  height_there i s = let n = some_of (node_at store i) s in ap height_in n.1 ∙ chain.height i n.0 n.1

  module _ (inputs : List Held) (before : ReadsBefore (length store.nodes) inputs) where
    pub chain_live : AreLive store inputs
    chain_live a h = let e : length store.nodes ≡ a + 1 = before a h in chain.dense a (omega arith)

    pub chain_low : AreLow store inputs
    chain_low a n h is =
        let e : length store.nodes ≡ a + 1 = before a h in
        let f : n.height ≡ a = chain.height a n is in
        let few : length store.nodes ≤ 4194304 = chain.few in
        omega arith

    pub chain_height : (floor : ℕ) → floor ≡ length store.nodes → least_height store.nodes floor inputs ≡ floor
    chain_height floor is =
        least_is store.nodes floor inputs
        (λ a h. (let e : length store.nodes ≡ a + 1 = before a h in let low : height_at store a ≤ a = height_low a in omega arith))

-- the items of a list with one more
seam : (xs : List ℕ) (x place node : ℕ) → slice_get (xs ++ x ∷ []) place ≡ Some node → (slice_get xs place ≡ Some node) ⊎ ((place ≡ length xs) × (node ≡ x))
seam [] x zero node e = inr (refl, cc)
seam [] x (suc place) node e = cc
seam (y ∷ xs) x zero node e = inl e
seam (y ∷ xs) x (suc place) node e = elim (seam xs x place node e) [ inl h ↦ inl h | inr h ↦ inr (ap suc h.0, h.1) ]

pub chain_new : (lives : Lives) (store : Stored) → AreNew lives → store.nodes ≡ [] → IsChain lives store
chain_new lives store new empty = record {
  there = there_new lives store new;
  program = new.eras 0;
  only = λ era apart. new.each era;
  places = λ place node h. no_item place node (ap (λ (xs : List ℕ). slice_get xs place) (sym (new.each 0)) ∙ h);
  long = ap length (new.each 0) ∙ sym (ap length empty);
  dense = λ i lt. (let none : length store.nodes ≡ 0 = ap length empty in absurd (omega arith));
  few = (let none : length store.nodes ≡ 0 = ap length empty in omega arith);
  height = λ i n h. no_node (n.height ≡ i) i n (ap (λ (nodes : List (Option Node)). node_in nodes i) (sym empty) ∙ h);
  before = λ i n h. no_node (ReadsBefore i n.inputs) i n (ap (λ (nodes : List (Option Node)). node_in nodes i) (sym empty) ∙ h);
}
  where
    no_item : {A : Type 0} (place node : ℕ) → slice_get [] place ≡ Some node → A
    no_item place node e = cc

    no_node : (A : Type 0) (i : ℕ) (n : Node) → node_in [] i ≡ Some n → A
    no_node A i n e = cc

module _ (lives grown : Lives) (old new : Stored) (i : ℕ) (n : Node) (chain : IsChain lives old) (made : Makes old new i n) where
  pub chain_number : i ≡ length old.nodes
  chain_number = elim (by_bound i (length old.nodes)) [
    | inl lt ↦ none_there (node_at old i) made.free (chain.dense i lt)
    | inr le ↦ (let near : i ≤ length old.nodes = made.near in omega arith)
  ]

  pub chain_longer : length new.nodes ≡ length old.nodes + 1
  chain_longer =
      ap length made.nodes ∙ ap (λ (k : ℕ). length (placed_at k)) chain_number ∙ ap length (placed_behind old.nodes n)
      ∙ length-append old.nodes (Some n ∷ [])
    where
      placed_at : ℕ → List (Option Node)
      placed_at k = placed old.nodes k n

  was : (j : ℕ) (m : Node) → node_at new j ≡ Some m → ((j ≡ i) × (m ≡ n)) ⊎ (node_at old j ≡ Some m)
  was j m h = elim (by_number j i) [
    | inl e ↦ inl (e, some_same m n (sym h ∙ ap (node_at new) e ∙ made_here old new i n made))
    | inr other ↦ inr (sym (made_other old new i n made j other) ∙ h)
  ]

  pub chain_grows : JoinsEra lives grown 0 i → n.height ≡ length old.nodes → ReadsBefore (length old.nodes) n.inputs → old.limit ≤ 4194304 → IsChain grown new
  chain_grows joins height before limit = record {
    there = there_joins lives grown new 0 i (there_made lives old new i n chain.there made) (is_there (node_at new i) n (made_here old new i n made)) joins;
    program = joins.eras 0 ∙ chain.program;
    only = λ era apart. joins.each era apart ∙ chain.only era apart;
    places = λ place node h. elim (seam (members lives 0) i place node (ap (λ (xs : List ℕ). slice_get xs place) (sym joins.here) ∙ h)) [
      | inl at ↦ chain.places place node at
      | inr end ↦ end.1 ∙ chain_number ∙ sym chain.long ∙ sym end.0
    ];
    long = ap length joins.here ∙ length-append (members lives 0) (i ∷ []) ∙ ap (λ (k : ℕ). k + 1) chain.long ∙ sym chain_longer;
    dense = λ j lt. elim (by_number j i) [
      | inl e ↦ is_there (node_at new j) n (ap (node_at new) e ∙ made_here old new i n made)
      | inr other ↦
          (let number : i ≡ length old.nodes = chain_number in
          let longer : length new.nodes ≡ length old.nodes + 1 = chain_longer in
          subst (λ (o : Option Node). IsSome o) (sym (made_other old new i n made j other)) (chain.dense j (omega arith)))
    ];
    few =
        (let number : i ≡ length old.nodes = chain_number in
        let longer : length new.nodes ≡ length old.nodes + 1 = chain_longer in
        let below : i < old.limit = made.below in
        omega arith);
    height = λ j m h. elim (was j m h) [
      | inl e ↦ ap (λ (k : Node). k.height) e.1 ∙ height ∙ sym chain_number ∙ sym e.0
      | inr before ↦ chain.height j m before
    ];
    before = λ j m h. elim (was j m h) [
      | inl e ↦ subst (λ (k : ℕ). ReadsBefore k m.inputs) (sym chain_number ∙ sym e.0) (subst (λ (k : Node). ReadsBefore (length old.nodes) k.inputs) (sym e.1) before)
      | inr stood ↦ chain.before j m stood
    ];
  }

module _ (lives : Lives) (old new : Stored) (h : ℕ) (chain : IsChain lives old) (some : 0 < length old.nodes)
    (lift : (n : Node) → node_at old 0 ≡ Some n → new ≡ with_node old 0 (Some (lifted n h))) where
  first : (n : Node) × (node_at old 0 ≡ Some n)
  first = some_of (node_at old 0) (chain.dense 0 some)

  writes : new ≡ with_node old 0 (Some (lifted first.0 h))
  writes = lift first.0 first.1

  here : node_at new 0 ≡ Some (lifted first.0 h)
  here = ap (λ (s : Stored). node_at s 0) writes ∙ get_or-set_same old.nodes 0 (Some (lifted first.0 h)) None some

  other : (j : ℕ) → j ≢ 0 → node_at new j ≡ node_at old j
  other j apart = ap (λ (s : Stored). node_at s j) writes ∙ get_or-set_other old.nodes 0 j (Some (lifted first.0 h)) None apart

  still : (j : ℕ) → IsSome (node_at old j) → IsSome (node_at new j)
  still j s = elim (by_number j 0) [
    | inl e ↦ is_there (node_at new j) (lifted first.0 h) (ap (node_at new) e ∙ here)
    | inr apart ↦ subst (λ (o : Option Node). IsSome o) (sym (other j apart)) s
  ]

  pub lifted_live : IsLive new 0
  lifted_live = still 0 (chain.dense 0 some)

  pub lifted_there : AreThere lives new
  lifted_there = record {
    member = λ era node m. still node (chain.there.member era node m);
    buried = λ node m. still node (chain.there.buried node m);
  }

  pub lifted_mild : h ≤ 2 ^ 100 → AreMild new
  lifted_mild mild j = elim (by_number j 0) [
    | inl e ↦ (let is : height_at new j ≡ h = ap height_in (ap (node_at new) e ∙ here) in omega arith)
    | inr apart ↦ low (node_at new j) (λ n at. node_inside old.nodes j n (sym (other j apart) ∙ at)) (λ n at. chain.height j n (sym (other j apart) ∙ at))
  ]
    where
      low : (o : Option Node) → ((n : Node) → o ≡ Some n → j < length old.nodes) → ((n : Node) → o ≡ Some n → n.height ≡ j) → height_in o ≤ 2 ^ 100
      low None inside is = omega arith
      low (Some n) inside is =
          let lt : j < length old.nodes = inside n refl in
          let e : n.height ≡ j = is n refl in
          let few : length old.nodes ≤ 4194304 = chain.few in
          omega arith

  -- each edge leads to the next number
  next : (a b : ℕ) → above lives new a b → b ≡ a + 1
  next a b edge = elim edge [
    | inl reader ↦ elim (by_number b 0) [
      | inl e ↦
          chain.before b (first.0) (ap (node_at old) e ∙ first.1) a
          (subst (λ (m : Node). reads a m.inputs ≡ true) (some_same reader.node (lifted first.0 h) (sym reader.here ∙ ap (node_at new) e ∙ here)) reader.does)
      | inr apart ↦ chain.before b reader.node (sym (other b apart) ∙ reader.here) a reader.does
    ]
    | inr kept ↦ elim kept [
      | inl member ↦ true_false (has_item (members lives (a + 1)) b) member (ap (λ (xs : List ℕ). has_item xs b) (chain.only (a + 1) (omega arith)))
      | inr result ↦ elim (by_number result.era 0) [
        | inl e ↦
            (let at : a ≡ result.place = chain.places result.place a (ap (λ (k : ℕ). slice_get (members lives k) result.place) (sym e) ∙ result.stands) in
            let to : b ≡ result.place + 1 = chain.places (result.place + 1) b (ap (λ (k : ℕ). slice_get (members lives k) (result.place + 1)) (sym e) ∙ result.next) in
            omega arith)
        | inr apart ↦ nothing a result.place (ap (λ (xs : List ℕ). slice_get xs result.place) (sym (chain.only result.era apart)) ∙ result.stands)
      ]
    ]
  ]
    where
      nothing : {A : Type 0} (item place : ℕ) → slice_get [] place ≡ Some item → A
      nothing item place e = cc

  upper_there : (a b : ℕ) → above lives new a b → IsSome (node_at new b)
  upper_there a b edge = elim edge [
    | inl reader ↦ is_there (node_at new b) reader.node reader.here
    | inr kept ↦ elim kept [
      | inl member ↦ lifted_there.member (a + 1) b member
      | inr result ↦ lifted_there.member result.era b (has_place (members lives result.era) (result.place + 1) b result.next)
    ]
  ]

  pub lifted_ordered : (rank : ℕ → ℕ) × RisesAlong (above lives new) rank
  lifted_ordered = ((λ i. i), (λ a b edge. (let e : b ≡ a + 1 = next a b edge in omega arith)))

  pub lifted_levelled : AreLevelledBut (above lives new) (height_at new) 0
  lifted_levelled a b edge apart =
      let e : b ≡ a + 1 = next a b edge in
      let beyond : b ≢ 0 = omega arith in
      let low : height_at new a ≤ a =
      subst (λ (o : Option Node). height_in o ≤ a) (sym (other a apart)) (height_low lives old chain a) in
      let is : height_at new b ≡ b =
      ap height_in (other b beyond)
      ∙ height_there lives old chain b (subst (λ (o : Option Node). IsSome o) (other b beyond) (upper_there a b edge)) in
      omega arith

-- nothing is queued at a wrong height where nothing is queued
pub empty_right : (queue : Queued) (store : Stored) → IsEmpty queue → AreQueuedRight queue store
empty_right queue store none i h e = clash (queue i) (none i) e
  where
    clash : {A : Type 0} (o : Option ℕ) → o ≡ None → o ≡ Some h → A
    clash o e f = cc
