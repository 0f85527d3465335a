-- Any order of dependence can be counted: a node's rank is how many nodes come before it or with it.
use Rattle.std.proofs.Common.{◌≡◌, ℕ, zero, suc, ◌+◌, ◌<◌, ◌≤◌, List, [], ◌∷◌, length, ◌⊎◌, inl, inr, Option, Some, None, IsSome, Bool, true, false, cond, nat_lt, refl, ap, subst, arith}
use Rattle.std.specs.Option.{is_some}
use Rattle.std.specs.List.{count_by}
use Rattle.std.proofs.lemmas.List.{get_or_past}
use Rattle.std.proofs.lemmas.List.Recursion.{is_count_by}
use Rattle.fr_store.specs.declared.node.Node.{Node}
use Rattle.fr_store.specs.Nodes.{Stored, height_in, node_at, node_in}
use Rattle.fr_eras.specs.Raise.{CanRaise, Edges}
use Rattle.fr_eras.specs.Heights.{AreLevelledBut, RisesAlong, height_at, top_height}

by_bound : (i n : ℕ) → (i < n) ⊎ (n ≤ i)
by_bound i n = grind arith

one_if : Bool → ℕ
one_if b = cond b 1 0

-- how many nodes, numbered from here on, pass
abbrev count_from : List (Option Node) → ℕ → (ℕ → Bool) → ℕ
count_from [] i p = 0
count_from (None ∷ nodes) i p = count_from nodes (suc i) p
count_from (Some n ∷ nodes) i p = cond (p i) 1 0 + count_from nodes (suc i) p

abbrev all_of : List (Option Node) → ℕ
all_of [] = 0
all_of (o ∷ nodes) = cond (is_some o) (1 + all_of nodes) (all_of nodes)

all_counted : (nodes : List (Option Node)) → all_of nodes ≡ count_by is_some nodes
all_counted nodes = is_count_by all_of is_some refl (λ x xs. refl) nodes

bit_le : (b : Bool) → cond b 1 0 ≤ 1
bit_le true = omega arith
bit_le false = omega arith

count_le : (nodes : List (Option Node)) (i : ℕ) (p : ℕ → Bool) → count_from nodes i p ≤ all_of nodes
count_le [] i p = omega arith
count_le (None ∷ nodes) i p = count_le nodes (suc i) p
count_le (Some n ∷ nodes) i p =
    let a : count_from nodes (suc i) p ≤ all_of nodes = count_le nodes (suc i) p in
    let b : cond (p i) 1 0 ≤ 1 = bit_le (p i) in
    omega arith

bit_more : (b c : Bool) → (b ≡ true → c ≡ true) → cond b 1 0 ≤ cond c 1 0
bit_more true true h = omega arith
bit_more true false h = let e : false ≡ true = h refl in cc
bit_more false c h = omega arith

count_more : (nodes : List (Option Node)) (i : ℕ) (p q : ℕ → Bool) → ((j : ℕ) → p j ≡ true → q j ≡ true) → count_from nodes i p ≤ count_from nodes i q
count_more [] i p q h = omega arith
count_more (None ∷ nodes) i p q h = count_more nodes (suc i) p q h
count_more (Some n ∷ nodes) i p q h =
    let a : count_from nodes (suc i) p ≤ count_from nodes (suc i) q = count_more nodes (suc i) p q h in
    let b : cond (p i) 1 0 ≤ cond (q i) 1 0 = bit_more (p i) (q i) (h i) in
    omega arith

less_here : (x y : ℕ) (a b : Bool) → a ≡ false → b ≡ true → x ≤ y → cond a 1 0 + x + 1 ≤ cond b 1 0 + y
less_here x y true b e f le = cc
less_here x y false true e f le = omega arith
less_here x y false false e f le = cc

-- one that passes now and didn't before
count_less : (nodes : List (Option Node)) (i k : ℕ) (p q : ℕ → Bool) → ((j : ℕ) → p j ≡ true → q j ≡ true) → IsSome (node_in nodes k)
    → p (i + k) ≡ false → q (i + k) ≡ true → count_from nodes i p + 1 ≤ count_from nodes i q
count_less [] i k p q h s off on = cc
count_less (None ∷ nodes) i zero p q h s off on = cc
count_less (None ∷ nodes) i (suc k) p q h s off on =
    let e : i + suc k ≡ suc i + k = omega arith in
    count_less nodes (suc i) k p q h s (subst (λ (j : ℕ). p j ≡ false) e off) (subst (λ (j : ℕ). q j ≡ true) e on)
count_less (Some n ∷ nodes) i zero p q h s off on =
    let e : i + 0 ≡ i = omega arith in
    less_here (count_from nodes (suc i) p) (count_from nodes (suc i) q) (p i) (q i) (subst (λ (j : ℕ). p j ≡ false) e off) (subst (λ (j : ℕ). q j ≡ true) e on)
    (count_more nodes (suc i) p q h)
count_less (Some n ∷ nodes) i (suc k) p q h s off on =
    let e : i + suc k ≡ suc i + k = omega arith in
    let a : count_from nodes (suc i) p + 1 ≤ count_from nodes (suc i) q =
    count_less nodes (suc i) k p q h s (subst (λ (j : ℕ). p j ≡ false) e off) (subst (λ (j : ℕ). q j ≡ true) e on) in
    let b : cond (p i) 1 0 ≤ cond (q i) 1 0 = bit_more (p i) (q i) (h i) in
    omega arith

none_pass : (nodes : List (Option Node)) (i : ℕ) → count_from nodes i (λ j. false) ≡ 0
none_pass [] i = refl
none_pass (None ∷ nodes) i = none_pass nodes (suc i)
none_pass (Some n ∷ nodes) i = let e : count_from nodes (suc i) (λ j. false) ≡ 0 = none_pass nodes (suc i) in omega arith

module _ (nodes : List (Option Node)) (rank : ℕ → ℕ) where
  -- how many nodes have no greater rank than a node; 0 where there is none
  abbrev pub counted : ℕ → ℕ
  counted a = cond (is_some (node_in nodes a)) (count_from nodes 0 (λ i. nat_lt (rank i) (rank a + 1))) 0

  pub counted_few : (a : ℕ) → counted a ≤ count_by is_some nodes
  counted_few a =
      let all : all_of nodes ≡ count_by is_some nodes = all_counted nodes in
      let le : count_from nodes 0 (λ i. nat_lt (rank i) (rank a + 1)) ≤ all_of nodes = count_le nodes 0 (λ i. nat_lt (rank i) (rank a + 1)) in
      either (is_some (node_in nodes a)) (count_from nodes 0 (λ i. nat_lt (rank i) (rank a + 1))) (all_of nodes) (count_by is_some nodes) all le
    where
      either : (b : Bool) (x y z : ℕ) → y ≡ z → x ≤ y → cond b x 0 ≤ z
      either true x y z e le = omega arith
      either false x y z e le = omega arith

  lt_true : (m n : ℕ) → m < n → nat_lt m n ≡ true
  lt_true m n h = grind arith

  lt_false : (m n : ℕ) → n ≤ m → nat_lt m n ≡ false
  lt_false m n h = grind arith

  lt_is : (m n : ℕ) → nat_lt m n ≡ true → m < n
  lt_is m n h = grind arith

  -- a node's rank counts more than that of any number below it
  pub counted_rises : (a b : ℕ) → IsSome (node_in nodes b) → rank a < rank b → counted a < counted b
  counted_rises a b there less =
      let more : count_from nodes 0 (λ i. nat_lt (rank i) (rank a + 1)) + 1 ≤ count_from nodes 0 (λ i. nat_lt (rank i) (rank b + 1)) =
      count_less nodes 0 b (λ i. nat_lt (rank i) (rank a + 1)) (λ i. nat_lt (rank i) (rank b + 1))
      (λ i h. (let p : rank i < rank a + 1 = lt_is (rank i) (rank a + 1) h in lt_true (rank i) (rank b + 1) (omega arith))) there
      (subst (λ (j : ℕ). nat_lt (rank j) (rank a + 1) ≡ false) zero_b (lt_false (rank b) (rank a + 1) (omega arith)))
      (subst (λ (j : ℕ). nat_lt (rank j) (rank b + 1) ≡ true) zero_b (lt_true (rank b) (rank b + 1) (omega arith))) in
      let is : counted b ≡ count_from nodes 0 (λ i. nat_lt (rank i) (rank b + 1)) =
      ap (λ (c : Bool). cond c (count_from nodes 0 (λ i. nat_lt (rank i) (rank b + 1))) 0) there in
      let le : counted a ≤ count_from nodes 0 (λ i. nat_lt (rank i) (rank a + 1)) =
      smaller (is_some (node_in nodes a)) (count_from nodes 0 (λ i. nat_lt (rank i) (rank a + 1))) in
      omega arith
    where
      zero_b : b ≡ 0 + b
      zero_b = omega arith

      smaller : (c : Bool) (n : ℕ) → cond c n 0 ≤ n
      smaller true n = omega arith
      smaller false n = omega arith

pub top_is : (nodes : List (Option Node)) (i : ℕ) → height_in (node_in nodes i) ≤ top_height nodes
top_is [] i = omega arith
top_is (o ∷ nodes) zero = omega arith
top_is (o ∷ nodes) (suc i) = let le : height_in (node_in nodes i) ≤ top_height nodes = top_is nodes i in omega arith

pub top_mild : (nodes : List (Option Node)) (most : ℕ) → ((i : ℕ) → height_in (node_in nodes i) ≤ most) → top_height nodes ≤ most
top_mild [] most h = omega arith
top_mild (o ∷ nodes) most h =
    let a : height_in o ≤ most = h 0 in
    let b : top_height nodes ≤ most = top_mild nodes most (λ i. h (suc i)) in
    omega arith

pub there_inside : (nodes : List (Option Node)) (i : ℕ) → IsSome (node_in nodes i) → i < length nodes
there_inside nodes i s = elim (by_bound i (length nodes)) [
  | inl lt ↦ lt
  | inr le ↦ none_there (node_in nodes i) (get_or_past nodes i None le) s
]
  where
    none_there : {A : Type 0} (o : Option Node) → o ≡ None → IsSome o → A
    none_there None e s = cc
    none_there (Some n) e s = cc

-- heights can be raised along an order of dependence
pub can_raise : (store : Stored) (edge : Edges) (id : ℕ) (rank : ℕ → ℕ) → ((a b : ℕ) → edge a b → IsSome (node_at store b)) → RisesAlong edge rank
    → AreLevelledBut edge (height_at store) id
    → CanRaise edge (counted store.nodes rank) (height_at store) (length store.nodes) (count_by is_some store.nodes) (top_height store.nodes) id
can_raise store edge id rank there rises levelled = record {
  number = λ a b e. there_inside store.nodes b (there a b e);
  rises = λ a b e. counted_rises store.nodes rank a b (there a b e) (rises a b e);
  few = counted_few store.nodes rank;
  top_is = top_is store.nodes;
  levelled = levelled;
}
