-- Members of eras and dead nodes stay in the store as eras and store change.
use Rattle.std.proofs.Common.{◌≡◌, ◌≢◌, ℕ, zero, suc, ◌+◌, ◌-◌, ◌<◌, ◌≤◌, List, [], ◌∷◌, ◌++◌, length, ◌⊎◌, inl, inr, Option, Some, None, IsSome, true, false, replicate, refl, sym, ap, ◌∙◌, subst, arith, get_or-set_same, get_or-set_other, length-append}
use Rattle.std.proofs.lemmas.List.{length-replicate}
use Rattle.fr_links.specs.Lists.{has_item}
use Rattle.fr_links.proofs.Has.{by_number, by_truth, has_append_cases, true_false}
use Rattle.fr_store.specs.declared.node.Node.{Node}
use Rattle.fr_store.specs.Nodes.{Makes, Stored, node_at, node_in}
use Rattle.fr_eras.specs.Lives.{AreNew, BeginsEra, Deeper, Here, IsAlone, JoinsEra, Killed, Lives, Under, grave, members}
use Rattle.fr_eras.specs.Heights.{AreThere}
use Rattle.fr_eras.proofs.Moves.{pushed_is}

by_bound : (i n : ℕ) → (i < n) ⊎ (n ≤ i)
by_bound i n = grind arith

-- the lookups after a node was made
none_beyond : (n i : ℕ) → node_in (replicate n None) i ≡ None
none_beyond zero i = refl
none_beyond (suc n) zero = refl
none_beyond (suc n) (suc i) = none_beyond n i

none_behind : (nodes : List (Option Node)) (n i : ℕ) → node_in (nodes ++ replicate n None) i ≡ node_in nodes i
none_behind [] n i = none_beyond n i
none_behind (o ∷ nodes) n zero = refl
none_behind (o ∷ nodes) n (suc i) = none_behind nodes n i

pub made_here : (old new : Stored) (i : ℕ) (n : Node) → Makes old new i n → node_at new i ≡ Some n
made_here old new i n m =
    ap (λ (nodes : List (Option Node)). node_in nodes i) m.nodes
    ∙ get_or-set_same (old.nodes ++ replicate (i + 1 - length old.nodes) None) i (Some n) None inside
  where
    long : length (old.nodes ++ replicate (i + 1 - length old.nodes) None) ≡ length old.nodes + (i + 1 - length old.nodes)
    long =
        length-append old.nodes (replicate (i + 1 - length old.nodes) None)
        ∙ ap (λ (n : ℕ). length old.nodes + n) (length-replicate (i + 1 - length old.nodes) None)

    inside : i < length (old.nodes ++ replicate (i + 1 - length old.nodes) None)
    inside = let e : length (old.nodes ++ replicate (i + 1 - length old.nodes) None) ≡ length old.nodes + (i + 1 - length old.nodes) = long in omega arith

pub made_other : (old new : Stored) (i : ℕ) (n : Node) → Makes old new i n → (j : ℕ) → j ≢ i → node_at new j ≡ node_at old j
made_other old new i n m j other =
    ap (λ (nodes : List (Option Node)). node_in nodes j) m.nodes
    ∙ get_or-set_other (old.nodes ++ replicate (i + 1 - length old.nodes) None) i j (Some n) None other
    ∙ none_behind old.nodes (i + 1 - length old.nodes) j

pub made_lives : (old new : Stored) (i : ℕ) (n : Node) → Makes old new i n → (j : ℕ) → IsSome (node_at old j) → IsSome (node_at new j)
made_lives old new i n m j h = elim (by_number j i) [
  | inl e ↦ subst (λ (k : ℕ). IsSome (node_at new k)) (sym e) (subst (λ (o : Option Node). IsSome o) (sym (made_here old new i n m)) refl)
  | inr other ↦ subst (λ (o : Option Node). IsSome o) (sym (made_other old new i n m j other)) h
]

pub there_new : (lives : Lives) (store : Stored) → AreNew lives → AreThere lives store
there_new lives store new = record {
  member = λ era node h. true_false (has_item (members lives era) node) h (ap (λ (xs : List ℕ). has_item xs node) (new.each era));
  buried = λ node h. true_false (has_item (grave lives) node) h (ap (λ (xs : List ℕ). has_item xs node) new.buried);
}

-- a new node is in no era yet
pub made_alone : (lives : Lives) (old new : Stored) (i : ℕ) (n : Node) → AreThere lives old → Makes old new i n → IsAlone lives i
made_alone lives old new i n there m = record {
  no_member = λ era. elim (by_truth (has_item (members lives era) i)) [ inl h ↦ free (node_at old i) m.free (there.member era i h) | inr a ↦ a ];
  no_grave = elim (by_truth (has_item (grave lives) i)) [ inl h ↦ free (node_at old i) m.free (there.buried i h) | inr a ↦ a ];
}
  where
    free : {A : Type 0} (o : Option Node) → o ≡ None → IsSome o → A
    free None e h = cc
    free (Some n) e h = cc

pub there_made : (lives : Lives) (old new : Stored) (i : ℕ) (n : Node) → AreThere lives old → Makes old new i n → AreThere lives new
there_made lives old new i n there m = record {
  member = λ era node h. made_lives old new i n m node (there.member era node h);
  buried = λ node h. made_lives old new i n m node (there.buried node h);
}

pub there_begins : (old new : Lives) (store : Stored) (era : ℕ) → AreThere old store → BeginsEra old new era → AreThere new store
there_begins old new store era there b = record {
  member = λ other node h. there.member other node (subst (λ (xs : List ℕ). has_item xs node ≡ true) (b.each other) h);
  buried = λ node h. there.buried node (subst (λ (xs : List ℕ). has_item xs node ≡ true) b.buried h);
}

pub there_joins : (old new : Lives) (store : Stored) (era item : ℕ) → AreThere old store → IsSome (node_at store item) → JoinsEra old new era item → AreThere new store
there_joins old new store era item there live j = record {
  member = λ other node h. elim (by_number other era) [
    | inl e ↦ elim (pushed_is (members old era) item node (subst (λ (xs : List ℕ). has_item xs node ≡ true) (ap (members new) e ∙ j.here) h)) [
      | inl before ↦ there.member era node before
      | inr is ↦ subst (λ (i : ℕ). IsSome (node_at store i)) (sym is) live
    ]
    | inr apart ↦ there.member other node (subst (λ (xs : List ℕ). has_item xs node ≡ true) (j.each other apart) h)
  ];
  buried = λ node h. there.buried node (subst (λ (xs : List ℕ). has_item xs node ≡ true) j.buried h);
}

under_there : (lives : Lives) (store : Stored) (era : ℕ) → AreThere lives store → (node : ℕ) → Under lives era node → IsSome (node_at store node)
under_there lives store era there node (Here m h) = there.member era m h
under_there lives store era there node (Deeper m owner h u) = there.member (owner + 1) m h

pub there_killed : (old new : Lives) (store : Stored) (era : ℕ) → AreThere old store → Killed old new era → AreThere new store
there_killed old new store era there k = record {
  member = λ other node h. there.member other node (was other node h);
  buried = λ node h. elim (has_append_cases (grave old) k.moved node (subst (λ (xs : List ℕ). has_item xs node ≡ true) k.buried h)) [
    | inl before ↦ there.buried node before
    | inr moved ↦ under_there old store era there node (k.only node moved)
  ];
}
  where
    empty : (xs : List ℕ) (node : ℕ) {A : Type 0} → xs ≡ [] → has_item xs node ≡ true → A
    empty xs node e h = true_false (has_item xs node) h (ap (λ (ys : List ℕ). has_item ys node) e)

    clear : (other node : ℕ) → other ≢ era → has_item (members new other) node ≡ true
        → ((owner : ℕ) → other ≡ owner + 1 → has_item k.moved owner ≡ true → has_item (members old other) node ≡ true)
    clear other node apart h owner e moved = empty (members new other) node (k.ended other (inr (owner, k.only owner moved, e))).0 h

    was : (other node : ℕ) → has_item (members new other) node ≡ true → has_item (members old other) node ≡ true
    was other node h = elim (by_number other era) [
      | inl e ↦ empty (members new other) node (k.ended other (inl e)).0 h
      | inr apart ↦ elim (by_truth (has_item k.moved (other - 1))) [
        | inl moved ↦ elim (by_number other 0) [
          | inl z ↦ subst (λ (xs : List ℕ). has_item xs node ≡ true) (k.stay other apart (λ owner e. absurd (omega arith))).0 h
          | inr some ↦ clear other node apart h (other - 1) (omega arith) moved
        ]
        | inr n ↦
            subst (λ (xs : List ℕ). has_item xs node ≡ true)
            (k.stay other apart (λ owner e. (let same : other - 1 ≡ owner = omega arith in subst (λ (i : ℕ). has_item k.moved i ≡ false) same n))).0 h
      ]
    ]
