-- What outlives the end of a watch's era names nothing that ended with it.
use Rattle.std.proofs.Common.{◌≡◌, ◌≢◌, inl, inr, ℕ, zero, suc, ◌<◌, true, Option, Some, None, refl, ap, sym, ◌∙◌, subst, arith}
use Rattle.fr_graph.specs.Graph.{Part, signal, result, Graph}
use Rattle.fr_graph.specs.Known.{Reads}
use Rattle.fr_way.specs.Frame.{is_watch, Holds, Names, InScope, HaveResults, AreScoped, HasOrder, IsFramed, Inside, here, deeper}
use Rattle.fr_way.proofs.Cases.{suc_same, zero_suc, result_case, watch_no_result, holds_watch}

pub inside_lives : (g : Graph) (x m : ℕ) → Inside g x m → g.live m ≡ true
inside_lives g x m (here i lv er) = lv
inside_lives g x m (deeper i v lv er u) = lv

-- of two nodes of one era both are inside, or none
pub inside_like : (g : Graph) (x i j : ℕ) → g.live i ≡ true → g.era i ≡ g.era j → Inside g x j → Inside g x i
inside_like g x i j lv e (here k lk er) = here i lv (e ∙ er)
inside_like g x i j lv e (deeper k v lk er u) = deeper i v lv (e ∙ er) u

-- the owner of a node's era is inside too, unless the era is that of the watch
pub inside_owner : (g : Graph) (w v j : ℕ) → Inside g (suc w) j → g.era j ≡ suc v → v ≢ w → Inside g (suc w) v
inside_owner g w v j (here i lv er) e ne = absurd (ne (suc_same v w (sym e ∙ er)))
inside_owner g w v j (deeper i u lv er inner) e ne = subst (Inside g (suc w)) (suc_same u v (sym er ∙ e)) inner

-- no node of the program's era is inside
pub inside_owned {ℓ} : {A : Type ℓ} → (g : Graph) (w j : ℕ) → Inside g (suc w) j → g.era j ≡ 0 → A
inside_owned g w j (here i lv er) e = zero_suc (g.era i) w e er
inside_owned g w j (deeper i v lv er u) e = zero_suc (g.era i) v e er

-- the same nodes are inside where the same live in the same eras
pub inside_same : (g n : Graph) (x m : ℕ) → ((i : ℕ) → n.live i ≡ g.live i) → ((i : ℕ) → n.era i ≡ g.era i) → Inside g x m → Inside n x m
inside_same g n x m live era (here i lv er) = here i (live i ∙ lv) (era i ∙ er)
inside_same g n x m live era (deeper i v lv er u) = deeper i v (live i ∙ lv) (era i ∙ er) (inside_same g n x v live era u)

-- what is inside comes behind the watch
pub inside_behind : (g : Graph) (o : HasOrder g) (w m : ℕ) → Inside g (suc w) m → o.rank w < o.rank m
inside_behind g o w m (here i lv er) = o.owner i w lv er
inside_behind g o w m (deeper i v lv er u) =
    let a : o.rank w < o.rank v = inside_behind g o w v u in
    let b : o.rank v < o.rank i = o.owner i v lv er in
    omega arith

-- a watch isn't inside its own era
pub not_inside_own : (g : Graph) → HasOrder g → (w : ℕ) → Inside g (suc w) w → ⊥
not_inside_own g o w u =
    let a : o.rank w < o.rank w = inside_behind g o w w u in
    absurd (omega arith)

pub none_later {ℓ} : {A : Type ℓ} → (o : Option Part) (j : ℕ) → o ≡ None → o ≡ Some (signal j) → A
none_later o j a b = absurd cc

module _ (g : Graph) (height : ℕ → ℕ) (f : IsFramed g height) (w : ℕ) (lives : g.live w ≡ true) (watches : is_watch (g.kind w) ≡ true) where
  -- and neither is its result
  pub result_outside : Inside g (suc w) (g.result_of w) → ⊥
  result_outside u = not_inside_own g f.order w (inside_like g (suc w) w (g.result_of w) lives (sym (f.results.era w lives watches)) u)

  -- what is in scope isn't inside, where neither the era of the scope is nor what its owner holds
  scope_outside : (x j : ℕ) → (g.era j ≡ x → ⊥) → ((v : ℕ) → x ≡ suc v → g.live v ≡ true → Holds j (g.kind v) → ⊥) → InScope g x j → Inside g (suc w) j → ⊥
  scope_outside x j apart held s u = elim s.where_from [
    | inl e ↦ apart e
    | inr more ↦ elim more [
      | inl h ↦ held h.0 h.1 h.2 h.3
      | inr from_source ↦ inside_owned g w j u (f.members.sources j s.live from_source)
    ]
  ]

  -- what holds of a node that names another holds of the watches before it
  module _ (m j : ℕ) (before : (v : ℕ) → f.order.rank v < f.order.rank m → g.live v ≡ true → (Inside g (suc w) v → ⊥) → v ≢ g.result_of w → Names g v j → Inside g (suc w) j → ⊥)
      (lv : g.live m ≡ true) (out : Inside g (suc w) m → ⊥) (u : Inside g (suc w) j) where
    -- a watch before it that isn't inside holds nothing that is
    held_before : (v : ℕ) → f.order.rank v < f.order.rank m → g.live v ≡ true → (Inside g (suc w) v → ⊥) → Holds j (g.kind v) → ⊥
    held_before v lt live apart h =
        let other : v ≢ g.result_of w = λ e. watch_no_result (g.kind v) (holds_watch j (g.kind v) h) (ap g.kind e ∙ f.results.kind w lives watches) in
        before v lt live apart other (inr (inr h)) u

    -- the node is no result
    plain_names : g.kind m ≢ result → Names g m j → ⊥
    plain_names plain nm =
        scope_outside (g.era m) j
        (λ e. out (inside_like g (suc w) m j lv (sym e) u))
        (λ v e live h. held_before v (f.order.owner m v lv e) live (λ uv. out (deeper m v lv e uv)) h)
        (f.scoped.names m j lv plain nm) u

    -- the node is the result of another watch
    result_reads : (v : ℕ) → g.live v ≡ true → is_watch (g.kind v) ≡ true → g.result_of v ≡ m → m ≢ g.result_of w → Reads j (g.inputs m) → ⊥
    result_reads v live iv e ne rd =
        let like : g.era v ≡ g.era m = sym (f.results.era v live iv) ∙ ap g.era e in
        let apart : Inside g (suc w) v → ⊥ = λ uv. out (inside_like g (suc w) m v lv (sym like) uv) in
        let other : v ≢ w = λ s. ne (sym e ∙ ap g.result_of s) in
        scope_outside (suc v) j
        (λ s. apart (inside_owner g w v j u s other))
        (λ x s lx h. held_before x (subst (λ i. f.order.rank i < f.order.rank m) (suc_same v x s) (subst (λ i. f.order.rank v < f.order.rank i) e (f.order.before_result v v live live iv (inl refl)))) lx (subst (λ i. Inside g (suc w) i → ⊥) (suc_same v x s) apart) h)
        (f.scoped.results v j live iv (subst (λ i. Reads j (g.inputs i)) (sym e) rd)) u

    result_names : g.kind m ≡ result → m ≢ g.result_of w → Names g m j → ⊥
    result_names is ne nm = elim nm [
      | inl rd ↦
          let v = f.results.watched m lv is in
          result_reads v.0 v.1 v.2 v.3 ne rd
      | inr more ↦ elim more [
        | inl e ↦ none_later (g.later m) j (f.scoped.later m lv is) e
        | inr h ↦ watch_no_result (g.kind m) (holds_watch j (g.kind m) h) is
      ]
    ]

  names_below : (fuel m j : ℕ) → f.order.rank m < fuel → g.live m ≡ true → (Inside g (suc w) m → ⊥) → m ≢ g.result_of w → Names g m j → Inside g (suc w) j → ⊥
  names_below zero m j lt lv out ne nm u = absurd (omega arith)
  names_below (suc fuel) m j lt lv out ne nm u =
      let before : (v : ℕ) → f.order.rank v < f.order.rank m → g.live v ≡ true → (Inside g (suc w) v → ⊥) → v ≢ g.result_of w → Names g v j → Inside g (suc w) j → ⊥
      = λ v less. names_below fuel v j (omega arith) in
      elim (result_case (g.kind m)) [
        | inl is ↦ result_names m j before lv out u is ne nm
        | inr plain ↦ plain_names m j before lv out u plain nm
      ]

  -- NOTHING THAT LIVES NAMES WHAT ENDED. A node that isn't inside the era of a watch, nor its result, names nothing inside.
  pub names_outside : (m j : ℕ) → g.live m ≡ true → (Inside g (suc w) m → ⊥) → m ≢ g.result_of w → Names g m j → Inside g (suc w) j → ⊥
  names_outside m j lv out ne nm u = names_below (suc (f.order.rank m)) m j (omega arith) lv out ne nm u

-- what a node names lives
pub scoped_lives : (g : Graph) → HaveResults g → AreScoped g → (m j : ℕ) → g.live m ≡ true → Names g m j → g.live j ≡ true
scoped_lives g results scoped m j lv nm = elim (result_case (g.kind m)) [
  | inl is ↦ elim nm [
    | inl rd ↦
        let v = results.watched m lv is in
        (scoped.results v.0 j v.1 v.2 (subst (λ i. Reads j (g.inputs i)) (sym v.3) rd)).live
    | inr more ↦ elim more [
      | inl e ↦ none_later (g.later m) j (scoped.later m lv is) e
      | inr h ↦ absurd (watch_no_result (g.kind m) (holds_watch j (g.kind m) h) is)
    ]
  ]
  | inr plain ↦ (scoped.names m j lv plain nm).live
]

pub named_lives : (g : Graph) (height : ℕ → ℕ) → IsFramed g height → (m j : ℕ) → g.live m ≡ true → Names g m j → g.live j ≡ true
named_lives g height f m j lv nm = scoped_lives g f.results f.scoped m j lv nm
