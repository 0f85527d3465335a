-- A framed graph stays framed where the era of a watch ends and another is built in it.
use Rattle.std.proofs.Common.{◌≡◌, ◌≢◌, ◌⊎◌, inl, inr, ℕ, zero, suc, ◌+◌, ◌*◌, ◌<◌, ◌≤◌, Bool, true, false, List, [], None, refl, ap, sym, ◌∙◌, subst, arith}
use Rattle.std.proofs.Math.Nat.{mul-le-mul_left}
use Rattle.fr_links.specs.Lists.{has_item}
use Rattle.fr_graph.specs.Graph.{Part, result, Graph}
use Rattle.fr_graph.specs.Known.{Reads}
use Rattle.fr_way.specs.Frame.{AreCalm, is_watch, is_source, Holds, Names, InScope, AreMembers, HaveResults, AreScoped, HasOrder, IsFramed, Inside, here, deeper}
use Rattle.fr_way.specs.Turns.{IsNew, IsGiven, AreBuilt}
use Rattle.fr_way.proofs.Cases.{bool_case, both_bools, by_number, suc_same, zero_suc, watch_no_result, watch_no_source, work_no_result, holds_watch, no_item, result_no_source}
use Rattle.fr_way.proofs.Names.{inside_like, not_inside_own, result_outside, names_outside, named_lives, none_later}

-- the era of a watch ended with all inside, another was built in it, and its result reads another part; all else that lived goes on
pub record Regrown (g n : Graph) (w : ℕ) (env : List Part) : Type 0 where
  pub live : g.live w ≡ true
  pub watches : is_watch (g.kind w) ≡ true
  pub scope : (j : ℕ) → Reads j env → Holds j (g.kind w)
  pub decided : (m : ℕ) → Inside g (suc w) m ⊎ (Inside g (suc w) m → ⊥)
  pub ended : (m : ℕ) → Inside g (suc w) m → n.live m ≡ false
  pub stays : (m : ℕ) → g.live m ≡ true → (Inside g (suc w) m → ⊥) → n.live m ≡ true
  pub kind : (m : ℕ) → g.live m ≡ true → n.live m ≡ true → n.kind m ≡ g.kind m
  pub later : (m : ℕ) → g.live m ≡ true → n.live m ≡ true → n.later m ≡ g.later m
  pub era : (m : ℕ) → g.live m ≡ true → n.live m ≡ true → n.era m ≡ g.era m
  pub inputs : (m : ℕ) → g.live m ≡ true → n.live m ≡ true → m ≢ g.result_of w → n.inputs m ≡ g.inputs m
  pub result_of : (m : ℕ) → g.live m ≡ true → n.live m ≡ true → is_watch (g.kind m) ≡ true → n.result_of m ≡ g.result_of m
  pub built : AreBuilt g n (suc w) env
  pub inner : (v : ℕ) → Inside g (suc w) v → n.members (suc v) ≡ []
  pub others : (y : ℕ) → y ≢ suc w → ((v : ℕ) → y ≡ suc v → Inside g (suc w) v → ⊥) → n.members y ≡ g.members y

-- where ranks are spread, what is between two of them keeps its order
spread : (k a b : ℕ) → a < b → k * a + k ≤ k * b
spread k a b lt =
    let le : k * suc a ≤ k * b = mul-le-mul_left k lt in
    let e : k * suc a ≡ k * a + k = omega arith in
    omega arith

spread_same : (k a b : ℕ) → a ≤ b → k * a ≤ k * b
spread_same k a b le = mul-le-mul_left k le

module _ (g n : Graph) (height : ℕ → ℕ) (f : IsFramed g height) (w : ℕ) (env : List Part) (x : Regrown g n w env) where
  abbrev r : ℕ
  r = g.result_of w

  outside : (m : ℕ) → n.live m ≡ true → Inside g (suc w) m → ⊥
  outside m nl i = both_bools (n.live m) nl (x.ended m i)

  whence : (m : ℕ) → n.live m ≡ true → (g.live m ≡ true) ⊎ IsNew g n m
  whence m nl = elim (bool_case (g.live m)) [ inl lv ↦ inl lv | inr off ↦ inr (off, nl) ]

  result_lives : g.live r ≡ true
  result_lives = f.results.live w x.live x.watches

  result_is : g.kind r ≡ result
  result_is = f.results.kind w x.live x.watches

  watch_stays : n.live w ≡ true
  watch_stays = x.stays w x.live (not_inside_own g f.order w)

  result_stays : n.live r ≡ true
  result_stays = x.stays r result_lives (result_outside g height f w x.live x.watches)

  watch_apart : w ≢ r
  watch_apart e = watch_no_result (g.kind w) x.watches (ap g.kind e ∙ result_is)

  no_result_apart : (m : ℕ) → g.kind m ≢ result → m ≢ r
  no_result_apart m off e = off (ap g.kind e ∙ result_is)

  -- a node that isn't new and isn't the result names what stays
  named_stays : (m j : ℕ) → g.live m ≡ true → n.live m ≡ true → m ≢ r → Names g m j → n.live j ≡ true
  named_stays m j lv nl ne nm = x.stays j (named_lives g height f m j lv nm) (names_outside g height f w x.live x.watches m j lv (outside m nl) ne nm)

  owner_stays : (m v : ℕ) → g.live m ≡ true → n.live m ≡ true → g.era m ≡ suc v → n.live v ≡ true
  owner_stays m v lv nl er = x.stays v (f.members.owner m v lv er).0 (λ i. outside m nl (deeper m v lv er i))

  -- what was in scope and lives is in scope, if the owner of the scope lives
  scope_stays : (y j : ℕ) → ((v : ℕ) → y ≡ suc v → g.live v ≡ true → n.live v ≡ true) → n.live j ≡ true → InScope g y j → InScope n y j
  scope_stays y j owner nj s = record {
    live = nj;
    where_from = elim s.where_from [
      | inl e ↦ inl (x.era j s.live nj ∙ e)
      | inr more ↦ elim more [
        | inl h ↦
            let nv = owner h.0 h.1 h.2 in
            inr (inl (h.0, h.1, nv, subst (Holds j) (sym (x.kind h.0 h.2 nv)) h.3))
        | inr from_source ↦ inr (inr (ap is_source (x.kind j s.live nj) ∙ from_source))
      ]
    ];
  }

  -- what is given to the new nodes is in scope there
  held_stays : (j : ℕ) → Holds j (g.kind w) → n.live j ≡ true
  held_stays j h = named_stays w j x.live watch_stays watch_apart (inr (inr h))

  pub given_scope : (j : ℕ) → IsGiven n env j → InScope n (suc w) j
  given_scope j given = elim given [
    | inl rd ↦
        let h = x.scope j rd in
        record { live = held_stays j h; where_from = inr (inl (w, refl, watch_stays, subst (Holds j) (sym (x.kind w x.live watch_stays)) h)) }
    | inr s ↦ record { live = s.0; where_from = inr (inr s.1) }
  ]

  pub given_no_watch : (j : ℕ) → IsGiven n env j → is_watch (n.kind j) ≡ false
  given_no_watch j given = elim given [
    | inl rd ↦
        let h = x.scope j rd in
        let lv = named_lives g height f w j x.live (inr (inr h)) in
        ap is_watch (x.kind j lv (held_stays j h)) ∙ f.scoped.no_watch w j x.live (inr (inr h))
    | inr s ↦ elim (bool_case (is_watch (n.kind j))) [
      | inl yes_watch ↦ both_bools (is_source (n.kind j)) s.1 (watch_no_source (n.kind j) yes_watch)
      | inr no_watch ↦ no_watch
    ]
  ]

  given_or_new : (j : ℕ) → IsGiven n env j ⊎ IsNew g n j → InScope n (suc w) j
  given_or_new j c = elim c [
    | inl given ↦ given_scope j given
    | inr new ↦ record { live = new.1; where_from = inl (x.built.era j new) }
  ]

  -- MEMBERS
  era_case : (y : ℕ) → ((v : ℕ) × (y ≡ suc v) × Inside g (suc w) v) ⊎ ((v : ℕ) → y ≡ suc v → Inside g (suc w) v → ⊥)
  era_case zero = inr (λ v e i. zero_suc 0 v refl e)
  era_case (suc v) = elim (x.decided v) [
    | inl i ↦ inl (v, refl, i)
    | inr out ↦ inr (λ u e i. out (subst (Inside g (suc w)) (sym (suc_same v u e)) i))
  ]

  member_outside : (y m : ℕ) → g.era m ≡ y → y ≢ suc w → ((v : ℕ) → y ≡ suc v → Inside g (suc w) v → ⊥) → Inside g (suc w) m → ⊥
  member_outside y m e ne out (here i lv er) = ne (sym e ∙ er)
  member_outside y m e ne out (deeper i v lv er u) = out v (sym e ∙ er) u

  pub members_on : AreMembers n
  members_on = record {
    member = λ y m has. elim (by_number y (suc w)) [
      | inl e ↦
          let new = x.built.only m (subst (λ (i : ℕ). has_item (n.members i) m ≡ true) e has) in
          (new.1, x.built.era m new ∙ sym e)
      | inr ne ↦ elim (era_case y) [
        | inl i ↦ no_item m (subst (λ (l : List ℕ). has_item l m ≡ true) (ap n.members i.1 ∙ x.inner i.0 i.2) has)
        | inr out ↦
            let was = f.members.member y m (subst (λ (l : List ℕ). has_item l m ≡ true) (x.others y ne out) has) in
            let nl = x.stays m was.0 (member_outside y m was.1 ne out) in
            (nl, x.era m was.0 nl ∙ was.1)
      ]
    ];
    joined = λ m nl. elim (whence m nl) [
      | inl lv ↦
          let same = x.others (g.era m) (λ s. outside m nl (here m lv s)) (λ v s i. outside m nl (deeper m v lv s i)) in
          subst (λ (l : List ℕ). has_item l m ≡ true) (sym (ap n.members (x.era m lv nl) ∙ same)) (f.members.joined m lv)
      | inr new ↦ subst (λ (i : ℕ). has_item (n.members i) m ≡ true) (sym (x.built.era m new)) (x.built.joined m new)
    ];
    owner = λ m v nl er. elim (whence m nl) [
      | inl lv ↦
          let was : g.era m ≡ suc v = sym (x.era m lv nl) ∙ er in
          let o = f.members.owner m v lv was in
          let nv = owner_stays m v lv nl was in
          (nv, ap is_watch (x.kind v o.0 nv) ∙ o.1)
      | inr new ↦
          let e : w ≡ v = suc_same w v (sym (x.built.era m new) ∙ er) in
          (subst (λ (i : ℕ). n.live i ≡ true) e watch_stays, subst (λ (i : ℕ). is_watch (n.kind i) ≡ true) e (ap is_watch (x.kind w x.live watch_stays) ∙ x.watches))
    ];
    sources = λ m nl s. elim (whence m nl) [
      | inl lv ↦ x.era m lv nl ∙ f.members.sources m lv (ap is_source (sym (x.kind m lv nl)) ∙ s)
      | inr new ↦ both_bools (is_source (n.kind m)) s (x.built.no_source m new)
    ];
  }

  -- RESULTS
  was_watch : (v : ℕ) → g.live v ≡ true → n.live v ≡ true → is_watch (n.kind v) ≡ true → is_watch (g.kind v) ≡ true
  was_watch v lv nl is = ap is_watch (sym (x.kind v lv nl)) ∙ is

  result_on : (v : ℕ) → g.live v ≡ true → n.live v ≡ true → is_watch (g.kind v) ≡ true → n.live (g.result_of v) ≡ true
  result_on v lv nl is = x.stays (g.result_of v) (f.results.live v lv is) (λ i. outside v nl (inside_like g (suc w) v (g.result_of v) lv (sym (f.results.era v lv is)) i))

  pub results_on : HaveResults n
  results_on = record {
    live = λ v nl is. elim (whence v nl) [
      | inl lv ↦
          let was = was_watch v lv nl is in
          subst (λ (i : ℕ). n.live i ≡ true) (sym (x.result_of v lv nl was)) (result_on v lv nl was)
      | inr new ↦ (x.built.results v new is).0.1
    ];
    kind = λ v nl is. elim (whence v nl) [
      | inl lv ↦
          let was = was_watch v lv nl is in
          ap n.kind (x.result_of v lv nl was) ∙ x.kind (g.result_of v) (f.results.live v lv was) (result_on v lv nl was) ∙ f.results.kind v lv was
      | inr new ↦ (x.built.results v new is).1
    ];
    era = λ v nl is. elim (whence v nl) [
      | inl lv ↦
          let was = was_watch v lv nl is in
          ap n.era (x.result_of v lv nl was) ∙ x.era (g.result_of v) (f.results.live v lv was) (result_on v lv nl was) ∙ f.results.era v lv was ∙ sym (x.era v lv nl)
      | inr new ↦ x.built.era (n.result_of v) (x.built.results v new is).0 ∙ sym (x.built.era v new)
    ];
    apart = λ u v nu nv iu iv e. elim (whence u nu) [
      | inl lu ↦
          let wu = was_watch u lu nu iu in
          elim (whence v nv) [
            | inl lv ↦
                let wv = was_watch v lv nv iv in
                f.results.apart u v lu lv wu wv (sym (x.result_of u lu nu wu) ∙ e ∙ x.result_of v lv nv wv)
            | inr new ↦ both_bools (g.live (n.result_of v)) (subst (λ (i : ℕ). g.live i ≡ true) (sym (x.result_of u lu nu wu) ∙ e) (f.results.live u lu wu)) (x.built.results v new iv).0.0
          ]
      | inr new_u ↦ elim (whence v nv) [
        | inl lv ↦
            let wv = was_watch v lv nv iv in
            both_bools (g.live (n.result_of u)) (subst (λ (i : ℕ). g.live i ≡ true) (sym (x.result_of v lv nv wv) ∙ sym e) (f.results.live v lv wv)) (x.built.results u new_u iu).0.0
        | inr new_v ↦ x.built.apart u v new_u new_v iu iv e
      ]
    ];
    watched = λ m nl is. elim (whence m nl) [
      | inl lv ↦
          let v = f.results.watched m lv (sym (x.kind m lv nl) ∙ is) in
          let nv = x.stays v.0 v.1 (λ i. outside m nl (inside_like g (suc w) m v.0 lv (ap g.era (sym v.3) ∙ f.results.era v.0 v.1 v.2) i)) in
          (v.0, nv, ap is_watch (x.kind v.0 v.1 nv) ∙ v.2, x.result_of v.0 v.1 nv v.2 ∙ v.3)
      | inr new ↦
          let v = x.built.watched m new is in
          (v.0, v.1.1, v.2, v.3)
    ];
  }

  -- what is asked of the part that the result reads
  module _ (read : (j : ℕ) → Reads j (n.inputs r) → InScope n (suc w) j × (is_watch (n.kind j) ≡ false)) where
    -- a node that goes on, and isn't the result, names what it named
    was_named : (m j : ℕ) → g.live m ≡ true → n.live m ≡ true → m ≢ r → Names n m j → Names g m j
    was_named m j lv nl ne nm = elim nm [
      | inl rd ↦ inl (subst (Reads j) (x.inputs m lv nl ne) rd)
      | inr more ↦ elim more [
        | inl e ↦ inr (inl (sym (x.later m lv nl) ∙ e))
        | inr h ↦ inr (inr (subst (Holds j) (x.kind m lv nl) h))
      ]
    ]

    result_later : n.later r ≡ None
    result_later = x.later r result_lives result_stays ∙ f.scoped.later r result_lives result_is

    -- NAMES
    new_names : (m j : ℕ) → IsNew g n m → Names n m j → InScope n (suc w) j
    new_names m j new nm =
        let b = x.built.behind m new in
        elim nm [
          | inl rd ↦ elim (b.inputs j rd) [ inl given ↦ given_scope j given | inr o ↦ given_or_new j (inr o.0) ]
          | inr more ↦ elim more [
            | inl e ↦ given_or_new j (b.later j e)
            | inr h ↦ elim (b.held j h) [ inl given ↦ given_scope j given | inr o ↦ given_or_new j (inr o.0) ]
          ]
        ]

    other_result : (v j : ℕ) → v ≢ w → g.live v ≡ true → n.live v ≡ true → is_watch (g.kind v) ≡ true → Reads j (n.inputs (n.result_of v)) → InScope n (suc v) j
    other_result v j ne lv nl is rd =
        let q = g.result_of v in
        let lq = f.results.live v lv is in
        let nq = result_on v lv nl is in
        let apart : q ≢ r = λ e. ne (f.results.apart v w lv x.live is x.watches e) in
        let was : Reads j (g.inputs q) = subst (Reads j) (ap n.inputs (x.result_of v lv nl is) ∙ x.inputs q lq nq apart) rd in
        scope_stays (suc v) j (λ u e lu. subst (λ (i : ℕ). n.live i ≡ true) (suc_same v u e) nl) (named_stays q j lq nq apart (inl was)) (f.scoped.results v j lv is was)

    pub scoped_on : AreScoped n
    scoped_on = record {
      names = λ m j nl off nm. elim (whence m nl) [
        | inl lv ↦
            let was_no : g.kind m ≢ result = λ e. off (x.kind m lv nl ∙ e) in
            let ne = no_result_apart m was_no in
            let was = was_named m j lv nl ne nm in
            subst (λ (i : ℕ). InScope n i j) (sym (x.era m lv nl))
            (scope_stays (g.era m) j (λ v e lu. owner_stays m v lv nl e) (named_stays m j lv nl ne was) (f.scoped.names m j lv was_no was))
        | inr new ↦ subst (λ (i : ℕ). InScope n i j) (sym (x.built.era m new)) (new_names m j new nm)
      ];
      results = λ v j nl is rd. elim (whence v nl) [
        | inl lv ↦
            let was = was_watch v lv nl is in
            elim (by_number v w) [
              | inl e ↦ subst (λ (i : ℕ). InScope n (suc i) j) (sym e) (read j (subst (Reads j) (ap n.inputs (x.result_of v lv nl was ∙ ap g.result_of e)) rd)).0
              | inr ne ↦ other_result v j ne lv nl was rd
            ]
        | inr new ↦
            let s = x.built.results v new is in
            absurd (subst (Reads j) (x.built.unread (n.result_of v) s.0 s.1).0 rd)
      ];
      later = λ m nl is. elim (whence m nl) [
        | inl lv ↦ x.later m lv nl ∙ f.scoped.later m lv (sym (x.kind m lv nl) ∙ is)
        | inr new ↦ (x.built.unread m new is).1
      ];
      no_watch = λ m j nl nm. elim (whence m nl) [
        | inl lv ↦ elim (by_number m r) [
          | inl e ↦ elim (subst (λ (i : ℕ). Names n i j) e nm) [
            | inl rd ↦ (read j rd).1
            | inr more ↦ elim more [
              | inl l ↦ none_later (n.later r) j result_later l
              | inr h ↦ absurd (watch_no_result (n.kind r) (holds_watch j (n.kind r) h) (x.kind r result_lives result_stays ∙ result_is))
            ]
          ]
          | inr ne ↦
              let was = was_named m j lv nl ne nm in
              ap is_watch (x.kind j (named_lives g height f m j lv was) (named_stays m j lv nl ne was)) ∙ f.scoped.no_watch m j lv was
        ]
        | inr new ↦ x.built.no_watch m j new nm
      ];
      calm = λ m v nl k. elim (whence m nl) [
        | inl lv ↦
            let was = sym (x.kind m lv nl) ∙ k in
            subst AreCalm (sym (x.inputs m lv nl (no_result_apart m (work_no_result (g.kind m) v was)))) (f.scoped.calm m v lv was)
        | inr new ↦ x.built.calm m v new k
      ];
    }

    -- ORDER
    abbrev o : ℕ → ℕ
    o = f.order.rank

    -- how far the ranks are spread
    step : ℕ
    step = suc (suc x.built.many)

    step_over : (m : ℕ) → IsNew g n m → suc (x.built.place m) < step
    unfolding step
    step_over m new =
        let few : x.built.place m < x.built.many = x.built.few m new in
        omega arith

    -- the new nodes come right behind the watch
    rank_by : Bool → ℕ → ℕ
    rank_by true m = step * o m
    rank_by false m = step * o w + suc (x.built.place m)

    rank : ℕ → ℕ
    rank m = rank_by (g.live m) m

    old_rank : (m : ℕ) → g.live m ≡ true → rank m ≡ step * o m
    unfolding rank rank_by
    old_rank m lv = ap (λ (b : Bool). rank_by b m) lv

    new_rank : (m : ℕ) → IsNew g n m → rank m ≡ step * o w + suc (x.built.place m)
    unfolding rank rank_by
    new_rank m new = ap (λ (b : Bool). rank_by b m) new.0

    step_some : 0 < step
    unfolding step
    step_some = omega arith

    old_old : (j m : ℕ) → g.live j ≡ true → g.live m ≡ true → o j < o m → rank j < rank m
    old_old j m lj lm lt =
        let ej : rank j ≡ step * o j = old_rank j lj in
        let em : rank m ≡ step * o m = old_rank m lm in
        let far : step * o j + step ≤ step * o m = spread step (o j) (o m) lt in
        let over : 0 < step = step_some in
        omega arith

    old_new : (j m : ℕ) → g.live j ≡ true → IsNew g n m → o j ≤ o w → rank j < rank m
    old_new j m lj new le =
        let ej : rank j ≡ step * o j = old_rank j lj in
        let em : rank m ≡ step * o w + suc (x.built.place m) = new_rank m new in
        let far : step * o j ≤ step * o w = spread_same step (o j) (o w) le in
        omega arith

    new_old : (j m : ℕ) → IsNew g n j → g.live m ≡ true → o w < o m → rank j < rank m
    new_old j m new lm lt =
        let ej : rank j ≡ step * o w + suc (x.built.place j) = new_rank j new in
        let em : rank m ≡ step * o m = old_rank m lm in
        let far : step * o w + step ≤ step * o m = spread step (o w) (o m) lt in
        let few : suc (x.built.place j) < step = step_over j new in
        omega arith

    new_new : (j m : ℕ) → IsNew g n j → IsNew g n m → x.built.place j < x.built.place m → rank j < rank m
    new_new j m nj nm lt =
        let ej : rank j ≡ step * o w + suc (x.built.place j) = new_rank j nj in
        let em : rank m ≡ step * o w + suc (x.built.place m) = new_rank m nm in
        omega arith

    less_same : (a b c : ℕ) → a < b → b ≡ c → a ≤ c
    less_same a b c lt e = omega arith

    -- what is given comes before the new nodes
    given_before : (j m : ℕ) → IsNew g n m → IsGiven n env j ⊎ (IsNew g n j × (x.built.place j < x.built.place m)) → rank j < rank m
    given_before j m new c = elim c [
      | inl given ↦ elim given [
        | inl rd ↦
            let h = x.scope j rd in
            old_new j m (named_lives g height f w j x.live (inr (inr h))) new (less_same (o j) (o w) (o w) (f.order.held w j x.live h) refl)
        | inr s ↦ elim (whence j s.0) [
          | inl lj ↦
              let was : is_source (g.kind j) ≡ true = ap is_source (sym (x.kind j lj s.0)) ∙ s.1 in
              old_new j m lj new (less_same (o j) (o w) (o w) (f.order.sources j w lj x.live was (watch_no_source (g.kind w) x.watches)) refl)
          | inr nj ↦ both_bools (is_source (n.kind j)) s.1 (x.built.no_source j nj)
        ]
      ]
      | inr nj ↦ new_new j m nj.0 new nj.1
    ]

    watch_before : o w < o r
    watch_before = f.order.before_result w w x.live x.live x.watches (inl refl)

    -- what the result reads comes before it
    read_before : (j : ℕ) → Reads j (n.inputs r) → rank j < rank r
    read_before j rd =
        let s = (read j rd).0 in
        elim (whence j s.live) [
          | inr nj ↦ new_old j r nj result_lives watch_before
          | inl lj ↦ old_old j r lj result_lives (elim s.where_from [
            | inl e ↦ absurd (outside j s.live (here j lj (sym (x.era j lj s.live) ∙ e)))
            | inr more ↦ elim more [
              | inl h ↦
                  let same : h.0 ≡ w = sym (suc_same w h.0 h.1) in
                  let held : Holds j (g.kind w) = subst (Holds j) (ap n.kind same ∙ x.kind w x.live watch_stays) h.3 in
                  let a : o j < o w = f.order.held w j x.live held in
                  let b : o w < o r = watch_before in
                  omega arith
              | inr from_source ↦
                  f.order.sources j r lj result_lives (ap is_source (sym (x.kind j lj s.live)) ∙ from_source) (result_no_source (g.kind r) result_is)
            ]
          ])
        ]

    pub order_on : HasOrder n
    order_on = record {
      rank = rank;
      input = λ m j nl rd. elim (whence m nl) [
        | inl lv ↦ elim (by_number m r) [
          | inl e ↦ subst (λ (i : ℕ). rank j < rank i) (sym e) (read_before j (subst (λ (i : ℕ). Reads j (n.inputs i)) e rd))
          | inr ne ↦
              let was : Reads j (g.inputs m) = subst (Reads j) (x.inputs m lv nl ne) rd in
              old_old j m (named_lives g height f m j lv (inl was)) lv (f.order.input m j lv was)
        ]
        | inr new ↦ given_before j m new ((x.built.behind m new).inputs j rd)
      ];
      held = λ m j nl h. elim (whence m nl) [
        | inl lv ↦
            let was : Holds j (g.kind m) = subst (Holds j) (x.kind m lv nl) h in
            old_old j m (named_lives g height f m j lv (inr (inr was))) lv (f.order.held m j lv was)
        | inr new ↦ given_before j m new ((x.built.behind m new).held j h)
      ];
      owner = λ m v nl er. elim (whence m nl) [
        | inl lv ↦
            let was : g.era m ≡ suc v = sym (x.era m lv nl) ∙ er in
            old_old v m (f.members.owner m v lv was).0 lv (f.order.owner m v lv was)
        | inr new ↦
            let e : w ≡ v = suc_same w v (sym (x.built.era m new) ∙ er) in
            subst (λ (i : ℕ). rank i < rank m) e (old_new w m x.live new (le_same (o w)))
      ];
      before_result = λ m v nm nv is c. elim (whence v nv) [
        | inl lv ↦
            let was = was_watch v lv nv is in
            subst (λ (i : ℕ). rank m < rank i) (sym (x.result_of v lv nv was)) (before_old m v nm lv nv was c)
        | inr new ↦ elim c [
          | inl e ↦
              let s = x.built.results v new is in
              subst (λ (i : ℕ). rank i < rank (n.result_of v)) (sym e) (new_new v (n.result_of v) new s.0 s.2)
          | inr er ↦ elim (whence m nm) [
            | inl lm ↦ both_bools (g.live v) (f.members.owner m v lm (sym (x.era m lm nm) ∙ er)).0 new.0
            | inr new_m ↦ both_bools (g.live v) (subst (λ (i : ℕ). g.live i ≡ true) (suc_same w v (sym (x.built.era m new_m) ∙ er)) x.live) new.0
          ]
        ]
      ];
      sources = λ s m ns nm is off. elim (whence s ns) [
        | inr new ↦ both_bools (is_source (n.kind s)) is (x.built.no_source s new)
        | inl ls ↦
            let was : is_source (g.kind s) ≡ true = ap is_source (sym (x.kind s ls ns)) ∙ is in
            elim (whence m nm) [
              | inl lm ↦ old_old s m ls lm (f.order.sources s m ls lm was (ap is_source (sym (x.kind m lm nm)) ∙ off))
              | inr new ↦ old_new s m ls new (less_same (o s) (o w) (o w) (f.order.sources s w ls x.live was (watch_no_source (g.kind w) x.watches)) refl)
            ]
      ];
    }
      where
        le_same : (a : ℕ) → a ≤ a
        le_same a = omega arith

        before_old : (m v : ℕ) → n.live m ≡ true → g.live v ≡ true → n.live v ≡ true → is_watch (g.kind v) ≡ true → (m ≡ v) ⊎ (n.era m ≡ suc v) → rank m < rank (g.result_of v)
        before_old m v nm lv nv is c = elim c [
          | inl e ↦ subst (λ (i : ℕ). rank i < rank (g.result_of v)) (sym e) (old_old v (g.result_of v) lv (f.results.live v lv is) (f.order.before_result v v lv lv is (inl refl)))
          | inr er ↦ elim (whence m nm) [
            | inl lm ↦ old_old m (g.result_of v) lm (f.results.live v lv is) (f.order.before_result m v lm lv is (inr (sym (x.era m lm nm) ∙ er)))
            | inr new ↦
                let e : w ≡ v = suc_same w v (sym (x.built.era m new) ∙ er) in
                subst (λ (i : ℕ). rank m < rank (g.result_of i)) e (new_old m r new result_lives watch_before)
          ]
        ]
