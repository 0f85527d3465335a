-- The items of a body: their nodes are their sites, and what is spent is within their cost.
use Rattle.std.proofs.Common.{◌≡◌, ◌≢◌, ◌≤◌, ◌+◌, ℕ, suc, Bool, true, false, List, [], ◌∷◌, ◌++◌, map, length, refl, ap, sym, ◌∙◌, subst, arith, sum_by, Option, ◌⊎◌, inl, inr}
use Rattle.std.proofs.lemmas.List.{length_push, map-append}
use Rattle.std.proofs.lemmas.List.Sums.{sum_by-cons}
use Rattle.fr_value.specs.declared.now.Now.{Now}
use Rattle.fr_links.specs.Lists.{has_item}
use Rattle.fr_links.proofs.Has.{by_number, here, there, has_append_left}
use Rattle.fr_core.specs.declared.kept.Kept.{Kept}
use Rattle.fr_core.specs.declared.kept.Kept.TheVariants as kept
use Rattle.fr_core.specs.declared.lowered.LowItem.{LowItem}
use Rattle.fr_core.specs.declared.lowered.LowItem.TheVariants as low_item
use Rattle.fr_core.specs.declared.program.Program.{Program}
use Rattle.fr_meaning.specs.Words.{Env}
use Rattle.fr_meaning.specs.Cells.{Cell, child}
use Rattle.fr_meaning.specs.Evaluation.{world_of, Ev, eval_to}
use Rattle.fr_meaning.specs.Afresh.{items, body}
use Rattle.fr_kernel.specs.Erasure.{erase, erased_item}
use Rattle.fr_kernel.specs.Kernels.{Kernels}
use Rattle.fr_graph.specs.Graph.{Part, Graph, steady, signal, Work, Kind, source, works, watch, result}
use Rattle.fr_graph.specs.Walk.{Plan, Walk, place}
use Rattle.fr_graph.specs.Wired.{Wired}
use Rattle.fr_graph.specs.Keeps.{Asked, Keeps, asks_nothing, everything}
use Rattle.fr_graph.specs.Known.{IsClosed, Have, SettledOn, ErasStandOn, AllKnown}
use Rattle.fr_graph.specs.Sound.{IsPlanOf, KernelsMean}
use Rattle.std.proofs.lemmas.Bool.{false≢true}
use Rattle.fr_graph.specs.Goes.{Goes, IsEmpty}
use Rattle.fr_graph.specs.Items.{ItemsStand, ItemsKeep, ItemsSound, AreLowered, body_walk, HasNodes, StandsForTree, IsSettled, IsUnderWay}
use Rattle.fr_graph.proofs.Parts.{have_append}
use Rattle.fr_graph.proofs.Means.{kernels_mean}
use Rattle.fr_graph.proofs.Values.{AgreesAt, values_on}
use Rattle.fr_graph.proofs.Items.{items_carry, items_begin}
use Rattle.fr_sums.specs.Sites.{Site, of_source, Setting, Scope, varies, sites, when, items_sites, source_sites, body_sites}
use Rattle.fr_sums.specs.Along.{along, add_items, all_entered}
use Rattle.fr_sums.specs.Members.{sum_live, is_watch, site_of, AreMembers, AreSources, HasProgramEra, AddsNothingElse}
use Rattle.fr_sums.specs.Spent.{setting_of, built, Paid, choice_built, spent_at, fuel_spent, is_work, PaysAtMost, PaysAll, cost_at, PaysWhatIsKnown, choice_to_build, PaysWhileBuilding}
use Rattle.fr_sums.proofs.Eras.{sum_along}
use Rattle.fr_sums.proofs.Counts.{marks_of, mark_of, CountsAt, counts_on}
use Rattle.fr_sums.proofs.Costs.{Measures, CostsAt, costs_on, when_none, apart}

module _ (g : Graph) (p : Plan) (pr : Program) (plan : IsPlanOf pr p) (sources : List Now) (before : ℕ → Option Cell) (rules : SettledOn g everything p.table sources before) (eras : ErasStandOn g everything p) where
  means : KernelsMean p pr sources
  means = kernels_mean pr p sources plan

  closed : IsClosed g everything
  closed = record { input = λ m j a b c. tt; watched = λ w a b env lv is kn. tt }

  abbrev t : Kernels
  t = p.table

  abbrev s : Setting
  s = setting_of pr p sources

  abbrev old : Asked
  old = record { known = everything; cell = before; asks = asks_nothing }

  module _ (n : ℕ) (few : n ≤ 2001) where
    abbrev walk : Walk
    walk = place p n

    abbrev ev : Ev
    ev = eval_to n (world_of pr sources)

    values : AgreesAt g everything p pr plan sources before closed rules eras means n
    values = values_on g everything p pr plan sources before closed rules eras means n few

    module _ (weigh : Site → ℕ) where
      abbrev weight : ℕ → ℕ
      weight m = weigh (site_of (g.kind m))

      abbrev scope : List Part → Env → Scope
      scope env vs = record { varies = marks_of env; values = vs }

      counts : CountsAt g p pr plan sources before rules eras means weigh n
      counts = counts_on g p pr plan sources before rules eras means weigh n few

      items_count : (is : List LowItem) (x i : ℕ) (env : List Part) (vs : Env) (ms : List ℕ) (k : Kept) → ItemsSound t (length env) is → Have g everything env vs
          → ItemsStand walk (Wired g p x n) env is ms → ItemsKeep walk (Keeps g p old n) env i is ms k
          → add_items walk (along g p all_entered weight n) env is ms ≡ items_sites s weigh n (scope env vs) k i is
      items_count [] x i env vs ms k sound en st kp = refl
      items_count (low_item.Define e ∷ is) x i env vs ms k sound en st kp =
          let r = values e x env vs ms (child k i) sound.0 en st.0 kp.0 in
          let c = counts e x env vs ms (child k i) sound.0 en st.0 kp.0 in
          let part = (walk e env ms).part in
          let v = (ev (erase t.kernels e) vs (child k i)).value in
          let marked : marks_of (env ++ part ∷ []) ≡ marks_of env ++ varies s n e (scope env vs) (child k i) ∷ [] = map-append mark_of env (part ∷ []) ∙ ap (λ b. marks_of env ++ b ∷ []) c.0 in
          let rest = items_count is x (i + 1) (env ++ part ∷ []) (vs ++ v ∷ []) (walk e env ms).left k (subst (λ m. ItemsSound t m is) (sym (length_push env part)) sound.1)
          (have_append g everything env vs (part ∷ []) (v ∷ []) en (r, tt)) st.1 kp.1 in
          ap (λ a. a + add_items walk (along g p all_entered weight n) (env ++ part ∷ []) is (walk e env ms).left) c.1
          ∙ ap (λ a. sites s weigh n e (scope env vs) (child k i) + a) (rest ∙ ap (λ bs. items_sites s weigh n (record { varies = bs; values = vs ++ v ∷ [] }) k (i + 1) is) marked)
      items_count (low_item.Show name e ∷ is) x i env vs ms k sound en st kp =
          let c = counts e x env vs ms (child k i) sound.0 en st.0 kp.0 in
          ap (λ a. a + add_items walk (along g p all_entered weight n) env is (walk e env ms).left) c.1
          ∙ ap (λ a. sites s weigh n e (scope env vs) (child k i) + a) (items_count is x (i + 1) env vs (walk e env ms).left k sound.1 en st.1 kp.1)

module _ (R : ℕ → ℕ → Type 0) (g : Graph) (known : ℕ → Bool) (p : Plan) (pr : Program) (plan : IsPlanOf pr p) (sources : List Now) (before : ℕ → Option Cell) (closed : IsClosed g (λ m. known m ≡ true))
    (rules : SettledOn g (λ m. known m ≡ true) p.table sources before) (eras : ErasStandOn g (λ m. known m ≡ true) p) (q : Paid) (pays : Measures R g known p before q) (n : ℕ) (few : n ≤ 2001) where
  abbrev K : ℕ → Type 0
  K m = known m ≡ true

  abbrev now : Asked
  now = record { known = K; cell = before; asks = asks_nothing }

  abbrev walking : Walk
  walking = place p n

  abbrev evaluating : Ev
  evaluating = eval_to n (world_of pr sources)

  kernels : KernelsMean p pr sources
  kernels = kernels_mean pr p sources plan

  values_known : AgreesAt g K p pr plan sources before closed rules eras kernels n
  values_known = values_on g K p pr plan sources before closed rules eras kernels n few

  costs : CostsAt R g known p pr plan sources before closed rules eras kernels q pays n
  costs = costs_on R g known p pr plan sources before closed rules eras kernels q pays n few

  abbrev spent : ℕ → ℕ
  spent m = spent_at g p q m

  items_cost : (is : List LowItem) (x i : ℕ) (env : List Part) (vs : Env) (ms : List ℕ) (k : Kept) → ItemsSound p.table (length env) is → Have g K env vs
      → ItemsStand walking (Wired g p x n) env is ms → ItemsKeep walking (Keeps g p now n) env i is ms k
      → R (add_items walking (along g p known spent n) env is ms + when (q.begun x) (add_items walking (built p n) env is ms)) (items evaluating vs k i (map (erased_item p.table.kernels) is)).cost
  items_cost [] x i env vs ms k sound en st kp = let e = when_none (q.begun x) in let z : 0 ≡ 0 + when (q.begun x) 0 = omega (arith, e) in subst (λ a. R a 0) z pays.sums.none
  items_cost (low_item.Define e ∷ is) x i env vs ms k sound en st kp =
      let r = values_known e x env vs ms (child k i) sound.0 en st.0 kp.0 in
      let part = (walking e env ms).part in
      let d = evaluating (erase p.table.kernels e) vs (child k i) in
      let here = costs e x env vs ms (child k i) sound.0 en st.0 kp.0 in
      let rest = items_cost is x (i + 1) (env ++ part ∷ []) (vs ++ d.value ∷ []) (walking e env ms).left k (subst (λ m. ItemsSound p.table m is) (sym (length_push env part)) sound.1)
      (have_append g K env vs (part ∷ []) (d.value ∷ []) en (r, tt)) st.1 kp.1 in
      subst (λ a. R a (d.cost + (items evaluating (vs ++ d.value ∷ []) k (i + 1) (map (erased_item p.table.kernels) is)).cost)) (apart (q.begun x) _ _ _ _) (pays.sums.both _ _ _ _ here rest)
  items_cost (low_item.Show name e ∷ is) x i env vs ms k sound en st kp =
      let d = evaluating (erase p.table.kernels e) vs (child k i) in
      let here = costs e x env vs ms (child k i) sound.0 en st.0 kp.0 in
      let rest = items_cost is x (i + 1) env vs (walking e env ms).left k sound.1 en st.1 kp.1 in
      subst (λ a. R a (d.cost + (items evaluating vs k (i + 1) (map (erased_item p.table.kernels) is)).cost)) (apart (q.begun x) _ _ _ _) (pays.sums.both _ _ _ _ here rest)

-- the nodes of sources count as these
sources_weigh : (g : Graph) (weigh : Site → ℕ) (i : ℕ) (ms : List ℕ) → AreSources g i ms → sum_by (λ m. weigh (site_of (g.kind m))) ms ≡ source_sites weigh i (length ms)
sources_weigh g weigh i [] h = refl
sources_weigh g weigh i (m ∷ ms) h =
    sum_by-cons (λ m. weigh (site_of (g.kind m))) m ms
    ∙ ap (λ j. weigh (site_of j) + sum_by (λ m. weigh (site_of (g.kind m))) ms) h.0
    ∙ ap (λ a. weigh (of_source i) + a) (sources_weigh g weigh (i + 1) ms h.1)

-- nothing is spent at them
sources_free : (g : Graph) (p : Plan) (q : Paid) → ((m : ℕ) → g.live m ≡ true → is_work (g.kind m) ≡ false → is_watch (g.kind m) ≡ false → q.node m ≡ 0) → (i : ℕ) (ms : List ℕ) → AreSources g i ms
    → ((m : ℕ) → has_item ms m ≡ true → g.live m ≡ true) → sum_by (spent_at g p q) ms ≡ 0
sources_free g p q other i [] h live = refl
sources_free g p q other i (m ∷ ms) h live =
    let none : q.node m ≡ 0 = other m (live m (here m ms)) (ap is_work h.0) (ap is_watch h.0) in
    let building : when (q.begun (suc m)) (choice_built g p m (g.kind m)) ≡ 0 = ap (λ j. when (q.begun (suc m)) (choice_built g p m j)) h.0 ∙ when_none (q.begun (suc m)) in
    let rest : sum_by (spent_at g p q) ms ≡ 0 = sources_free g p q other (i + 1) ms h.1 (λ j e. live j (there m j ms e)) in
    let opens : sum_by (spent_at g p q) (m ∷ ms) ≡ q.node m + when (q.begun (suc m)) (choice_built g p m (g.kind m)) + sum_by (spent_at g p q) ms = sum_by-cons (spent_at g p q) m ms in
    omega (arith, none, building, rest, opens)

when_less : (b : Bool) (c : ℕ) → when b c ≤ c
when_less true c = omega arith
when_less false c = omega arith

watch_no_work : (k : Kind) → is_watch k ≡ true → is_work k ≡ false
watch_no_work (source s) e = refl
watch_no_work (works w) e = absurd (false≢true e)
watch_no_work (watch a b env) e = refl
watch_no_work result e = refl

-- where some nodes are known, over a tree that has the cells before
module _ (g : Graph) (known : ℕ → Bool) (pr : Program) (p : Plan) (is : List LowItem) (ms firsts : List ℕ) (bound : ℕ) (sources : List Now) (before : ℕ → Option Cell) (k : Kept)
    (lowered : AreLowered pr p is) (way : IsUnderWay g (λ m. known m ≡ true) p is ms sources before) (members : AreMembers g bound) (program : HasProgramEra g p is firsts ms)
    (kp : ItemsKeep (body_walk p) (Keeps g p (record { known = λ m. known m ≡ true; cell = before; asks = asks_nothing }) 2000) [] 0 is ms k) where
  spending : (R : ℕ → ℕ → Type 0) (q : Paid) → Measures R g known p before q → AddsNothingElse g known (spent_at g p q) → R (fuel_spent g p q bound is ms) (body pr sources k).cost
  spending R q pays outside =
      let few : 2000 ≤ 2001 = omega arith in
      let sum : sum_live g bound (spent_at g p q) ≡ sum_by (spent_at g p q) firsts + add_items (body_walk p) (along g p known (spent_at g p q) 2000) [] is ms
      = sum_along g p known (spent_at g p q) is bound firsts ms way.eras members outside program way.items in
      let none : sum_by (spent_at g p q) firsts ≡ 0
      = sources_free g p q (λ m lv no_work no_watch. pays.other m lv no_work (inl no_watch)) 0 firsts program.first (λ m h. (members.only 0 m (subst (λ l. has_item l m ≡ true) (sym program.members) (has_append_left firsts ms m h))).0) in
      let same : add_items (body_walk p) (along g p known (spent_at g p q) 2000) [] is ms + when (q.begun 0) (add_items (body_walk p) (built p 2000) [] is ms) ≡ fuel_spent g p q bound is ms = omega (arith, sum, none) in
      subst (λ a. R a (body pr sources k).cost) same
      (subst (λ b. R (add_items (body_walk p) (along g p known (spent_at g p q) 2000) [] is ms + when (q.begun 0) (add_items (body_walk p) (built p 2000) [] is ms)) (items (eval_to 2000 (world_of pr sources)) [] k 0 b).cost) (sym lowered.items)
      (items_cost R g known p pr lowered.plan sources before way.closed way.rules way.eras q pays 2000 few is 0 0 [] [] ms k lowered.sound tt way.items kp))

  module _ (q : Paid) where
    by_paid : (m : ℕ) (w : Work) (c : ℕ) → (AllKnown (λ j. known j ≡ true) (g.inputs m) → cost_at g p before m w ≡ c)
        → (q.node m ≡ 0) ⊎ (AllKnown (λ j. known j ≡ true) (g.inputs m) × (q.node m ≤ cost_at g p before m w)) → q.node m ≤ c
    by_paid m w c costs h = elim h [
      | inl none ↦ omega (arith, none)
      | inr paid ↦ let e = costs paid.0 in omega (arith, paid.1, e)
    ]

    spent_outside : (m : ℕ) → q.node m ≡ 0 → q.begun (suc m) ≡ false → spent_at g p q m ≡ 0
    spent_outside m none begun = let building : when (q.begun (suc m)) (choice_built g p m (g.kind m)) ≡ 0 = ap (λ b. when b (choice_built g p m (g.kind m))) begun in omega (arith, none, building)

    -- AN INSTANT UNDER WAY has spent no more than evaluating afresh costs.
    pub spends_under_way : PaysWhatIsKnown g known p before q → fuel_spent g p q bound is ms ≤ (body pr sources k).cost
    spends_under_way pays = spending (λ a b. a ≤ b) q
        (record {
          sums = record { none = omega arith; both = λ a b c d h e. omega (arith, h, e) };
          work = λ m w c live kind costs. by_paid m w c costs (pays.work m w live kind);
          other = λ m lv no_work side. pays.other m lv no_work;
          building = λ x c. when_less (q.begun x) c;
          unbegun = pays.begun;
          unknown = λ w c h lv iw most. let none = pays.other w lv (watch_no_work (g.kind w) iw) in omega (arith, none);
        })
        (record { outside = λ w m h e. let o = pays.outside w m h e in (spent_outside m o.0 (pays.begun m o.1), o.1) })

    -- So it has while the choice of a watch is being built.
    pub spends_while_building : (w : ℕ) → PaysWhileBuilding g known p before q w → fuel_spent g p q bound is ms ≤ (body pr sources k).cost
    spends_while_building w pays = spending (λ a b. a ≤ b) q
        (record {
          sums = record { none = omega arith; both = λ a b c d h e. omega (arith, h, e) };
          work = λ m v c live kind costs. by_paid m v c costs (pays.work m v live kind);
          other = λ m lv no_work side. pays.other m lv no_work (another m side);
          building = λ x c. when_less (q.begun x) c;
          unbegun = pays.begun;
          unknown = λ m c h lv iw most. elim (by_number m w) [
            | inl e ↦ subst (λ i. q.node i ≤ c) (sym e) (let l = subst (λ i. (ns : List ℕ) → AllKnown (λ j. known j ≡ true) (g.inputs i) → choice_to_build g p (g.level i) ns (g.kind i) (g.inputs i) ≤ c) e most pays.building.members pays.building.test in
                let paid = pays.building.most in omega (arith, l, paid))
            | inr ne ↦ let none = pays.other m lv (watch_no_work (g.kind m) iw) ne in omega (arith, none)
          ];
        })
        (record { outside = λ v m h e. let o = pays.outside v m h e in (spent_outside m o.0 (pays.begun m o.1), o.1) })
      where
        another : (m : ℕ) → (is_watch (g.kind m) ≡ false) ⊎ (known m ≡ true) → m ≢ w
        another m side e = elim side [
          | inl no_watch ↦ false≢true (sym (subst (λ i. is_watch (g.kind i) ≡ false) e no_watch) ∙ pays.building.watches)
          | inr kn ↦ false≢true (sym pays.building.unknown ∙ subst (λ i. known i ≡ true) e kn)
        ]

-- where every node is known, all are, and none stands outside
all_known : (ps : List Part) → AllKnown (λ j. all_entered j ≡ true) ps
all_known [] = tt
all_known (steady v ∷ ps) = (tt, all_known ps)
all_known (signal m ∷ ps) = (refl, all_known ps)

none_outside : (g : Graph) (f : ℕ → ℕ) → AddsNothingElse g all_entered f
none_outside g f = record { outside = λ w m h. absurd (false≢true (sym h)) }

all_eras : (g : Graph) (p : Plan) → ErasStandOn g everything p → ErasStandOn g (λ m. all_entered m ≡ true) p
all_eras g p eras = λ w a b env kn. eras w a b env tt

settled_way : (g : Graph) (p : Plan) (is : List LowItem) (ms : List ℕ) (sources : List Now) (before : ℕ → Option Cell) → HasNodes g p is ms → IsSettled g p sources before → IsUnderWay g (λ m. all_entered m ≡ true) p is ms sources before
settled_way g p is ms sources before has settled = record {
  items = has.items;
  closed = record { input = λ m j a b c. refl; watched = λ w a b env lv is kn. refl };
  rules = λ m kn. settled.rules m tt;
  eras = all_eras g p has.eras;
}

-- at the end of an instant
module _ (g : Graph) (pr : Program) (p : Plan) (is : List LowItem) (ms firsts : List ℕ) (bound : ℕ) (sources : List Now) (before : ℕ → Option Cell) (k : Kept)
    (lowered : AreLowered pr p is) (has : HasNodes g p is ms) (settled : IsSettled g p sources before) (members : AreMembers g bound) (program : HasProgramEra g p is firsts ms) where
  -- THE LIVE NODES are the sites of evaluating afresh.
  pub live_sites : (weigh : Site → ℕ) → ItemsKeep (body_walk p) (Keeps g p (record { known = everything; cell = before; asks = asks_nothing }) 2000) [] 0 is ms k
      → sum_live g bound (λ m. weigh (site_of (g.kind m))) ≡ body_sites (setting_of pr p sources) weigh (length firsts) is k
  live_sites weigh kp =
      let few : 2000 ≤ 2001 = omega arith in
      sum_along g p all_entered (λ m. weigh (site_of (g.kind m))) is bound firsts ms (all_eras g p has.eras) members (none_outside g (λ m. weigh (site_of (g.kind m)))) program has.items
      ∙ ap (λ a. a + add_items (body_walk p) (along g p all_entered (λ m. weigh (site_of (g.kind m))) 2000) [] is ms) (sources_weigh g weigh 0 firsts program.first)
      ∙ ap (λ a. source_sites weigh 0 (length firsts) + a) (items_count g p pr lowered.plan sources before settled.rules has.eras 2000 few weigh is 0 0 [] [] ms k lowered.sound tt has.items kp)

  module _ (kp : ItemsKeep (body_walk p) (Keeps g p (record { known = λ m. all_entered m ≡ true; cell = before; asks = asks_nothing }) 2000) [] 0 is ms k) (q : Paid) where
    -- WHAT IS SPENT is at most what evaluating afresh costs.
    pub spends_at_most : PaysAtMost g p before q → fuel_spent g p q bound is ms ≤ (body pr sources k).cost
    spends_at_most pays = spending g all_entered pr p is ms firsts bound sources before k lowered (settled_way g p is ms sources before has settled) members program kp (λ a b. a ≤ b) q
        (record {
          sums = record { none = omega arith; both = λ a b c d h e. omega (arith, h, e) };
          work = λ m w c live kind costs. let e = costs (all_known (g.inputs m)) in let paid = pays.work m w live kind in omega (arith, e, paid);
          other = λ m lv no_work side. pays.other m lv no_work;
          building = λ x c. when_less (q.begun x) c;
          unbegun = λ w h. absurd (false≢true (sym h));
          unknown = λ w c h lv iw most. absurd (false≢true (sym h));
        })
        (none_outside g (spent_at g p q))

    -- It is exactly that where each node was computed and each era begun.
    pub spends_all : PaysAll g p before q → fuel_spent g p q bound is ms ≡ (body pr sources k).cost
    spends_all pays = spending g all_entered pr p is ms firsts bound sources before k lowered (settled_way g p is ms sources before has settled) members program kp (λ a b. a ≡ b) q
        (record {
          sums = record { none = refl; both = λ a b c d h e. omega (arith, h, e) };
          work = λ m w c live kind costs. pays.work m w live kind ∙ costs (all_known (g.inputs m));
          other = λ m lv no_work side. pays.other m lv no_work;
          building = λ x c. ap (λ b. when b c) (pays.begun x);
          unbegun = λ w h. absurd (false≢true (sym h));
          unknown = λ w c h lv iw most. absurd (false≢true (sym h));
        })
        (none_outside g (spent_at g p q))

-- the trees of the first instant, and of each further one

pub first_keeps : (was g : Graph) (p : Plan) (known : ℕ → Type 0) (is : List LowItem) (ms : List ℕ) (before : ℕ → Option Cell) → IsEmpty was → Goes was g before → ErasStandOn g known p
    → ItemsStand (body_walk p) (Wired g p 0 2000) [] is ms → ItemsKeep (body_walk p) (Keeps g p (record { known = known; cell = before; asks = asks_nothing }) 2000) [] 0 is ms kept.Nothing
first_keeps was g p known is ms before empty go eras items = items_begin was g p known before go eras 2000 0 empty is 0 [] ms items

pub next_keeps : (was g : Graph) (p : Plan) (known : ℕ → Type 0) (is : List LowItem) (ms : List ℕ) (before : ℕ → Option Cell) (k : Kept) → Goes was g before → HasNodes was p is ms → ErasStandOn g known p
    → ItemsStand (body_walk p) (Wired g p 0 2000) [] is ms → StandsForTree was p is ms k → ItemsKeep (body_walk p) (Keeps g p (record { known = known; cell = before; asks = asks_nothing }) 2000) [] 0 is ms k
next_keeps was g p known is ms before k go had eras items stood = items_carry was g p known before go eras had.eras 2000 is 0 0 [] ms k had.items items stood

-- at an instant's end, where all are known

pub first_keeps_all : (was g : Graph) (p : Plan) (is : List LowItem) (ms : List ℕ) (before : ℕ → Option Cell) → IsEmpty was → Goes was g before → HasNodes g p is ms
    → ItemsKeep (body_walk p) (Keeps g p (record { known = λ m. all_entered m ≡ true; cell = before; asks = asks_nothing }) 2000) [] 0 is ms kept.Nothing
first_keeps_all was g p is ms before empty go has = first_keeps was g p (λ m. all_entered m ≡ true) is ms before empty go (all_eras g p has.eras) has.items

pub next_keeps_all : (was g : Graph) (p : Plan) (is : List LowItem) (ms : List ℕ) (before : ℕ → Option Cell) (k : Kept) → Goes was g before → HasNodes was p is ms → HasNodes g p is ms → StandsForTree was p is ms k
    → ItemsKeep (body_walk p) (Keeps g p (record { known = λ m. all_entered m ≡ true; cell = before; asks = asks_nothing }) 2000) [] 0 is ms k
next_keeps_all was g p is ms before k go had has stood = next_keeps was g p (λ m. all_entered m ≡ true) is ms before k go had (all_eras g p has.eras) has.items stood
