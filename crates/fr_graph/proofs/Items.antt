-- The items of a body in a graph, from one instant to the next.
use Rattle.std.proofs.Common.{◌≡◌, ◌≤◌, ◌+◌, ℕ, List, [], ◌∷◌, ◌++◌, map, length, refl, ap, sym, ◌∙◌, subst, append_assoc, arith, Option, None}
use Rattle.std.proofs.lemmas.List.{length_push}
use Rattle.fr_value.specs.declared.now.Now.{Now}
use Rattle.fr_core.specs.declared.kept.Kept.{Kept}
use Rattle.fr_core.specs.declared.kept.Kept.TheVariants as kept
use Rattle.fr_core.specs.declared.lowered.LowItem.{LowItem}
use Rattle.fr_core.specs.declared.lowered.LowItem.TheVariants as low_item
use Rattle.fr_core.specs.declared.program.Program.{Program}
use Rattle.fr_meaning.specs.Words.{Env, under}
use Rattle.fr_meaning.specs.Cells.{Cell, child}
use Rattle.fr_meaning.specs.Evaluation.{world_of, Ev, eval_to}
use Rattle.fr_meaning.specs.Afresh.{items}
use Rattle.fr_kernel.specs.Erasure.{erase, erased_item}
use Rattle.fr_kernel.specs.Kernels.{Kernels}
use Rattle.fr_graph.specs.Graph.{Part, Graph}
use Rattle.fr_graph.specs.Walk.{Plan, Walk, place}
use Rattle.fr_graph.specs.Wired.{Wired}
use Rattle.fr_graph.specs.Keeps.{Asked, Keeps, asks_nothing, everything, StandsFor}
use Rattle.fr_graph.specs.Known.{IsClosed, Have, SettledOn, ErasStandOn, HasEnded}
use Rattle.fr_graph.specs.Sound.{IsPlanOf, KernelsMean}
use Rattle.fr_graph.specs.Goes.{Goes, IsEmpty}
use Rattle.fr_graph.specs.Items.{place_items, ItemsStand, ItemsKeep, ItemsSound, AreLowered, body_walk, HasNodes, StandsForTree, IsSettled, IsAfresh}
use Rattle.fr_graph.proofs.Parts.{have_append}
use Rattle.fr_graph.proofs.Means.{kernels_mean}
use Rattle.fr_graph.proofs.Values.{AgreesAt, values_on}
use Rattle.fr_graph.proofs.Calls.{both_none, under_none}
use Rattle.fr_graph.proofs.Clean.{AllGood, good_append, errless_on}
use Rattle.fr_graph.proofs.Trees.{StandsAt, trees_on, next_child}
use Rattle.fr_graph.proofs.Carry.{carry, born_at, child_none}

module _ (g : Graph) (p : Plan) (pr : Program) (plan : IsPlanOf pr p) (sources : List Now) (before : ℕ → Option Cell) (rules : SettledOn g everything p.table sources before) (eras : ErasStandOn g everything p) (ended : HasEnded g) where
  means : KernelsMean p pr sources
  means = kernels_mean pr p sources plan

  closed : IsClosed g everything
  closed = record { input = λ m j a b c. tt; watched = λ w a b env lv k kn. tt }

  abbrev t : Kernels
  t = p.table

  abbrev old : Asked
  old = record { known = everything; cell = before; asks = asks_nothing }

  module _ (n : ℕ) (few : n ≤ 2001) where
    abbrev walk : Walk
    walk = place p n

    abbrev ev : Ev
    ev = eval_to n (world_of pr sources)

    values : AgreesAt g everything p pr plan sources before closed rules eras means n
    values = values_on g everything p pr plan sources before closed rules eras means n few

    trees : StandsAt g p pr plan sources before rules eras means ended n
    trees = trees_on g p pr plan sources before rules eras means ended n few

    pub items_show : (is : List LowItem) (x i : ℕ) (env : List Part) (vs : Env) (ms : List ℕ) (k : Kept) → ItemsSound t (length env) is → Have g everything env vs
        → ItemsStand walk (Wired g p x n) env is ms → ItemsKeep walk (Keeps g p old n) env i is ms k
        → Have g everything (place_items walk env is ms).parts (items ev vs k i (map (erased_item t.kernels) is)).shown
    items_show [] x i env vs ms k s en st kp = tt
    items_show (low_item.Define e ∷ is) x i env vs ms k s en st kp =
        let r = values e x env vs ms (child k i) s.0 en st.0 kp.0 in
        let part = (walk e env ms).part in
        items_show is x (i + 1) (env ++ part ∷ []) (vs ++ _ ∷ []) (walk e env ms).left k (subst (λ m. ItemsSound t m is) (sym (length_push env part)) s.1) (have_append g everything env vs (part ∷ []) (_ ∷ []) en (r, tt)) st.1 kp.1
    items_show (low_item.Show name e ∷ is) x i env vs ms k s en st kp =
        (values e x env vs ms (child k i) s.0 en st.0 kp.0, items_show is x (i + 1) env vs (walk e env ms).left k s.1 en st.1 kp.1)

    pub items_keep : (is : List LowItem) (x i : ℕ) (env : List Part) (vs : Env) (ms : List ℕ) (k : Kept) (pre : List Kept) → length pre ≡ i → ItemsSound t (length env) is → Have g everything env vs
        → ItemsStand walk (Wired g p x n) env is ms → ItemsKeep walk (Keeps g p old n) env i is ms k
        → ItemsKeep walk (StandsFor g p n) env i is ms (kept.Group (pre ++ (items ev vs k i (map (erased_item t.kernels) is)).kepts))
    items_keep [] x i env vs ms k pre len s en st kp = tt
    items_keep (low_item.Define e ∷ is) x i env vs ms k pre len s en st kp =
        let r = values e x env vs ms (child k i) s.0 en st.0 kp.0 in
        let part = (walk e env ms).part in
        let d = ev (erase t.kernels e) vs (child k i) in
        let more = (items ev (vs ++ d.value ∷ []) k (i + 1) (map (erased_item t.kernels) is)).kepts in
        let rest = items_keep is x (i + 1) (env ++ part ∷ []) (vs ++ d.value ∷ []) (walk e env ms).left k (pre ++ d.kept ∷ []) (length_push pre d.kept ∙ ap (λ j. j + 1) len)
        (subst (λ m. ItemsSound t m is) (sym (length_push env part)) s.1) (have_append g everything env vs (part ∷ []) (d.value ∷ []) en (r, tt)) st.1 kp.1 in (
          subst (StandsFor g p n e env ms) (sym (next_child pre d.kept more i len)) (trees e x env vs ms (child k i) s.0 en st.0 kp.0),
          subst (λ l. ItemsKeep walk (StandsFor g p n) (env ++ part ∷ []) (i + 1) is (walk e env ms).left (kept.Group l)) (append_assoc pre (d.kept ∷ []) more) rest,
        )
    items_keep (low_item.Show name e ∷ is) x i env vs ms k pre len s en st kp =
        let d = ev (erase t.kernels e) vs (child k i) in
        let more = (items ev vs k (i + 1) (map (erased_item t.kernels) is)).kepts in
        let rest = items_keep is x (i + 1) env vs (walk e env ms).left k (pre ++ d.kept ∷ []) (length_push pre d.kept ∙ ap (λ j. j + 1) len) s.1 en st.1 kp.1 in (
          subst (StandsFor g p n e env ms) (sym (next_child pre d.kept more i len)) (trees e x env vs ms (child k i) s.0 en st.0 kp.0),
          subst (λ l. ItemsKeep walk (StandsFor g p n) env (i + 1) is (walk e env ms).left (kept.Group l)) (append_assoc pre (d.kept ∷ []) more) rest,
        )

    pub items_errless : (is : List LowItem) (x i : ℕ) (env : List Part) (vs : Env) (ms : List ℕ) (k : Kept) → ItemsSound t (length env) is → Have g everything env vs → AllGood vs
        → ItemsStand walk (Wired g p x n) env is ms → ItemsKeep walk (Keeps g p old n) env i is ms k → (items ev vs k i (map (erased_item t.kernels) is)).first ≡ None
    items_errless [] x i env vs ms k s en good st kp = refl
    items_errless (low_item.Define e ∷ is) x i env vs ms k s en good st kp =
        let r = values e x env vs ms (child k i) s.0 en st.0 kp.0 in
        let d = ev (erase t.kernels e) vs (child k i) in
        let h = errless_on g p pr plan sources before rules eras means ended n few e x env vs ms (child k i) s.0 en good st.0 kp.0 in
        let part = (walk e env ms).part in
        both_none (under i d.first) _ (under_none i d.first h.first)
        (items_errless is x (i + 1) (env ++ part ∷ []) (vs ++ d.value ∷ []) (walk e env ms).left k (subst (λ m. ItemsSound t m is) (sym (length_push env part)) s.1)
        (have_append g everything env vs (part ∷ []) (d.value ∷ []) en (r, tt)) (good_append vs (d.value ∷ []) good (h.good, tt)) st.1 kp.1)
    items_errless (low_item.Show name e ∷ is) x i env vs ms k s en good st kp =
        let d = ev (erase t.kernels e) vs (child k i) in
        let h = errless_on g p pr plan sources before rules eras means ended n few e x env vs ms (child k i) s.0 en good st.0 kp.0 in
        both_none (under i d.first) _ (under_none i d.first h.first) (items_errless is x (i + 1) env vs (walk e env ms).left k s.1 en good st.1 kp.1)

module _ (was g : Graph) (p : Plan) (known : ℕ → Type 0) (before : ℕ → Option Cell) (go : Goes was g before) (new_eras : ErasStandOn g known p) (old_eras : ErasStandOn was everything p) (n : ℕ) where
  pub items_carry : (is : List LowItem) (x i : ℕ) (env : List Part) (ms : List ℕ) (k : Kept) → ItemsStand (place p n) (Wired was p x n) env is ms → ItemsStand (place p n) (Wired g p x n) env is ms
      → ItemsKeep (place p n) (StandsFor was p n) env i is ms k → ItemsKeep (place p n) (Keeps g p (record { known = known; cell = before; asks = asks_nothing }) n) env i is ms k
  items_carry [] x i env ms k s0 s1 kp = tt
  items_carry (low_item.Define e ∷ is) x i env ms k s0 s1 kp =
      (carry was g p known before go new_eras old_eras n e x env ms (child k i) s0.0 s1.0 kp.0, items_carry is x (i + 1) (env ++ (place p n e env ms).part ∷ []) (place p n e env ms).left k s0.1 s1.1 kp.1)
  items_carry (low_item.Show name e ∷ is) x i env ms k s0 s1 kp =
      (carry was g p known before go new_eras old_eras n e x env ms (child k i) s0.0 s1.0 kp.0, items_carry is x (i + 1) env (place p n e env ms).left k s0.1 s1.1 kp.1)

-- ONE INSTANT. For every tree for which the graph stood, it then shows what evaluating the body afresh over that tree shows, and stands for what that keeps.
pub instant_afresh : (was g : Graph) (pr : Program) (p : Plan) (is : List LowItem) (ms : List ℕ) (sources : List Now) (before : ℕ → Option Cell) (k : Kept)
    → AreLowered pr p is → Goes was g before → HasNodes was p is ms → HasNodes g p is ms → IsSettled g p sources before → StandsForTree was p is ms k
    → IsAfresh g pr p is ms sources k
instant_afresh was g pr p is ms sources before k lowered go had has settled stood =
    let kp = items_carry was g p everything before go has.eras had.eras 2000 is 0 0 [] ms k had.items has.items stood in
    let few : 2000 ≤ 2001 = omega arith in
    record {
      shows = subst (λ b. Have g everything (place_items (body_walk p) [] is ms).parts (items (eval_to 2000 (world_of pr sources)) [] k 0 b).shown) (sym lowered.items)
          (items_show g p pr lowered.plan sources before settled.rules has.eras settled.ended 2000 few is 0 0 [] [] ms k lowered.sound tt has.items kp);
      errless = ap (λ b. (items (eval_to 2000 (world_of pr sources)) [] k 0 b).first) lowered.items
          ∙ items_errless g p pr lowered.plan sources before settled.rules has.eras settled.ended 2000 few is 0 0 [] [] ms k lowered.sound tt tt has.items kp;
      stands = subst (λ b. StandsForTree g p is ms (kept.Group (items (eval_to 2000 (world_of pr sources)) [] k 0 b).kepts)) (sym lowered.items)
          (items_keep g p pr lowered.plan sources before settled.rules has.eras settled.ended 2000 few is 0 0 [] [] ms k [] refl lowered.sound tt has.items kp);
    }

module _ (was g : Graph) (p : Plan) (known : ℕ → Type 0) (before : ℕ → Option Cell) (go : Goes was g before) (new_eras : ErasStandOn g known p) (n : ℕ) (x : ℕ) (empty : IsEmpty was) where
  pub items_begin : (is : List LowItem) (i : ℕ) (env : List Part) (ms : List ℕ) → ItemsStand (place p n) (Wired g p x n) env is ms
      → ItemsKeep (place p n) (Keeps g p (record { known = known; cell = before; asks = asks_nothing }) n) env i is ms kept.Nothing
  items_begin [] i env ms st = tt
  items_begin (low_item.Define e ∷ is) i env ms st = (
    subst (Keeps g p (record { known = known; cell = before; asks = asks_nothing }) n e env ms) (sym (child_none i)) (born_at was g p known before go new_eras n e x env ms (λ m lv er. empty m) st.0),
    items_begin is (i + 1) (env ++ (place p n e env ms).part ∷ []) (place p n e env ms).left st.1,
  )
  items_begin (low_item.Show name e ∷ is) i env ms st = (
    subst (Keeps g p (record { known = known; cell = before; asks = asks_nothing }) n e env ms) (sym (child_none i)) (born_at was g p known before go new_eras n e x env ms (λ m lv er. empty m) st.0),
    items_begin is (i + 1) env (place p n e env ms).left st.1,
  )

-- THE FIRST INSTANT. A graph all of whose nodes are further ones shows what evaluating the body afresh over nothing kept shows, and stands for what that keeps.
pub first_afresh : (was g : Graph) (pr : Program) (p : Plan) (is : List LowItem) (ms : List ℕ) (sources : List Now) (before : ℕ → Option Cell)
    → AreLowered pr p is → IsEmpty was → Goes was g before → HasNodes g p is ms → IsSettled g p sources before → IsAfresh g pr p is ms sources kept.Nothing
first_afresh was g pr p is ms sources before lowered empty go has settled =
    let kp = items_begin was g p everything before go has.eras 2000 0 empty is 0 [] ms has.items in
    let few : 2000 ≤ 2001 = omega arith in
    record {
      shows = subst (λ b. Have g everything (place_items (body_walk p) [] is ms).parts (items (eval_to 2000 (world_of pr sources)) [] kept.Nothing 0 b).shown) (sym lowered.items)
          (items_show g p pr lowered.plan sources before settled.rules has.eras settled.ended 2000 few is 0 0 [] [] ms kept.Nothing lowered.sound tt has.items kp);
      errless = ap (λ b. (items (eval_to 2000 (world_of pr sources)) [] kept.Nothing 0 b).first) lowered.items
          ∙ items_errless g p pr lowered.plan sources before settled.rules has.eras settled.ended 2000 few is 0 0 [] [] ms kept.Nothing lowered.sound tt tt has.items kp;
      stands = subst (λ b. StandsForTree g p is ms (kept.Group (items (eval_to 2000 (world_of pr sources)) [] kept.Nothing 0 b).kepts)) (sym lowered.items)
          (items_keep g p pr lowered.plan sources before settled.rules has.eras settled.ended 2000 few is 0 0 [] [] ms kept.Nothing [] refl lowered.sound tt has.items kp);
    }
