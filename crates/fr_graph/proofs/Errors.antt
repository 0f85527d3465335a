-- A node that errs where an instant is under way makes evaluating the body afresh err.
use Rattle.std.proofs.Common.{◌≡◌, ◌≤◌, ◌+◌, inl, inr, ℕ, List, [], ◌∷◌, ◌++◌, map, length, ap, sym, ◌∙◌, subst, arith, Option, None}
use Rattle.std.proofs.lemmas.List.{length_push}
use Rattle.fr_value.specs.declared.now.Now.{Now}
use Rattle.fr_core.specs.declared.kept.Kept.{Kept}
use Rattle.fr_core.specs.declared.kept.Kept.TheVariants as kept
use Rattle.fr_core.specs.declared.lowered.LowItem.{LowItem}
use Rattle.fr_core.specs.declared.lowered.LowItem.TheVariants as low_item
use Rattle.fr_core.specs.declared.program.Program.{Program}
use Rattle.fr_meaning.specs.Words.{Env, under}
use Rattle.fr_meaning.specs.Cells.{Cell, child}
use Rattle.fr_meaning.specs.Evaluation.{world_of, Ev, eval_to}
use Rattle.fr_meaning.specs.Afresh.{items, body}
use Rattle.fr_kernel.specs.Erasure.{erase, erased_item}
use Rattle.fr_kernel.specs.Kernels.{Kernels}
use Rattle.fr_graph.specs.Graph.{Part, Graph}
use Rattle.fr_graph.specs.Walk.{Plan, Walk, place}
use Rattle.fr_graph.specs.Wired.{Wired}
use Rattle.fr_graph.specs.Keeps.{Asked, Keeps, asks_nothing}
use Rattle.fr_graph.specs.Known.{IsClosed, AllKnown, Have, SettledOn, ErasStandOn}
use Rattle.fr_graph.specs.Sound.{IsPlanOf, KernelsMean}
use Rattle.fr_graph.specs.Goes.{Goes, IsEmpty}
use Rattle.fr_graph.specs.Front.{Occurs, ItemsOccur, Errs}
use Rattle.fr_graph.specs.Items.{ItemsStand, ItemsKeep, ItemsSound, AreLowered, HasNodes, StandsForTree, IsUnderWay, ErrsThere}
use Rattle.fr_graph.proofs.Parts.{have_append}
use Rattle.fr_graph.proofs.Calls.{none_left, none_right, none_under}
use Rattle.fr_graph.proofs.Means.{kernels_mean}
use Rattle.fr_graph.proofs.Values.{AgreesAt, values_on}
use Rattle.fr_graph.proofs.Front.{FrontAt, front_on}
use Rattle.fr_graph.proofs.Items.{items_carry, items_begin}

module _ (g : Graph) (known : ℕ → Type 0) (p : Plan) (pr : Program) (plan : IsPlanOf pr p) (sources : List Now) (before : ℕ → Option Cell)
    (closed : IsClosed g known) (rules : SettledOn g known p.table sources before) (eras : ErasStandOn g known p)
    (m : ℕ) (inputs : AllKnown known (g.inputs m)) (errs : Errs g known p before m (g.kind m) (g.inputs m)) (n : ℕ) (few : n ≤ 2001) where
  abbrev t : Kernels
  t = p.table

  abbrev q : Asked
  q = record { known = known; cell = before; asks = asks_nothing }

  abbrev walk : Walk
  walk = place p n

  abbrev ev : Ev
  ev = eval_to n (world_of pr sources)

  means : KernelsMean p pr sources
  means = kernels_mean pr p sources plan

  values : AgreesAt g known p pr plan sources before closed rules eras means n
  values = values_on g known p pr plan sources before closed rules eras means n few

  front : FrontAt g known p pr plan sources before closed rules eras means m inputs errs n
  front = front_on g known p pr plan sources before closed rules eras means m inputs errs n few

  items_front : (is : List LowItem) (x i : ℕ) (env : List Part) (vs : Env) (ms : List ℕ) (k : Kept) → ItemsSound t (length env) is → Have g known env vs
      → ItemsStand walk (Wired g p x n) env is ms → ItemsKeep walk (Keeps g p q n) env i is ms k → ItemsOccur walk (Occurs g p known m n) env is ms
      → (items ev vs k i (map (erased_item t.kernels) is)).first ≡ None → ⊥
  items_front [] x i env vs ms k s en st kp oc h = oc
  items_front (low_item.Define e ∷ is) x i env vs ms k s en st kp oc h =
      let d = ev (erase t.kernels e) vs (child k i) in
      let part = (walk e env ms).part in
      let r = values e x env vs ms (child k i) s.0 en st.0 kp.0 in
      elim oc [
        | inl o ↦ front e x env vs ms (child k i) s.0 en st.0 kp.0 o (none_under i d.first (none_left (under i d.first) _ h))
        | inr o ↦ items_front is x (i + 1) (env ++ part ∷ []) (vs ++ d.value ∷ []) (walk e env ms).left k (subst (λ j. ItemsSound t j is) (sym (length_push env part)) s.1)
            (have_append g known env vs (part ∷ []) (d.value ∷ []) en (r, tt)) st.1 kp.1 o (none_right (under i d.first) _ h)
      ]
  items_front (low_item.Show name e ∷ is) x i env vs ms k s en st kp oc h =
      let d = ev (erase t.kernels e) vs (child k i) in
      elim oc [
        | inl o ↦ front e x env vs ms (child k i) s.0 en st.0 kp.0 o (none_under i d.first (none_left (under i d.first) _ h))
        | inr o ↦ items_front is x (i + 1) env vs (walk e env ms).left k s.1 en st.1 kp.1 o (none_right (under i d.first) _ h)
      ]

-- AN ERROR. Where a node errs in an instant under way, evaluating the body afresh errs over every tree for which the graph stood before.
pub error_afresh : (was g : Graph) (known : ℕ → Type 0) (pr : Program) (p : Plan) (is : List LowItem) (ms : List ℕ) (sources : List Now) (before : ℕ → Option Cell) (m : ℕ) (k : Kept)
    → AreLowered pr p is → Goes was g before → HasNodes was p is ms → IsUnderWay g known p is ms sources before → ErrsThere g known p is ms before m → StandsForTree was p is ms k
    → (body pr sources k).first ≡ None → ⊥
error_afresh was g known pr p is ms sources before m k lowered go had way there stood h =
    let kp = items_carry was g p known before go way.eras had.eras 2000 is 0 0 [] ms k had.items way.items stood in
    let few : 2000 ≤ 2001 = omega arith in
    items_front g known p pr lowered.plan sources before way.closed way.rules way.eras m there.inputs there.errs 2000 few is 0 0 [] [] ms k lowered.sound tt way.items kp there.occurs
    (ap (λ b. (items (eval_to 2000 (world_of pr sources)) [] k 0 b).first) (sym lowered.items) ∙ h)

-- so it does at the first instant
pub first_error_afresh : (was g : Graph) (known : ℕ → Type 0) (pr : Program) (p : Plan) (is : List LowItem) (ms : List ℕ) (sources : List Now) (before : ℕ → Option Cell) (m : ℕ)
    → AreLowered pr p is → IsEmpty was → Goes was g before → IsUnderWay g known p is ms sources before → ErrsThere g known p is ms before m
    → (body pr sources kept.Nothing).first ≡ None → ⊥
first_error_afresh was g known pr p is ms sources before m lowered empty go way there h =
    let kp = items_begin was g p known before go way.eras 2000 0 empty is 0 [] ms way.items in
    let few : 2000 ≤ 2001 = omega arith in
    items_front g known p pr lowered.plan sources before way.closed way.rules way.eras m there.inputs there.errs 2000 few is 0 0 [] [] ms kept.Nothing lowered.sound tt way.items kp there.occurs
    (ap (λ b. (items (eval_to 2000 (world_of pr sources)) [] kept.Nothing 0 b).first) (sym lowered.items) ∙ h)
