-- Where the building of the items fails, evaluating the body afresh errs.
use Rattle.std.proofs.Common.{◌≡◌, ◌≤◌, ◌+◌, inl, inr, ℕ, false, List, [], ◌∷◌, ◌++◌, map, length, ap, sym, ◌∙◌, subst, arith, None, Err}
use Rattle.std.proofs.lemmas.List.{length_push}
use Rattle.fr_value.specs.declared.now.Now.{Now}
use Rattle.fr_value.specs.declared.now.Bad.TheVariants.{Deep}
use Rattle.fr_core.specs.declared.core_form.Core.{Core}
use Rattle.fr_core.specs.declared.kept.Kept.{Kept}
use Rattle.fr_core.specs.declared.lowered.Low.{Low}
use Rattle.fr_core.specs.declared.lowered.LowItem.{LowItem}
use Rattle.fr_core.specs.declared.lowered.LowItem.TheVariants as low_item
use Rattle.fr_core.specs.declared.program.Program.{Program}
use Rattle.fr_meaning.specs.Words.{Env, under}
use Rattle.fr_meaning.specs.Cells.{child}
use Rattle.fr_meaning.specs.Evaluation.{world_of, Ev, eval_to}
use Rattle.fr_meaning.specs.Afresh.{items, body}
use Rattle.fr_kernel.specs.Erasure.{erase, erased_item}
use Rattle.fr_kernel.specs.Kernels.{Kernels}
use Rattle.fr_graph.specs.Graph.{Part, result, Graph}
use Rattle.fr_graph.specs.Walk.{Plan, Walk, place}
use Rattle.fr_graph.specs.Fails.{Fails, ItemsFail}
use Rattle.fr_graph.specs.Known.{Have}
use Rattle.fr_graph.specs.Sound.{IsPlanOf, Sound}
use Rattle.fr_graph.specs.Items.{ItemsSound, AreLowered, BodyFails}
use Rattle.fr_graph.proofs.Parts.{have_append}
use Rattle.fr_graph.proofs.Calls.{none_left, none_right, none_under}
use Rattle.fr_graph.proofs.Means.{kernels_mean}
use Rattle.fr_graph.proofs.Steady.{nothing, IsBuilt, built_on}

-- a graph of which nothing is asked
abbrev no_graph : Graph
no_graph = record {
  live = λ m. false;
  kind = λ m. result;
  inputs = λ m. [];
  later = λ m. None;
  value = λ m. Err Deep;
  cell = λ m. None;
  level = λ m. 0;
  era = λ m. 0;
  members = λ m. [];
  result_of = λ m. 0;
}

module _ (p : Plan) (pr : Program) (plan : IsPlanOf pr p) (sources : List Now) (n : ℕ) (few : n ≤ 2001) where
  abbrev t : Kernels
  t = p.table

  abbrev walk : Walk
  walk = place p n

  abbrev ev : Ev
  ev = eval_to n (world_of pr sources)

  abbrev f : Low → Core
  f = erase t.kernels

  built : (e : Low) (env : List Part) (vs : Env) (ms : List ℕ) (k : Kept) → Sound t (length env) e → Have no_graph nothing env vs → (ev (f e) vs k).first ≡ None
      → IsBuilt no_graph (walk e env ms) (Fails p n e env ms) (ev (f e) vs k)
  built = built_on no_graph p pr plan sources (kernels_mean pr p sources plan) n few

  items_build : (is : List LowItem) (i : ℕ) (env : List Part) (vs : Env) (ms : List ℕ) (k : Kept) → ItemsSound t (length env) is → Have no_graph nothing env vs
      → ItemsFail walk (Fails p n) env is ms → (items ev vs k i (map (erased_item t.kernels) is)).first ≡ None → ⊥
  items_build [] i env vs ms k s en fails h = fails
  items_build (low_item.Define e ∷ is) i env vs ms k s en fails h =
      let d = ev (f e) vs (child k i) in
      let part = (walk e env ms).part in
      let here = built e env vs ms (child k i) s.0 en (none_under i d.first (none_left (under i d.first) _ h)) in
      elim fails [
        | inl o ↦ here.builds o
        | inr o ↦ items_build is (i + 1) (env ++ part ∷ []) (vs ++ d.value ∷ []) (walk e env ms).left k (subst (λ j. ItemsSound t j is) (sym (length_push env part)) s.1)
            (have_append no_graph nothing env vs (part ∷ []) (d.value ∷ []) en (here.value, tt)) o (none_right (under i d.first) _ h)
      ]
  items_build (low_item.Show name e ∷ is) i env vs ms k s en fails h =
      let d = ev (f e) vs (child k i) in
      let here = built e env vs ms (child k i) s.0 en (none_under i d.first (none_left (under i d.first) _ h)) in
      elim fails [
        | inl o ↦ here.builds o
        | inr o ↦ items_build is (i + 1) env vs (walk e env ms).left k s.1 en o (none_right (under i d.first) _ h)
      ]

-- A FAILURE. Where the building of the items fails, evaluating the body afresh errs over every tree.
pub failure_afresh : (pr : Program) (p : Plan) (is : List LowItem) (ms : List ℕ) (sources : List Now) (k : Kept) → AreLowered pr p is → BodyFails p is ms → (body pr sources k).first ≡ None → ⊥
failure_afresh pr p is ms sources k lowered fails h =
    let few : 2000 ≤ 2001 = omega arith in
    items_build p pr lowered.plan sources 2000 few is 0 [] [] ms k lowered.sound tt fails (ap (λ b. (items (eval_to 2000 (world_of pr sources)) [] k 0 b).first) (sym lowered.items) ∙ h)
