-- Where nothing is queued any more, an instant has ended.
use Rattle.std.proofs.Common.{◌≡◌, inl, inr, ℕ, suc, Bool, true, false, List, [], refl, ap, sym, ◌∙◌, subst, Option}
use Rattle.fr_value.specs.declared.now.Now.{Now}
use Rattle.fr_core.specs.declared.lowered.Low.{Low}
use Rattle.fr_core.specs.declared.lowered.LowItem.{LowItem}
use Rattle.fr_meaning.specs.Words.{test_of}
use Rattle.fr_meaning.specs.Cells.{Cell}
use Rattle.fr_queue.specs.Queue.{IsEmpty}
use Rattle.fr_graph.specs.Graph.{Part, Work, Kind, works, watch, Graph, is_late}
use Rattle.fr_graph.specs.Walk.{Plan}
use Rattle.fr_graph.specs.Wired.{Chosen, EraStands}
use Rattle.fr_graph.specs.Known.{Rule}
use Rattle.fr_way.specs.Way.{Way, cell_in, AreQuiet, HasChosen, UnderWay}
use Rattle.fr_way.specs.Ends.{Takes, HasEndedWell}
use Rattle.fr_way.proofs.Shapes.{by_bool, none_some, framed_on, stays_shape, rule_on, goes_on}
use Rattle.fr_way.proofs.Stay.{items_on, eras_on}

abbrev late_kind : Kind → Bool
late_kind (works w) = is_late w
late_kind k = false

not_late : (k : Kind) (v w : Work) → k ≡ works v → k ≡ works w → is_late v ≡ false → is_late w ≡ true → ⊥
not_late k v w e f late early = let same : is_late v ≡ is_late w = ap late_kind (sym e ∙ f) in cc

module _ (p : Plan) (is : List LowItem) (ms : List ℕ) (sources : List Now) (old : Graph) (at : Way) (cell : ℕ → Option Cell) where
  abbrev g : Graph
  g = at.graph

  abbrev new : Graph
  new = record at.graph { cell = cell }

  module _ (u : UnderWay p is ms sources old at) (empty : IsEmpty at.queued) (t : Takes at.graph new) where
    quiet : (m : ℕ) → g.live m ≡ true → at.done m ≡ false → AreQuiet g (g.inputs m)
    quiet m lv d j rd = elim (u.nodes.idle m j lv d (empty m) rd) [
      | inl q ↦ none_some (at.queued j) (empty j) q
      | inr q ↦ q
    ]

    rule_stays : (m : ℕ) → Rule g p.table sources (cell_in old) m (g.kind m) (g.inputs m) → Rule new p.table sources (cell_in old) m (g.kind m) (g.inputs m)
    rule_stays m r = rule_on g new p.table sources (cell_in old) m (g.kind m) (g.inputs m) refl refl (λ w k late. t.others m (λ v e l. not_late (g.kind m) w v k e late l)) (λ j rd. refl) r

    rules : (m : ℕ) → g.live m ≡ true → Rule new p.table sources (cell_in old) m (g.kind m) (g.inputs m)
    rules m lv = elim (by_bool (at.done m)) [
      | inl d ↦ rule_stays m (u.nodes.computed m lv d)
      | inr d ↦ rule_stays m (u.nodes.rests m lv d (empty m) (quiet m lv d))
    ]

    chosen : (w : ℕ) → g.live w ≡ true → HasChosen old at w
    chosen w lv = elim (by_bool (at.done w)) [
      | inl d ↦ inl d
      | inr d ↦ elim (by_bool (old.live w)) [
        | inl there ↦ inr there
        | inr non ↦ none_some (at.queued w) (empty w) (u.nodes.born w lv d non).1
      ]
    ]

    stand : (w : ℕ) (a b : Low) (env : List Part) → g.live w ≡ true → g.kind w ≡ watch a b env → Chosen (test_of (g.value w)) (EraStands new p w a env) (EraStands new p w b env)
    stand w a b env lv k = eras_on g new p w a b env (test_of (g.value w)) (stays_shape (suc w) g new t.shape) refl refl refl (u.eras.stand w a b env lv (chosen w lv) k)

    ended : HasEndedWell p is ms sources old new at.height
    ended = record {
      settled = record {
        rules = λ m kn lv. rules m lv;
        ended = record { latched = λ m w last lv k late l. t.latched m w last lv k late l };
      };
      has = record {
        items = items_on g new p 0 (stays_shape 0 g new t.shape) 2000 is [] ms u.items;
        eras = λ w a b env kn lv k. stand w a b env lv k;
      };
      goes = goes_on old g new at.height (cell_in old) u.frame t.shape u.goes (λ w there lv. inl refl);
      frame = framed_on g new at.height at.height t.shape (λ m. refl) u.frame;
    }

-- THE END. Where nothing is queued and late works took the values of their last parts, every node obeys its rule, and every era stands.
pub ended_well : (p : Plan) (is : List LowItem) (ms : List ℕ) (sources : List Now) (old : Graph) (at : Way) (new : Graph)
    → UnderWay p is ms sources old at → IsEmpty at.queued → Takes at.graph new → HasEndedWell p is ms sources old new at.height
ended_well p is ms sources old at new u empty t =
    let e : Path Graph new (record at.graph { cell = new.cell }) = λ i. record {
      live = λ m. t.shape.live m i;
      kind = λ m. t.shape.kind m i;
      inputs = λ m. t.shape.inputs m i;
      later = λ m. t.shape.later m i;
      value = λ m. t.value m i;
      cell = new.cell;
      level = λ m. t.shape.level m i;
      era = λ m. t.shape.era m i;
      members = λ x. t.shape.members x i;
      result_of = λ m. t.shape.result_of m i;
    } in
    subst (λ (h : Graph). HasEndedWell p is ms sources old h at.height) (sym e)
    (ended p is ms sources old at new.cell u empty (subst (λ (h : Graph). Takes at.graph h) e t))
