-- What is known to be right while an instant is under way.
use Rattle.std.proofs.Common.{◌≡◌, inl, inr, ◌<◌, ◌≤◌, ℕ, true, false, List, nat_lt, refl, ap, sym, subst, arith, None}
use Rattle.fr_value.specs.declared.now.Now.{Now}
use Rattle.fr_core.specs.declared.lowered.LowItem.{LowItem}
use Rattle.fr_queue.specs.Queue.{IsEmpty}
use Rattle.fr_graph.specs.Graph.{Graph}
use Rattle.fr_graph.specs.Walk.{Plan}
use Rattle.fr_graph.specs.Known.{IsClosed, Rule}
use Rattle.fr_graph.specs.Items.{IsUnderWay}
use Rattle.fr_graph.proofs.Parts.{read_known}
use Rattle.fr_way.specs.Frame.{is_watch}
use Rattle.fr_way.specs.Way.{Way, cell_in, AreQuiet, HasChosen, UnderWay}
use Rattle.fr_way.specs.Steps.{IsLeast}
use Rattle.fr_way.specs.Fronts.{stands_below, IsFront, every_node}
use Rattle.fr_way.proofs.Shapes.{by_bool, by_option, none_some, input_live}

pub below_is : (a b : ℕ) → nat_lt a b ≡ true → a < b
below_is a b e = grind arith

pub is_below : (a b : ℕ) → a < b → nat_lt a b ≡ true
is_below a b l = grind arith

not_below : {A : Type 0} (a b : ℕ) → a < b → b ≤ a → A
not_below a b l m = absurd (omega arith)

-- nodes that aren't queued are right, if what they stand on isn't queued either
module _ (p : Plan) (is : List LowItem) (ms : List ℕ) (sources : List Now) (old : Graph) (at : Way) (known : ℕ → Type 0)
    (u : UnderWay p is ms sources old at) (closed : IsClosed at.graph known) (out : (m : ℕ) → known m → at.graph.live m ≡ true → at.queued m ≡ None) where
  abbrev g : Graph
  g = at.graph

  quiet : (m : ℕ) → known m → g.live m ≡ true → at.done m ≡ false → AreQuiet g (g.inputs m)
  quiet m kn lv d j rd = elim (u.nodes.idle m j lv d (out m kn lv) rd) [
    | inl q ↦ none_some (at.queued j) (out j (closed.input m j kn lv rd) (input_live g at.height m j u.frame lv rd)) q
    | inr q ↦ q
  ]

  rules : (m : ℕ) → known m → g.live m ≡ true → Rule g p.table sources (cell_in old) m (g.kind m) (g.inputs m)
  rules m kn lv = elim (by_bool (at.done m)) [
    | inl d ↦ u.nodes.computed m lv d
    | inr d ↦ u.nodes.rests m lv d (out m kn lv) (quiet m kn lv d)
  ]

  chosen : (w : ℕ) → known w → g.live w ≡ true → HasChosen old at w
  chosen w kn lv = elim (by_bool (at.done w)) [
    | inl d ↦ inl d
    | inr d ↦ elim (by_bool (old.live w)) [
      | inl there ↦ inr there
      | inr non ↦ none_some (at.queued w) (out w kn lv) (u.nodes.born w lv d non).1
    ]
  ]

  right_on : IsUnderWay g known p is ms sources (cell_in old)
  right_on = record {
    items = u.items;
    closed = closed;
    rules = rules;
    eras = λ w a b env kn lv k. u.eras.stand w a b env lv (chosen w kn lv) k;
  }

-- THE FRONT. Where nothing queued is below a node, the nodes below it are right, and it reads them alone.
pub front_known : (p : Plan) (is : List LowItem) (ms : List ℕ) (sources : List Now) (old : Graph) (at : Way) (m h : ℕ)
    → UnderWay p is ms sources old at → IsLeast at m h → IsFront p is ms sources old at m h
front_known p is ms sources old at m h u least =
    let q = u.nodes.queue m h least.was in
    record {
      right = right_on p is ms sources old at (λ n. stands_below at h n ≡ true) u (record {
        input = λ i j kn lv rd.
            let a : at.height i < h = below_is (at.height i) h kn in
            let b : at.height j < at.height i = u.frame.levelled.input i j lv rd in
            is_below (at.height j) h (omega arith);
        watched = λ w a b env lv k kn.
            let r : at.height (at.graph.result_of w) < h = below_is (at.height (at.graph.result_of w)) h kn in
            let l : at.height w < at.height (at.graph.result_of w) = u.frame.levelled.result w lv (ap is_watch k) in
            is_below (at.height w) h (omega arith);
      }) (λ i kn lv. elim (by_option (at.queued i)) [
        | inl none ↦ none
        | inr s ↦ not_below (at.height i) h (below_is (at.height i) h kn) (subst (λ k. h ≤ k) (u.nodes.queue i s.0 s.1).1 (least.least i s.0 s.1))
      ]);
      inputs = read_known (λ n. stands_below at h n ≡ true) (at.graph.inputs m)
          (λ j rd. is_below (at.height j) h (subst (λ k. at.height j < k) (sym q.1) (u.frame.levelled.input m j q.0 rd)));
    }

-- AT THE END. Where nothing is queued, every node is right.
pub end_known : (p : Plan) (is : List LowItem) (ms : List ℕ) (sources : List Now) (old : Graph) (at : Way)
    → UnderWay p is ms sources old at → IsEmpty at.queued → IsUnderWay at.graph (λ n. every_node n ≡ true) p is ms sources (cell_in old)
end_known p is ms sources old at u empty =
    right_on p is ms sources old at (λ n. every_node n ≡ true) u (record { input = λ i j kn lv rd. refl; watched = λ w a b env lv k kn. refl }) (λ i kn lv. empty i)
