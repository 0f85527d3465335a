-- Where a node errs in an instant, evaluating the body afresh errs.
use Rattle.std.proofs.Common.{◌≡◌, ◌<◌, ℕ, true, List, [], refl, sym, subst, arith, Option, None}
use Rattle.fr_value.specs.declared.now.Now.{Now}
use Rattle.fr_core.specs.declared.kept.Kept.{Kept}
use Rattle.fr_core.specs.declared.kept.Kept.TheVariants as kept
use Rattle.fr_core.specs.declared.lowered.LowItem.{LowItem}
use Rattle.fr_core.specs.declared.program.Program.{Program}
use Rattle.fr_meaning.specs.Afresh.{body}
use Rattle.fr_meaning.specs.Cells.{Cell}
use Rattle.fr_queue.specs.Queue.{IsEmpty}
use Rattle.fr_graph.specs.Graph.{Part, Kind, source, works, watch, result, Graph}
use Rattle.fr_graph.specs.Walk.{Plan}
use Rattle.fr_graph.specs.Front.{Errs, Occurs, ItemsOccur}
use Rattle.fr_graph.specs.Goes.{IsEmpty as HasNone}
use Rattle.fr_graph.specs.Items.{AreLowered, HasNodes, StandsForTree, IsUnderWay, ErrsThere, body_walk}
use Rattle.fr_graph.proofs.Errors.{error_afresh, first_error_afresh}
use Rattle.fr_graph.proofs.Parts.{read_known}
use Rattle.fr_way.specs.Way.{Way, cell_in, UnderWay}
use Rattle.fr_way.specs.Steps.{IsLeast}
use Rattle.fr_way.specs.Fronts.{stands_below, every_node, stands_itself, AreUsed, OwnersKnown, ErrsAt, ErrsAtEnd}
use Rattle.fr_way.proofs.Fronts.{below_is, is_below, front_known, end_known}
use Rattle.fr_way.proofs.Occur.{occurs_at}

-- only a work or a watch errs
errs_itself : (g : Graph) (known : ℕ → Type 0) (p : Plan) (before : ℕ → Option Cell) (m : ℕ) (k : Kind) (ins : List Part) → Errs g known p before m k ins → stands_itself k ≡ true
errs_itself g known p before m (source s) ins e = absurd e
errs_itself g known p before m (works w) ins e = refl
errs_itself g known p before m (watch a b env) ins e = refl
errs_itself g known p before m result ins e = absurd e

-- a node whose owners are known stands in the walk of the items
pub node_occurs : (p : Plan) (is : List LowItem) (ms : List ℕ) (sources : List Now) (old : Graph) (at : Way) (known : ℕ → Type 0) (m : ℕ)
    → UnderWay p is ms sources old at → IsUnderWay at.graph known p is ms sources (cell_in old) → AreUsed at.graph p is ms → OwnersKnown at.graph known m
    → at.graph.live m ≡ true → stands_itself (at.graph.kind m) ≡ true → ItemsOccur (body_walk p) (Occurs at.graph p known m 2000) [] is ms
node_occurs p is ms sources old at known m u right used owners lv itself =
    occurs_at at.graph at.height known p 2000 is ms u.frame right.eras right.items used.among used.all owners.above m lv itself owners.here

module _ (p : Plan) (is : List LowItem) (ms : List ℕ) (sources : List Now) (old : Graph) (at : Way) (m : ℕ) (u : UnderWay p is ms sources old at) (used : AreUsed at.graph p is ms) where
  -- the node taken
  pub front_errs : (h : ℕ) → IsLeast at m h → ErrsAt at h p old m → ErrsThere at.graph (λ n. stands_below at h n ≡ true) p is ms (cell_in old) m
  front_errs h least errs =
      let front = front_known p is ms sources old at m h u least in
      let q = u.nodes.queue m h least.was in
      let owners : OwnersKnown at.graph (λ n. stands_below at h n ≡ true) m = record {
        here = λ w e. is_below (at.height w) h (subst (λ k. at.height w < k) (sym q.1) (u.frame.levelled.owner m w q.0 e));
        above = λ v w kn lv e.
            let a : at.height v < h = below_is (at.height v) h kn in
            let b : at.height w < at.height v = u.frame.levelled.owner v w lv e in
            is_below (at.height w) h (omega arith);
      } in
      record {
        occurs = node_occurs p is ms sources old at (λ n. stands_below at h n ≡ true) m u front.right used owners q.0
            (errs_itself at.graph (λ n. stands_below at h n ≡ true) p (cell_in old) m (at.graph.kind m) (at.graph.inputs m) errs);
        inputs = front.inputs;
        errs = errs;
      }

  -- a node where nothing is queued any more
  pub end_errs : IsEmpty at.queued → ErrsAtEnd at p old m → ErrsThere at.graph (λ n. every_node n ≡ true) p is ms (cell_in old) m
  end_errs empty e = record {
    occurs = node_occurs p is ms sources old at (λ n. every_node n ≡ true) m u (end_known p is ms sources old at u empty) used (record { here = λ w e. refl; above = λ v w kn lv e. refl }) e.live
        (errs_itself at.graph (λ n. every_node n ≡ true) p (cell_in old) m (at.graph.kind m) (at.graph.inputs m) e.errs);
    inputs = read_known (λ n. every_node n ≡ true) (at.graph.inputs m) (λ j r. refl);
    errs = e.errs;
  }

-- AN ERROR ON THE WAY. Where the node that is taken errs, evaluating the body afresh errs over every tree for which the graph stood.
pub taken_errs : (pr : Program) (p : Plan) (is : List LowItem) (ms : List ℕ) (sources : List Now) (old : Graph) (at : Way) (m h : ℕ) (k : Kept)
    → AreLowered pr p is → HasNodes old p is ms → StandsForTree old p is ms k → UnderWay p is ms sources old at → AreUsed at.graph p is ms → IsLeast at m h → ErrsAt at h p old m
    → (body pr sources k).first ≡ None → ⊥
taken_errs pr p is ms sources old at m h k lowered has stood u used least errs =
    error_afresh old at.graph (λ n. stands_below at h n ≡ true) pr p is ms sources (cell_in old) m k lowered u.goes has (front_known p is ms sources old at m h u least).right
    (front_errs p is ms sources old at m u used h least errs) stood

pub first_taken_errs : (pr : Program) (p : Plan) (is : List LowItem) (ms : List ℕ) (sources : List Now) (old : Graph) (at : Way) (m h : ℕ)
    → AreLowered pr p is → HasNone old → UnderWay p is ms sources old at → AreUsed at.graph p is ms → IsLeast at m h → ErrsAt at h p old m
    → (body pr sources kept.Nothing).first ≡ None → ⊥
first_taken_errs pr p is ms sources old at m h lowered none u used least errs =
    first_error_afresh old at.graph (λ n. stands_below at h n ≡ true) pr p is ms sources (cell_in old) m lowered none u.goes (front_known p is ms sources old at m h u least).right
    (front_errs p is ms sources old at m u used h least errs)

-- AN ERROR AT THE END. So it does where a node errs and nothing is queued any more.
pub left_errs : (pr : Program) (p : Plan) (is : List LowItem) (ms : List ℕ) (sources : List Now) (old : Graph) (at : Way) (m : ℕ) (k : Kept)
    → AreLowered pr p is → HasNodes old p is ms → StandsForTree old p is ms k → UnderWay p is ms sources old at → AreUsed at.graph p is ms → IsEmpty at.queued → ErrsAtEnd at p old m
    → (body pr sources k).first ≡ None → ⊥
left_errs pr p is ms sources old at m k lowered has stood u used empty e =
    error_afresh old at.graph (λ n. every_node n ≡ true) pr p is ms sources (cell_in old) m k lowered u.goes has (end_known p is ms sources old at u empty)
    (end_errs p is ms sources old at m u used empty e) stood

pub first_left_errs : (pr : Program) (p : Plan) (is : List LowItem) (ms : List ℕ) (sources : List Now) (old : Graph) (at : Way) (m : ℕ)
    → AreLowered pr p is → HasNone old → UnderWay p is ms sources old at → AreUsed at.graph p is ms → IsEmpty at.queued → ErrsAtEnd at p old m
    → (body pr sources kept.Nothing).first ≡ None → ⊥
first_left_errs pr p is ms sources old at m lowered none u used empty e =
    first_error_afresh old at.graph (λ n. every_node n ≡ true) pr p is ms sources (cell_in old) m lowered none u.goes (end_known p is ms sources old at u empty)
    (end_errs p is ms sources old at m u used empty e)
