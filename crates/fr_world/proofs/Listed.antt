-- The late works among the members of an era, listed.
use Rattle.std.proofs.Common.{◌≡◌, ◌⊎◌, inl, inr, ℕ, zero, suc, ◌<◌, Bool, true, false, cond, nat_eq, List, [], ◌∷◌, ◌++◌, filter, length, get_or, Option, Some, None, Result, Ok, Err, OnOk, IsSome, refl, sym, ap, ◌∙◌, subst, arith}
use Rattle.std.proofs.lemmas.Bool.{false≢true}
use Rattle.fr_value.specs.declared.ids.NodeId.{NodeId}
use Rattle.fr_links.specs.Lists.{has_item}
use Rattle.fr_links.proofs.Has.{eq_is, here, or_case, there}
use Rattle.fr_queue.specs.Queue.{Queued}
use Rattle.fr_store.specs.declared.node.Node.{Node}
use Rattle.fr_store.specs.declared.node.NodeKind.{NodeKind}
use Rattle.fr_store.specs.declared.node.NodeKind.TheVariants as kind
use Rattle.fr_store.specs.Nodes.{Stored, node_at}
use Rattle.fr_eras.specs.Heights.{AreThere}
use Rattle.fr_eras.specs.Lives.{Lives, members}
use Rattle.fr_eras.specs.Order.{nodes_of}
use Rattle.fr_events.specs.Works.{work_of, is_late_in}
use Rattle.fr_graph.specs.Graph.{Work, Kind, source, works, watch, result, is_late}
use Rattle.fr_nodes.specs.Kinds.{Sites, kind_beside, kind_by}
use Rattle.fr_nodes.specs.Listed.{Named, ListsLate}
use Rattle.fr_way.specs.Way.{Way}
use Rattle.fr_world.specs.Calls.{is_late_at, late_among}
use Rattle.fr_world.specs.World.{kind_at, way_by, way_of}
use Rattle.fr_world.proofs.Whole.{one}

-- which are named

named_left : (xs ys : List NodeId) (m : ℕ) → Named xs m → Named (xs ++ ys) m
named_left [] ys m n = absurd n
named_left (x ∷ xs) ys m n = elim n [ inl h ↦ inl h | inr r ↦ inr (named_left xs ys m r) ]

named_right : (xs ys : List NodeId) (m : ℕ) → Named ys m → Named (xs ++ ys) m
named_right [] ys m n = n
named_right (x ∷ xs) ys m n = inr (named_right xs ys m n)

named_either : (xs ys : List NodeId) (m : ℕ) → Named (xs ++ ys) m → Named xs m ⊎ Named ys m
named_either [] ys m n = inr n
named_either (x ∷ xs) ys m n = elim n [
  | inl h ↦ inl (inl h)
  | inr r ↦ elim (named_either xs ys m r) [ inl l ↦ inl (inr l) | inr k ↦ inr k ]
]

named_nodes : (ms : List ℕ) (m : ℕ) → has_item ms m ≡ true → Named (nodes_of ms) m
named_nodes [] m h = cc
named_nodes (k ∷ ms) m h = or_case (nat_eq k m) (has_item ms m) h (λ e. inl (eq_is k m e)) (λ e. inr (named_nodes ms m e))

nodes_have : (ms : List ℕ) (m : ℕ) → Named (nodes_of ms) m → has_item ms m ≡ true
nodes_have [] m n = absurd n
nodes_have (k ∷ ms) m n = elim n [ inl e ↦ subst (λ (i : ℕ). has_item (k ∷ ms) i ≡ true) e (here k ms) | inr r ↦ there k m ms (nodes_have ms m r) ]

module _ (p : NodeId → Bool) where
  -- a test of a node's number
  same_test : (x : NodeId) (m : ℕ) → x.0 ≡ m → p x ≡ p (record { 0 = m })
  same_test x m e = ap (λ (i : ℕ). p (record { 0 = i })) e

  kept_named : (ids : List NodeId) (m : ℕ) → Named (filter p ids) m → Named ids m × (p (record { 0 = m }) ≡ true)
  kept_named [] m n = absurd n
  kept_named (x ∷ xs) m n = by (p x) refl (kept_named xs m) n
    where
      by : (b : Bool) → p x ≡ b → (Named (filter p xs) m → Named xs m × (p (record { 0 = m }) ≡ true)) → Named (cond b (x ∷ filter p xs) (filter p xs)) m → Named (x ∷ xs) m × (p (record { 0 = m }) ≡ true)
      by true k deep n = elim n [
        | inl h ↦ (inl h, sym (same_test x m h) ∙ k)
        | inr r ↦ let o = deep r in (inr o.0, o.1)
      ]
      by false k deep n = let o = deep n in (inr o.0, o.1)

  named_kept : (ids : List NodeId) (m : ℕ) → Named ids m → p (record { 0 = m }) ≡ true → Named (filter p ids) m
  named_kept [] m n e = n
  named_kept (x ∷ xs) m n e = by (p x) refl (λ r. named_kept xs m r e)
    where
      by : (b : Bool) → p x ≡ b → (Named xs m → Named (filter p xs) m) → Named (cond b (x ∷ filter p xs) (filter p xs)) m
      by true k deep = elim n [ inl h ↦ inl h | inr r ↦ inr (deep r) ]
      by false k deep = elim n [
        | inl h ↦ absurd (false≢true (sym k ∙ (same_test x m h ∙ e)))
        | inr r ↦ deep r
      ]

-- whether a kind is that of a late work
late_of : Kind → Bool
late_of (works w) = is_late w
late_of k = false

late_works : (k : Kind) (w : Work) → k ≡ works w → late_of k ≡ is_late w
unfolding late_of
late_works k w e = ap late_of e

beside_early : (sites : Sites) (m : ℕ) (k : NodeKind) → late_of (kind_beside sites m k) ≡ false
unfolding late_of
beside_early sites m (kind.IfWatch site held) = refl
beside_early sites m kind.Result = refl
beside_early sites m k = refl

by_work : (sites : Sites) (m : ℕ) (k : NodeKind) (o : Option Work) → late_of (kind_by o (kind_beside sites m k)) ≡ is_late_in o
unfolding late_of
by_work sites m k None = beside_early sites m k
by_work sites m k (Some w) = refl

late_stored : (sites : Sites) (m : ℕ) (o : Option Node) → late_of (kind_at sites m o) ≡ is_late_at o
unfolding late_of
late_stored sites m None = refl
late_stored sites m (Some n) = by_work sites m n.kind (work_of n.kind)

is_late_work : (k : Kind) → late_of k ≡ true → (w : Work) × (k ≡ works w) × (is_late w ≡ true)
unfolding late_of
is_late_work (works w) e = (w, refl, e)
is_late_work (source s) e = absurd (false≢true e)
is_late_work (watch a b env) e = absurd (false≢true e)
is_late_work result e = absurd (false≢true e)

-- a world that isn't whole counts as one without members
pub none_listed : (b : Bool) (at : Sites → Way) (x : ℕ) (listed : List NodeId) → b ≡ false → (sites : Sites) → ListsLate (way_by b (at sites)).graph x listed listed
none_listed true at x listed e sites = absurd (false≢true (sym e))
none_listed false at x listed e sites = record {
  kept = λ m n. n;
  late = λ m l. absurd (false≢true l.member);
  only = λ m n. inl n;
}

-- the late members behind what was listed
pub lists_late : (b : Bool) (s : Stored) (l : Lives) (q : Queued) (k x : ℕ) (listed more : List NodeId) → b ≡ true → more ≡ listed ++ late_among s (nodes_of (members l x))
    → (sites : Sites) → ListsLate (way_by b (way_of sites s l q k)).graph x listed more
lists_late b s l q k x listed more whole is sites =
    let ids = nodes_of (members l x) in
    let p : NodeId → Bool = λ id. is_late_at (node_at s id.0) in
    one (λ (at : Way). ListsLate at.graph x listed more) b (way_of sites s l q k) whole (record {
      kept = λ m n. subst (λ (l : List NodeId). Named l m) (sym is) (named_left listed (late_among s ids) m n);
      late = λ m i.
          let late : is_late_at (node_at s m) ≡ true = sym (late_stored sites m (node_at s m)) ∙ late_works (kind_at sites m (node_at s m)) i.work i.kind ∙ i.late in
          subst (λ (l : List NodeId). Named l m) (sym is) (named_right listed (late_among s ids) m (named_kept p ids m (named_nodes (members l x) m i.member) late));
      only = λ m n. elim (named_either listed (late_among s ids) m (subst (λ (l : List NodeId). Named l m) is n)) [
        | inl o ↦ inl o
        | inr r ↦
            let found = kept_named p ids m r in
            let work = is_late_work (kind_at sites m (node_at s m)) (late_stored sites m (node_at s m) ∙ found.1) in
            inr (record { member = nodes_have (members l x) m found.0; work = work.0; kind = work.1; late = work.2 })
      ];
    })

-- THE LOOP

-- a member that comes next is stored
next_has : (ms : List ℕ) (k : ℕ) (id : NodeId) → k < length (nodes_of ms) → id ≡ get_or (nodes_of ms) k id → has_item ms id.0 ≡ true
next_has [] k id lt e = absurd (omega arith)
next_has (j ∷ ms) zero id lt e = subst (λ (i : ℕ). has_item (j ∷ ms) i ≡ true) (sym (ap (λ (n : NodeId). n.0) e)) (here j ms)
next_has (j ∷ ms) (suc k) id lt e = there j id.0 ms (next_has ms k id (omega arith) e)

pub next_stored : (s : Stored) (l : Lives) (x k : ℕ) (id : NodeId) → AreThere l s → k < length (nodes_of (members l x)) → id ≡ get_or (nodes_of (members l x)) k id → IsSome (node_at s id.0)
next_stored s l x k id there lt e = there.member x id.0 (next_has (members l x) k id lt e)

-- what a call tells where it gave no error
pub then_told : {X E : Type 0} (r : Result X E) (A B : Type 0) → (A → B) → OnOk r A → OnOk r B
then_told (Ok x) A B f h = f h
then_told (Err e) A B f h = h
