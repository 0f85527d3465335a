-- What late works take behind the instant, one after the other.
use Rattle.std.proofs.Common.{◌≡◌, ◌≢◌, ◌⊎◌, inl, inr, ℕ, zero, suc, ◌+◌, ◌<◌, true, List, [], ◌∷◌, ◌++◌, length, take, get_or, add-one, refl, sym, ap, ◌∙◌, subst, arith, Option, Some, None, Ok, Err}
use Rattle.std.specs.Option.{option_map}
use Rattle.fr_value.specs.declared.now.Held.{Held}
use Rattle.fr_value.specs.declared.ids.NodeId.{NodeId}
use Rattle.fr_meaning.specs.Words.{Seen}
use Rattle.fr_meaning.specs.Cells.{Cell}
use Rattle.fr_store.specs.declared.cell.Cell.{Cell as StoredCell}
use Rattle.fr_store.specs.declared.inputs.Input.{Input}
use Rattle.fr_store.specs.declared.node.Node.{Node}
use Rattle.fr_store.specs.Rows.{held_of}
use Rattle.fr_graph.specs.Graph.{Part, steady, signal, Work, Kind, source, works, watch, result, Graph, part_value, is_late}
use Rattle.fr_graph.specs.Known.{IsKnown, latch, IsLatched}
use Rattle.fr_graph.specs.Walk.{Plan}
use Rattle.fr_graph.specs.Front.{Errs, IsTaken}
use Rattle.fr_events.specs.Works.{work_of, cell_of}
use Rattle.fr_events.specs.Steps.{Latched as CellTaken}
use Rattle.fr_events.specs.declared.latching.LatchStop.{LatchStop}
use Rattle.fr_events.specs.declared.latching.LatchStop.TheVariants as stop
use Rattle.fr_way.specs.Frame.{IsFramed}
use Rattle.fr_way.specs.Way.{Way, cell_in}
use Rattle.fr_way.specs.Steps.{SameShape}
use Rattle.fr_way.specs.Ends.{Takes}
use Rattle.fr_way.specs.Fronts.{every_node, ErrsAtEnd}
use Rattle.fr_nodes.specs.Kinds.{Sites, kind_beside, kind_by, part_of}
use Rattle.fr_nodes.specs.Signals.{IsNodeOf, IsSound, Latches}
use Rattle.fr_engine.specs.Rules.{is_late_in}
use Rattle.fr_engine.specs.Notes.{Named, AreTaken, AreLate}
use Rattle.fr_engine.specs.Latching.{LatersLive, IsLast, TakesLast, RefusesLast, TakesOr, Latched, LatchRefused}
use Rattle.fr_engine.proofs.Cases.{by_number}

late_some : (o : Option Work) → is_late_in o ≡ true → (w : Work) × (o ≡ Some w) × (is_late w ≡ true)
late_some None e = absurd cc
late_some (Some w) e = (w, refl, e)

-- the last part of a late work, by its stored node
last_of_node : (sites : Sites) (at : Way) (m : ℕ) (n : Node) (input : Input) (w : Work) → IsNodeOf sites at m n → work_of n.kind ≡ Some w → is_late w ≡ true
    → Path (Option Held) (Some (held_of input)) n.source → IsLast at.graph m w (part_of (held_of input))
last_of_node sites at m n input w is k late src = record {
  kind = is.kind ∙ ap (λ (o : Option Work). kind_by o (kind_beside sites m n.kind)) k;
  late = late;
  later = is.later ∙ ap (λ (o : Option Held). option_map part_of o) (sym src);
}

pub takes_last : (sites : Sites) (at : Way) (m : ℕ) (n : Node) (input : Input) (c : StoredCell) → IsNodeOf sites at m n → is_late_in (work_of n.kind) ≡ true → Path (Option Held) (Some (held_of input)) n.source
    → ((w : Work) → work_of n.kind ≡ Some w → latch w (part_value at.graph (part_of (held_of input))) ≡ Ok (cell_of c)) → TakesLast at.graph m (cell_of c)
takes_last sites at m n input c is late src takes =
    let k = late_some (work_of n.kind) late in
    record { work = k.0; last = part_of (held_of input); is = last_of_node sites at m n input k.0 is k.1 k.2 src; takes = takes k.0 k.1 }

pub takes_refused : (sites : Sites) (at : Way) (m : ℕ) (n : Node) (input : Input) (e : LatchStop) → IsNodeOf sites at m n → is_late_in (work_of n.kind) ≡ true → Path (Option Held) (Some (held_of input)) n.source
    → ((w : Work) → work_of n.kind ≡ Some w → CellTaken (Err e) (latch w (part_value at.graph (part_of (held_of input))))) → TakesOr (Err e) at.graph m
takes_refused sites at m n input (stop.Memory e) is late src r = tt
takes_refused sites at m n input (stop.Bad b) is late src r =
    let k = late_some (work_of n.kind) late in
    record { work = k.0; last = part_of (held_of input); bad = b; is = last_of_node sites at m n input k.0 is k.1 k.2 src; refuses = r k.0 k.1 }

same_work : (k : Kind) (v w : Work) → k ≡ works v → k ≡ works w → v ≡ w
same_work k v w e f = cc

same_part : (o : Option Part) (p q : Part) → o ≡ Some p → o ≡ Some q → p ≡ q
same_part o p q e f = cc

value_of_part : (g h : Graph) → ((j : ℕ) → h.value j ≡ g.value j) → (q : Part) → part_value h q ≡ part_value g q
value_of_part g h same (steady v) = refl
value_of_part g h same (signal j) = same j

-- one node took the value of its last part
pub latched_one : (at new : Way) (id : NodeId) (c : Cell) → Latches at new id.0 c → TakesLast at.graph id.0 c → Latched at new (id ∷ [])
latched_one at new id c l t = record {
  shape = l.shape;
  value = l.value;
  elsewhere = λ j unnamed. l.cell j (λ e. unnamed (inl (sym e)));
  others = λ j no_late. elim (by_number j id.0) [
    | inl e ↦ absurd (no_late t.work (ap at.graph.kind e ∙ t.is.kind) t.is.late)
    | inr ne ↦ l.cell j ne
  ];
  latched = λ j w last named live is. elim named [
    | inl e ↦ subst (λ (i : ℕ). IsLatched new.graph i w last) e
        (let own : IsLast at.graph id.0 w last = subst (λ (i : ℕ). IsLast at.graph i w last) (sym e) is in
        record {
          taken = c;
          takes = ap (λ (v : Seen). latch w v) (value_of_part at.graph new.graph l.value last)
              ∙ ap (λ (v : Work). latch v (part_value at.graph last)) (same_work (at.graph.kind id.0) w t.work own.kind t.is.kind)
              ∙ ap (λ (q : Part). latch t.work (part_value at.graph q)) (same_part (at.graph.later id.0) last t.last own.later t.is.later)
              ∙ t.takes;
          kept = l.here;
        })
    | inr n ↦ absurd n
  ];
  taken = l.taken;
  heights = l.heights;
  done = l.done;
  queue = l.queue;
}

last_on : (g h : Graph) → SameShape g h → (m : ℕ) (w : Work) (last : Part) → IsLast g m w last → IsLast h m w last
last_on g h same m w last is = record { kind = same.kind m ∙ is.kind; late = is.late; later = same.later m ∙ is.later }

last_was : (g h : Graph) → SameShape g h → (m : ℕ) (w : Work) (last : Part) → IsLast h m w last → IsLast g m w last
last_was g h same m w last is = record { kind = sym (same.kind m) ∙ is.kind; late = is.late; later = sym (same.later m) ∙ is.later }

shape_join : (f g h : Graph) → SameShape f g → SameShape g h → SameShape f h
shape_join f g h a b = record {
  live = λ m. b.live m ∙ a.live m;
  kind = λ m. b.kind m ∙ a.kind m;
  inputs = λ m. b.inputs m ∙ a.inputs m;
  later = λ m. b.later m ∙ a.later m;
  level = λ m. b.level m ∙ a.level m;
  era = λ m. b.era m ∙ a.era m;
  members = λ x. b.members x ∙ a.members x;
  result_of = λ m. b.result_of m ∙ a.result_of m;
}

shape_self : (g : Graph) → SameShape g g
shape_self g = record {
  live = λ m. refl;
  kind = λ m. refl;
  inputs = λ m. refl;
  later = λ m. refl;
  level = λ m. refl;
  era = λ m. refl;
  members = λ x. refl;
  result_of = λ m. refl;
}

named_front : (ids more : List NodeId) (j : ℕ) → Named ids j → Named (ids ++ more) j
named_front [] more j n = absurd n
named_front (x ∷ xs) more j (inl e) = inl e
named_front (x ∷ xs) more j (inr n) = inr (named_front xs more j n)

named_back : (ids more : List NodeId) (j : ℕ) → Named more j → Named (ids ++ more) j
named_back [] more j n = n
named_back (x ∷ xs) more j n = inr (named_back xs more j n)

named_either : (ids more : List NodeId) (j : ℕ) → Named (ids ++ more) j → Named ids j ⊎ Named more j
named_either [] more j n = inr n
named_either (x ∷ xs) more j (inl e) = inl (inl e)
named_either (x ∷ xs) more j (inr n) = elim (named_either xs more j n) [ inl a ↦ inl (inr a) | inr b ↦ inr b ]

-- nothing has been latched yet
pub latched_none : (at : Way) → Latched at at []
latched_none at = record {
  shape = shape_self at.graph;
  value = λ j. refl;
  elsewhere = λ j n. refl;
  others = λ j n. refl;
  latched = λ j w last n live is. absurd n;
  taken = λ j. refl;
  heights = λ j. refl;
  done = λ j. refl;
  queue = λ j. refl;
}

module _ (at mid new : Way) (ids : List NodeId) (id : NodeId) (a : Latched at mid ids) (b : Latched mid new (id ∷ [])) where
  latched_still : (j : ℕ) (w : Work) (last : Part) → j ≢ id.0 → IsLatched mid.graph j w last → IsLatched new.graph j w last
  latched_still j w last ne l = record {
    taken = l.taken;
    takes = ap (λ (v : Seen). latch w v) (value_of_part mid.graph new.graph b.value last) ∙ l.takes;
    kept = b.elsewhere j (λ n. elim n [ inl e ↦ ne (sym e) | inr f ↦ f ]) ∙ l.kept;
  }

  latched_now : (j : ℕ) (w : Work) (last : Part) → j ≡ id.0 → at.graph.live j ≡ true → IsLast at.graph j w last → IsLatched new.graph j w last
  latched_now j w last e live is = b.latched j w last (inl (sym e)) (a.shape.live j ∙ live) (last_on at.graph mid.graph a.shape j w last is)

  -- one more node took its value
  pub latched_more : Latched at new (ids ++ id ∷ [])
  latched_more = record {
    shape = shape_join at.graph mid.graph new.graph a.shape b.shape;
    value = λ j. b.value j ∙ a.value j;
    elsewhere = λ j unnamed. b.elsewhere j (λ n. unnamed (named_back ids (id ∷ []) j n)) ∙ a.elsewhere j (λ n. unnamed (named_front ids (id ∷ []) j n));
    others = λ j no_late. b.others j (λ w k late. no_late w (sym (a.shape.kind j) ∙ k) late) ∙ a.others j no_late;
    latched = λ j w last named live is. elim (by_number j id.0) [
      | inl e ↦ latched_now j w last e live is
      | inr ne ↦ elim (named_either ids (id ∷ []) j named) [
        | inl n ↦ latched_still j w last ne (a.latched j w last n live is)
        | inr n ↦ elim n [ inl e ↦ absurd (ne (sym e)) | inr f ↦ absurd f ]
      ]
    ];
    taken = λ j. b.taken j ∙ a.taken j;
    heights = λ j. b.heights j ∙ a.heights j;
    done = λ j. b.done j ∙ a.done j;
    queue = λ j. b.queue j ∙ a.queue j;
  }

pub laters_on : (g h : Graph) → SameShape g h → LatersLive g → LatersLive h
laters_on g h same l m j live e = same.live j ∙ l m j (sym (same.live m) ∙ live) (sym (same.later m) ∙ e)

-- what a node refuses while others have taken theirs, it refused before
refuses_was : (at mid : Way) (ids : List NodeId) → Latched at mid ids → (m : ℕ) → RefusesLast mid.graph m → RefusesLast at.graph m
refuses_was at mid ids a m r = record {
  work = r.work;
  last = r.last;
  bad = r.bad;
  is = last_was at.graph mid.graph a.shape m r.work r.last r.is;
  refuses = ap (λ (v : Seen). latch r.work v) (sym (value_of_part at.graph mid.graph a.value r.last)) ∙ r.refuses;
}

pub refused_was : (at mid : Way) (ids : List NodeId) (e : LatchStop) → Latched at mid ids → LatchRefused e mid.graph → LatchRefused e at.graph
refused_was at mid ids (stop.Memory e) a r = tt
refused_was at mid ids (stop.Bad b) a r = (r.0, sym (a.shape.live r.0) ∙ r.1, refuses_was at mid ids a r.0 r.2)

-- items one by one
pub named_at : (ids : List NodeId) (i : ℕ) (d : NodeId) → i < length ids → Named ids (get_or ids i d).0
named_at [] i d lt = absurd (omega arith)
named_at (x ∷ xs) zero d lt = inl refl
named_at (x ∷ xs) (suc i) d lt = inr (named_at xs i d (omega arith))

take_one : (ids : List NodeId) (i : ℕ) (d : NodeId) → i < length ids → take (suc i) ids ≡ take i ids ++ get_or ids i d ∷ []
take_one [] i d lt = absurd (omega arith)
take_one (x ∷ xs) zero d lt = refl
take_one (x ∷ xs) (suc i) d lt = ap (λ (vs : List NodeId). x ∷ vs) (take_one xs i d (omega arith))

pub take_next : (ids : List NodeId) (i : ℕ) (d : NodeId) → i < length ids → take (i + 1) ids ≡ take i ids ++ get_or ids i d ∷ []
take_next ids i d lt = ap (λ (n : ℕ). take n ids) (add-one i) ∙ take_one ids i d lt

-- AN INSTANT HAS ENDED where all late works that are listed have taken their values
pub takes : (at new : Way) (ids : List NodeId) → AreLate at ids → Latched at new ids → Takes at.graph new.graph
takes at new ids all l = record {
  shape = l.shape;
  value = l.value;
  others = l.others;
  latched = λ m w last live k late later. l.latched m w last (all.listed m w live k late) live (record { kind = k; late = late; later = later });
}

-- a late work that refuses the value of its last part errs
known_part : (q : Part) → IsKnown (λ n. every_node n ≡ true) q
known_part (steady v) = tt
known_part (signal m) = refl

pub errs_at_end : (p : Plan) (old : Graph) (at : Way) (m : ℕ) → at.graph.live m ≡ true → RefusesLast at.graph m → ErrsAtEnd at p old m
errs_at_end p old at m live r = record {
  live = live;
  errs = subst (λ (k : Kind). Errs at.graph (λ n. every_node n ≡ true) p (cell_in old) m k (at.graph.inputs m)) (sym r.is.kind)
      (λ clean latches. subst IsTaken r.refuses (latches r.is.late r.last r.is.later (known_part r.last)));
}

-- what a live node of a framed graph takes behind the instant lives
result_case : (k : Kind) → (k ≡ result) ⊎ (k ≢ result)
result_case (source s) = inr (λ e. cc)
result_case (works w) = inr (λ e. cc)
result_case (watch a b env) = inr (λ e. cc)
result_case result = inl refl

pub laters_live : (g : Graph) (height : ℕ → ℕ) → IsFramed g height → LatersLive g
laters_live g height f m j live e = elim (result_case (g.kind m)) [
  | inl r ↦ absurd (let n : g.later m ≡ None = f.scoped.later m live r in cc)
  | inr ne ↦ (f.scoped.names m j live ne (inr (inl e))).live
]

-- what holds by some choices at sites holds by all
pub all_taken : (way : Sites → Way) (ids : List NodeId) → IsSound way → ((s : Sites) × AreTaken (way s) ids) → (s : Sites) → AreTaken (way s) ids
all_taken way ids sound there s = λ m n. (sound.alike there.0 s).taken m ∙ there.1 m n

pub all_laters : (way : Sites → Way) → IsSound way → ((s : Sites) × LatersLive (way s).graph) → (s : Sites) → LatersLive (way s).graph
all_laters way sound there s = λ m j live e.
    let same = sound.alike there.0 s in
    same.live j ∙ there.1 m j (sym (same.live m) ∙ live) (sym (same.later m) ∙ e)
