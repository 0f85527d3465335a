-- What is left of lists where an instant ends, and that the graph rests then.
use Rattle.std.proofs.Common.{◌≡◌, ◌≢◌, ◌⊎◌, inl, inr, ℕ, Bool, true, false, List, [], ◌∷◌, ◌++◌, sym, ap, ◌∙◌, subst, None, IsSome, Result, Ok, Err, OnOk, IfErr}
use Rattle.fr_value.specs.declared.ids.NodeId.{NodeId}
use Rattle.fr_core.specs.declared.lowered.LowItem.{LowItem}
use Rattle.fr_value.specs.declared.now.Now.{Now}
use Rattle.fr_queue.specs.Queue.{IsEmpty}
use Rattle.fr_graph.specs.Walk.{Plan}
use Rattle.fr_events.specs.declared.latching.LatchStop.{LatchStop}
use Rattle.fr_events.specs.declared.latching.LatchStop.TheVariants as stop
use Rattle.fr_way.specs.Ends.{Takes, HasEndedWell}
use Rattle.fr_engine.specs.declared.setting.Notes.{Notes}
use Rattle.fr_engine.proofs.Latches.{takes}
use Rattle.fr_graph.specs.Graph.{Graph}
use Rattle.fr_way.specs.Burial.{Buries}
use Rattle.fr_way.specs.Loop.{Closes as HasClosed}
use Rattle.fr_way.specs.Way.{Way, occurs_now}
use Rattle.fr_nodes.specs.Signals.{BuriesAll}
use Rattle.fr_engine.specs.Notes.{Named, Lists, AreNoted, AreLate}
use Rattle.fr_engine.specs.Latching.{Latched, LatchRefused, IsMemory}
use Rattle.fr_engine.specs.Beginning.{AreLive, IsResting}
use Rattle.fr_engine.specs.Ending.{AreLiving, Closes, EndsWell}
use Rattle.fr_engine.proofs.Cases.{no_both}

pub living_none : (g : Graph) → AreLiving g [] []
living_none g = record { all = λ m n live. n; only = λ m n. absurd n }

named_front : (ids more : List NodeId) (j : ℕ) → Named ids j → Named (ids ++ more) j
named_front [] more j n = absurd n
named_front (x ∷ xs) more j (inl e) = inl e
named_front (x ∷ xs) more j (inr n) = inr (named_front xs more j n)

named_back : (ids more : List NodeId) (j : ℕ) → Named more j → Named (ids ++ more) j
named_back [] more j n = n
named_back (x ∷ xs) more j n = inr (named_back xs more j n)

named_either : (ids : List NodeId) (id : NodeId) (j : ℕ) → Named (ids ++ id ∷ []) j → Named ids j ⊎ (id.0 ≡ j)
named_either [] id j (inl e) = inr e
named_either [] id j (inr n) = absurd n
named_either (x ∷ xs) id j (inl e) = inl (inl e)
named_either (x ∷ xs) id j (inr n) = elim (named_either xs id j n) [ inl a ↦ inl (inr a) | inr b ↦ inr b ]

-- one more of those that are listed lives, or doesn't
pub living_more : (g : Graph) (ids living more : List NodeId) (id : NodeId) (b : Bool) → g.live id.0 ≡ b → AreLiving g ids living → Lists b living more id.0 → AreLiving g (ids ++ id ∷ []) more
living_more g ids living more id true e a l =
    subst (λ (xs : List NodeId). AreLiving g (ids ++ id ∷ []) xs) (sym l) (let here : AreLiving g (ids ++ id ∷ []) (living ++ id ∷ []) = record {
      all = λ m n live. elim (named_either ids id m n) [
        | inl k ↦ named_front living (id ∷ []) m (a.all m k live)
        | inr same ↦ named_back living (id ∷ []) m (inl same)
      ];
      only = λ m n. elim (named_either living id m n) [
        | inl k ↦ let o = a.only m k in (named_front ids (id ∷ []) m o.0, o.1)
        | inr same ↦ (named_back ids (id ∷ []) m (inl same), subst (λ (i : ℕ). g.live i ≡ true) same e)
      ];
    } in here)
living_more g ids living more id false e a l =
    subst (λ (xs : List NodeId). AreLiving g (ids ++ id ∷ []) xs) (sym l) (record {
      all = λ m n live. elim (named_either ids id m n) [
        | inl k ↦ a.all m k live
        | inr same ↦ no_both (g.live m) live (subst (λ (i : ℕ). g.live i ≡ false) same e)
      ];
      only = λ m n. let o = a.only m n in (named_front ids (id ∷ []) m o.0, o.1);
    })

-- a graph rests once nothing is queued, the late works have taken their values, and what ended is buried
module _ (old : Graph) (at t new : Way) (wakes changed late living_wakes living_late : List NodeId) (empty : IsEmpty at.queued) (noted : AreNoted old at wakes changed) (listed : AreLate at late)
    (l : Latched at t late) (w : AreLiving t.graph wakes living_wakes) (k : AreLiving t.graph late living_late) (b : BuriesAll t new) where
  lived : (m : ℕ) → new.graph.live m ≡ true → t.graph.live m ≡ true
  lived m live = sym (b.live m) ∙ live

  not_queued : {A : Type 0} (m : ℕ) → IsSome (at.queued m) → A
  not_queued m q = absurd (let none : at.queued m ≡ None = empty m in cc)

  pub rests : IsResting new living_wakes living_late
  rests = record {
    empty = λ m. b.queue m ∙ l.queue m ∙ empty m;
    occurring = λ m live. elim (noted.occurring m (sym (l.shape.live m) ∙ lived m live)) [
      | inl n ↦ inl (w.all m n (lived m live))
      | inr o ↦ elim o [
        | inl q ↦ not_queued m q
        | inr quiet ↦ inr (ap occurs_now ((b.same m (lived m live)).value ∙ l.value m) ∙ quiet)
      ]
    ];
    listed = λ m v live kind late_one. k.all m
        (listed.listed m v (sym (l.shape.live m) ∙ lived m live) (sym (l.shape.kind m) ∙ sym (b.same m (lived m live)).kind ∙ kind) late_one) (lived m live);
  }

  pub wakes_live : AreLive new.graph living_wakes
  wakes_live m n = b.live m ∙ (w.only m n).1

  pub late_live : AreLive new.graph living_late
  late_live m n = b.live m ∙ (k.only m n).1

  -- what is listed occurs
  pub occur : (m : ℕ) → Named living_wakes m → occurs_now (new.graph.value m) ≡ true
  occur m n =
      let was = w.only m n in
      ap occurs_now ((b.same m was.1).value ∙ l.value m) ∙ (noted.occur m was.0 (sym (l.shape.live m) ∙ was.1)).1

  -- what is among those that changed hasn't the value that it had
  pub differ : (m : ℕ) → Named changed m → new.graph.live m ≡ true → old.live m ≡ true → new.graph.value m ≢ old.value m
  differ m n live had same = (noted.differ m n (sym (l.shape.live m) ∙ lived m live)).1 had (sym ((b.same m (lived m live)).value ∙ l.value m) ∙ same)

  -- what isn't among those that changed or occur has the value that it had and doesn't occur
  pub unchanged : (m : ℕ) → new.graph.live m ≡ true → old.live m ≡ true → Named changed m ⊎ (new.graph.value m ≡ old.value m)
  unchanged m live was = elim (noted.other m (sym (l.shape.live m) ∙ lived m live) was) [
    | inl n ↦ inl n
    | inr o ↦ elim o [
      | inl q ↦ not_queued m q
      | inr same ↦ inr ((b.same m (lived m live)).value ∙ l.value m ∙ same)
    ]
  ]

-- what burying does is told of the graphs alone
pub buries_graph : (t new : Way) → BuriesAll t new → Buries t.graph new.graph
buries_graph t new b = record {
  live = b.live;
  kind = λ m live. (b.same m live).kind;
  inputs = λ m live. (b.same m live).inputs;
  later = λ m live. (b.same m live).later;
  value = λ m live. (b.same m live).value;
  cell = λ m live. (b.same m live).cell;
  level = λ m live. (b.same m live).level;
  era = λ m live. (b.same m live).era;
  members = b.members;
  result_of = λ m live watches. b.result_of m live;
}

-- an instant closes where the late works have taken their values and what ended is buried
pub closes : (at t new : Way) (listed : List NodeId) → IsEmpty at.queued → AreLate at listed → Latched at t listed → BuriesAll t new → HasClosed at t.graph new
closes at t new listed empty all l b = record {
  empty = empty;
  takes = takes at t listed all l;
  buries = buries_graph t new b;
  queue = λ m. b.queue m ∙ l.queue m ∙ empty m;
  taken = λ m. b.taken m ∙ sym (b.live m);
  heights = λ m live. b.height m (sym (b.live m) ∙ live) ∙ l.heights m;
}

-- AN INSTANT HAS ENDED WELL where the late works have taken their values and what ended is buried
pub ends_well : (p : Plan) (is : List LowItem) (ms : List ℕ) (sources : List Now) (old : Graph) (at new : Way) (was notes : Notes) (listed late : List NodeId)
    → ((t : Graph) → Takes at.graph t → HasEndedWell p is ms sources old t at.height)
    → IsEmpty at.queued → AreNoted old at was.wakes.items was.changed.items → AreLate at listed → Closes at new was notes listed late
    → EndsWell p is ms sources old at new notes late
ends_well p is ms sources old at new was notes listed late end empty noted all c = record {
  latched = c.latched;
  ended = end c.latched.graph (takes at c.latched listed all c.latches);
  closes = closes at c.latched new listed empty all c.latches c.buries;
  buries = c.buries;
  rests = rests old at c.latched new was.wakes.items was.changed.items listed notes.wakes.items late empty noted all c.latches c.wakes c.late c.buries;
  wakes_live = wakes_live old at c.latched new was.wakes.items was.changed.items listed notes.wakes.items late empty noted all c.latches c.wakes c.late c.buries;
  late_live = late_live old at c.latched new was.wakes.items was.changed.items listed notes.wakes.items late empty noted all c.latches c.wakes c.late c.buries;
  occur = occur old at c.latched new was.wakes.items was.changed.items listed notes.wakes.items late empty noted all c.latches c.wakes c.late c.buries;
  differ = λ m n. differ old at c.latched new was.wakes.items was.changed.items listed notes.wakes.items late empty noted all c.latches c.wakes c.late c.buries m (subst (λ (ids : List NodeId). Named ids m) c.changed n);
  unchanged = λ m live had. elim (unchanged old at c.latched new was.wakes.items was.changed.items listed notes.wakes.items late empty noted all c.latches c.wakes c.late c.buries m live had) [
    | inl n ↦ inl (subst (λ (ids : List NodeId). Named ids m) (sym c.changed) n)
    | inr same ↦ inr same
  ];
}

-- what stops the burying tells nothing of the graph
pub memory_tells : (e : LatchStop) (g : Graph) → IsMemory e → LatchRefused e g
memory_tells (stop.Memory e) g m = tt
memory_tells (stop.Bad b) g m = absurd m

-- what a call gives by three clauses
pub on_ok_all : {X Y A B C D : Type 0} (r : Result X Y) → OnOk r A → OnOk r B → OnOk r C → (A → B → C → D) → OnOk r D
on_ok_all (Ok x) a b c f = f a b c
on_ok_all (Err y) a b c f = a

pub on_err : {X Y : Type 0} (r : Result X Y) (P Q : Y → Type 0) → ((e : Y) → P e → Q e) → IfErr r P → IfErr r Q
on_err (Ok x) P Q f p = p
on_err (Err e) P Q f p = f e p
