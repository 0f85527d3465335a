-- Graphs of one shape: what holds whatever the values and cells are.
use Rattle.std.proofs.Common.{◌≡◌, ◌≢◌, ◌⊎◌, inl, inr, ℕ, suc, Bool, true, false, List, [], ◌∷◌, refl, ap, sym, ◌∙◌, subst, arith, Option, Some, None, IsSome}
use Rattle.fr_value.specs.declared.now.Now.{Now}
use Rattle.fr_meaning.specs.Words.{Seen, test_of}
use Rattle.fr_meaning.specs.Cells.{Cell}
use Rattle.fr_kernel.specs.Kernels.{Kernels}
use Rattle.fr_graph.specs.Graph.{Part, steady, signal, Work, Kind, source, works, watch, result, Graph, part_value, part_values, IsClean, work_line, is_late}
use Rattle.fr_graph.specs.Known.{Reads, Rule}
use Rattle.fr_graph.specs.Goes.{Goes}
use Rattle.fr_way.specs.Frame.{is_watch, InScope, IsFramed}
use Rattle.fr_way.specs.Stay.{StaysIn}
use Rattle.fr_way.specs.Steps.{SameShape}

pub by_number : (i j : ℕ) → (i ≡ j) ⊎ (i ≢ j)
by_number i j = grind arith

pub by_bool : (b : Bool) → (b ≡ true) ⊎ (b ≡ false)
by_bool true = inl refl
by_bool false = inr refl

pub no_both : {A : Type 0} (b : Bool) → b ≡ true → b ≡ false → A
no_both b t f = cc

pub by_option : (o : Option ℕ) → (o ≡ None) ⊎ ((h : ℕ) × (o ≡ Some h))
by_option None = inl refl
by_option (Some h) = inr (h, refl)

pub none_some : {A : Type 0} (o : Option ℕ) → o ≡ None → IsSome o → A
none_some None e s = cc
none_some (Some h) e s = cc

pub some_is : (o : Option ℕ) (h : ℕ) → o ≡ Some h → IsSome o
some_is None h e = cc
some_is (Some x) h e = refl

pub is_some : (o : Option ℕ) → IsSome o → (h : ℕ) × (o ≡ Some h)
is_some None s = cc
is_some (Some h) s = (h, refl)

-- a graph is one of the same shape with other values and cells
pub same_graph : (old new : Graph) → SameShape old new → Path Graph new (record old { value = new.value; cell = new.cell })
same_graph old new s = λ i. record {
  live = λ m. s.live m i;
  kind = λ m. s.kind m i;
  inputs = λ m. s.inputs m i;
  later = λ m. s.later m i;
  value = new.value;
  cell = new.cell;
  level = λ m. s.level m i;
  era = λ m. s.era m i;
  members = λ x. s.members x i;
  result_of = λ m. s.result_of m i;
}

-- what holds whatever the values and cells are
pub framed_with : (g : Graph) (height : ℕ → ℕ) (value : ℕ → Seen) (cell : ℕ → Option Cell) → IsFramed g height → IsFramed (record g { value = value; cell = cell }) height
framed_with g height value cell f = record {
  members = record { member = f.members.member; joined = f.members.joined; owner = f.members.owner; sources = f.members.sources };
  results = record { live = f.results.live; kind = f.results.kind; era = f.results.era; apart = f.results.apart; watched = f.results.watched };
  scoped = record {
    names = λ m j lv non nm. scope (g.era m) j (f.scoped.names m j lv non nm);
    results = λ w j lv iw rd. scope (suc w) j (f.scoped.results w j lv iw rd);
    later = f.scoped.later;
    no_watch = f.scoped.no_watch;
    calm = f.scoped.calm;
  };
  order = record { rank = f.order.rank; input = f.order.input; held = f.order.held; owner = f.order.owner; before_result = f.order.before_result; sources = f.order.sources };
  levelled = record { input = f.levelled.input; owner = f.levelled.owner; result = f.levelled.result };
}
  where
    scope : (x j : ℕ) → InScope g x j → InScope (record g { value = value; cell = cell }) x j
    scope x j s = record { live = s.live; where_from = s.where_from }

pub framed_on : (old new : Graph) (h k : ℕ → ℕ) → SameShape old new → ((m : ℕ) → k m ≡ h m) → IsFramed old h → IsFramed new k
framed_on old new h k same heights f =
    let e : Path (ℕ → ℕ) k h = λ i m. heights m i in
    subst (λ (g : Graph). IsFramed g k) (sym (same_graph old new same)) (framed_with old k new.value new.cell (subst (λ (l : ℕ → ℕ). IsFramed old l) (sym e) f))

-- every node stays
pub stays_shape : (x : ℕ) (old new : Graph) → SameShape old new → StaysIn x old new
stays_shape x old new s = record {
  nodes = λ m lv er. record {
    live = s.live m ∙ lv;
    kind = s.kind m;
    later = s.later m;
    level = s.level m;
    era = s.era m;
    inputs = λ non. s.inputs m;
    result_of = λ w. s.result_of m;
  };
  sources = λ m n lv k. (s.live m ∙ lv, s.kind m ∙ k);
}

-- the result's inputs too
pub result_inputs : (old new : Graph) (w : ℕ) → SameShape old new → new.inputs (new.result_of w) ≡ old.inputs (old.result_of w)
result_inputs old new w s = ap new.inputs (s.result_of w) ∙ s.inputs (old.result_of w)

-- what a live node reads lives
pub input_live : (g : Graph) (height : ℕ → ℕ) (m j : ℕ) → IsFramed g height → g.live m ≡ true → Reads j (g.inputs m) → g.live j ≡ true
input_live g height m j f lv rd = by_kind (g.kind m) refl
  where
    named : g.kind m ≢ result → g.live j ≡ true
    named non = (f.scoped.names m j lv non (inl rd)).live

    by_kind : (k : Kind) → g.kind m ≡ k → g.live j ≡ true
    by_kind (source s) e = named (λ r. cc)
    by_kind (works w) e = named (λ r. cc)
    by_kind (watch a b env) e = named (λ r. cc)
    by_kind result e =
        let w = f.results.watched m lv e in
        (f.scoped.results w.0 j w.1 w.2 (subst (λ (r : ℕ). Reads j (g.inputs r)) (sym w.3) rd)).live

-- values that are read
pub values_on : (g h : Graph) (ps : List Part) → ((j : ℕ) → Reads j ps → h.value j ≡ g.value j) → part_values h ps ≡ part_values g ps
values_on g h [] same = refl
values_on g h (steady v ∷ ps) same = ap (λ (vs : List Seen). v ∷ vs) (values_on g h ps same)
values_on g h (signal m ∷ ps) same =
    ap (λ (v : Seen). v ∷ part_values h ps) (same m (inl refl)) ∙ ap (λ (vs : List Seen). g.value m ∷ vs) (values_on g h ps (λ j r. same j (inr r)))

pub value_on : (g h : Graph) (q : Part) → ((j : ℕ) → Reads j (q ∷ []) → h.value j ≡ g.value j) → part_value h q ≡ part_value g q
value_on g h (steady v) same = refl
value_on g h (signal m) same = same m (inl refl)

-- a node obeys its rule in another graph where its value, its cell and the values that it reads are the same
pub rule_on : (g h : Graph) (t : Kernels) (sources : List Now) (before : ℕ → Option Cell) (m : ℕ) (k : Kind) (ins : List Part)
    → h.level m ≡ g.level m → h.value m ≡ g.value m → ((w : Work) → k ≡ works w → is_late w ≡ false → h.cell m ≡ g.cell m)
    → ((j : ℕ) → Reads j ins → h.value j ≡ g.value j) → Rule g t sources before m k ins → Rule h t sources before m k ins
rule_on g h t sources before m (source s) ins level value cell same r = record { now = r.now; there = r.there; value = value ∙ r.value }
rule_on g h t sources before m (works w) ins level value cell same r =
    let line = ap (λ (n : ℕ). work_line t n w (before m) (part_values h ins)) level ∙ ap (λ (vs : List Seen). work_line t (g.level m) w (before m) vs) (values_on g h ins same) in
    record {
      value = value ∙ r.value ∙ sym (ap (λ l. l.value) line);
      clean = subst IsClean (sym line) r.clean;
      cell = λ late. cell w refl late ∙ r.cell late ∙ sym (ap (λ l. l.next) line);
    }
rule_on g h t sources before m (watch a b env) [] level value cell same r = tt
rule_on g h t sources before m (watch a b env) (test ∷ []) level value cell same r =
    record { holds = r.holds; value = ap test_of value ∙ r.value; test = ap test_of (value_on g h test same) ∙ r.test }
rule_on g h t sources before m (watch a b env) (test ∷ other ∷ more) level value cell same r = tt
rule_on g h t sources before m result [] level value cell same r = tt
rule_on g h t sources before m result (q ∷ []) level value cell same r = value ∙ r ∙ sym (value_on g h q same)
rule_on g h t sources before m result (q ∷ other ∷ more) level value cell same r = tt

-- an instant goes on in a graph of the same shape where keys are the same, but for nodes that are no watches and were as they are
pub goes_on : (old g h : Graph) (height : ℕ → ℕ) (before : ℕ → Option Cell) → IsFramed g height → SameShape g h → Goes old g before
    → ((w : ℕ) → old.live w ≡ true → g.live w ≡ true → (test_of (h.value w) ≡ test_of (g.value w)) ⊎ ((is_watch (g.kind w) ≡ false) × (g.value w ≡ old.value w)))
    → Goes old h before
goes_on old g h height before f same go keys = record {
  cell = λ m was now. go.cell m was (sym (same.live m) ∙ now);
  cell_new = λ m was now. go.cell_new m was (sym (same.live m) ∙ now);
  era_same = λ w was now e.
      let lv : g.live w ≡ true = sym (same.live w) ∙ now in
      same.members (suc w) ∙ elim (keys w was lv) [
        | inl k ↦ go.era_same w was lv (sym k ∙ e)
        | inr k ↦ go.era_same w was lv (ap test_of k.1)
      ];
  era_new = λ w m was now ne lm er.
      let lv : g.live w ≡ true = sym (same.live w) ∙ now in
      let gm : g.live m ≡ true = sym (same.live m) ∙ lm in
      let ge : g.era m ≡ suc w = sym (same.era m) ∙ er in
      elim (keys w was lv) [
        | inl k ↦ go.era_new w m was lv (λ e. ne (k ∙ e)) gm ge
        | inr k ↦ no_both (is_watch (g.kind w)) (f.members.owner m w gm ge).1 k.0
      ];
  era_born = λ w m was lm er. go.era_born w m was (sym (same.live m) ∙ lm) (sym (same.era m) ∙ er);
}
