-- A worked graph with a late work: `(show s (delay #f x))`, through two instants. The delay isn't queued by what it reads, and its cell takes the value of x behind each instant.
use Rattle.std.proofs.Common.{◌≡◌, inl, inr, ◌<◌, ℕ, zero, suc, ◌+◌, Bool, true, false, List, [], ◌∷◌, map, slice_get, refl, ap, sym, ◌∙◌, subst, arith, Option, Some, None, Err}
use Rattle.fr_links.specs.Lists.{has_item}
use Rattle.fr_value.specs.declared.now.Now.{Now}
use Rattle.fr_value.specs.declared.now.Now.TheVariants.{Plain}
use Rattle.fr_value.specs.declared.now.Bad.TheVariants.{Deep}
use Rattle.fr_value.specs.declared.value.Value.TheVariants as value
use Rattle.fr_core.specs.declared.core_form.Operator.TheVariants as operator
use Rattle.fr_core.specs.declared.kept.Kept.{Kept}
use Rattle.fr_core.specs.declared.kept.Kept.TheVariants as kept
use Rattle.fr_core.specs.declared.lowered.Low.{Low}
use Rattle.fr_core.specs.declared.lowered.Low.TheOpen.{Low-F}
use Rattle.fr_core.specs.declared.lowered.Low.TheVariants as low
use Rattle.fr_core.specs.declared.lowered.Low.TheVariants.{outs-Lit, outs-Source, outs-Operator}
use Rattle.fr_core.specs.declared.lowered.LowItem.{LowItem}
use Rattle.fr_core.specs.declared.lowered.LowItem.TheVariants as low_item
use Rattle.fr_core.specs.declared.program.Program.{Program}
use Rattle.fr_kernel.specs.Erasure.{inner_low, erased_item}
use Rattle.fr_meaning.specs.Words.{Seen, plain}
use Rattle.fr_meaning.specs.Cells.{datum}
use Rattle.fr_meaning.specs.Afresh.{body}
use Rattle.fr_graph.specs.Graph.{Part, steady, signal, Work, operates, Kind, source, works, result, Graph}
use Rattle.fr_graph.specs.Walk.{Plan, place}
use Rattle.fr_graph.specs.Wired.{IsNext, IsSource, Wired}
use Rattle.fr_graph.specs.Known.{Reads, IsLatched}
use Rattle.fr_graph.specs.Goes.{Goes}
use Rattle.fr_graph.specs.Sound.{Sound}
use Rattle.fr_graph.specs.Items.{AreLowered, Shown, place_items, ItemsStand, IsAfresh}
use Rattle.fr_graph.proofs.Items.{first_afresh, instant_afresh}
use Rattle.fr_way.specs.Frame.{is_source, is_watch, IsFramed}
use Rattle.fr_way.specs.Way.{Way, cell_in}
use Rattle.fr_way.specs.Steps.{Computes}
use Rattle.fr_way.specs.Ends.{IsBuilt, Takes}
use Rattle.fr_way.specs.Fronts.{AreUsed}
use Rattle.fr_way.specs.Loop.{IsWhole, IsOnItsWay, Starts, Closes}
use Rattle.fr_way.proofs.Buried.{buries_none}
use Rattle.fr_way.proofs.Loop.{on_its_way_built, on_its_way_started, on_its_way_computed, closed_well, closed_whole}
use Rattle.fr_way.proofs.Concrete.{table, each_2, off, on, none, no_part, no_owner, among, put, names_by, computed, computes_by, sound_by, some_part}

-- THE PROGRAM. The input x is source 0, which has node 0; the delay has node 1.

abbrev input : Low
input = low.Source (record { 0 = 0 })

abbrev initial : Low
initial = low.Lit (value.Bool false)

abbrev delay : Low
delay = low.Operator operator.Delay (initial ∷ input ∷ [])

abbrev pub items : List LowItem
items = low_item.Show (115 ∷ []) delay ∷ []

abbrev pub plan : Plan
plan = record { functions = []; table = record { functions = []; kernels = [] }; node_of = λ s. s }

abbrev pub truth : Bool → Seen
truth b = plain (value.Bool b)

abbrev sources_of : Bool → List Now
sources_of b = Plain (value.Bool b) ∷ []

delay_wired : (g : Graph) (n : ℕ) → IsSource g plan 0 → IsNext g 0 (suc n) (works (operates operator.Delay)) (steady (truth false) ∷ []) (Some (signal 0)) (1 ∷ [])
    → ItemsStand (place plan (suc (suc n))) (Wired g plan 0 (suc (suc n))) [] items (1 ∷ [])
unfolding place Wired
delay_wired g n src next = rw (outs-Operator operator.Delay (initial ∷ input ∷ []), outs-Lit (value.Bool false), outs-Source (record { 0 = 0 })) (((tt, (src, tt)), next), tt)

delay_placed : (n : ℕ) → place_items (place plan (suc (suc n))) [] items (1 ∷ []) ≡ record { parts = signal 1 ∷ []; left = [] }
unfolding place
delay_placed n = rw (outs-Operator operator.Delay (initial ∷ input ∷ []), outs-Lit (value.Bool false), outs-Source (record { 0 = 0 })) refl

-- THE NODES

abbrev kinds : ℕ → Kind
kinds = table (source 0 ∷ works (operates operator.Delay) ∷ []) result

abbrev inputs : ℕ → List Part
inputs = table ([] ∷ (steady (truth false) ∷ []) ∷ []) []

abbrev laters : ℕ → Option Part
laters = table (None ∷ Some (signal 0) ∷ []) None

abbrev levels : ℕ → ℕ
levels = table (0 ∷ 1999 ∷ []) 0

abbrev two : ℕ → Bool
two = table (true ∷ true ∷ []) false

abbrev members : ℕ → List ℕ
members = table ((0 ∷ 1 ∷ []) ∷ []) []

abbrev ranks : ℕ → ℕ
ranks = table (0 ∷ 1 ∷ []) 0

no_watch : (m : ℕ) → is_watch (kinds m) ≡ false
no_watch = each_2 _ refl refl (λ m. refl)

no_result : (m : ℕ) → two m ≡ true → kinds m ≡ result → ⊥
no_result = each_2 _ (λ lv k. cc) (λ lv k. cc) (λ m lv k. off lv)

abbrev pub none_yet : Graph
none_yet = record { live = λ m. false; kind = kinds; inputs = inputs; later = laters; value = λ m. Err Deep; cell = λ m. None; level = levels; era = λ m. 0; members = λ x. []; result_of = λ m. 0 }

abbrev pub built : Way
built = record {
  graph = record { live = two; kind = kinds; inputs = inputs; later = laters; value = λ m. Err Deep; cell = λ m. None; level = levels; era = λ m. 0; members = members; result_of = λ m. 0 };
  taken = two;
  height = λ m. 0;
  done = λ m. false;
  queued = table (Some 0 ∷ Some 0 ∷ []) None;
}

reads_none : (m j : ℕ) → Reads j (inputs m) → ⊥
reads_none = each_2 _ (λ j rd. rd) (λ j rd. rd) (λ m j rd. rd)

watch_none : {A : Type 0} (m : ℕ) → is_watch (kinds m) ≡ true → A
watch_none {A} m iw = let e : Path Bool false true = sym (no_watch m) ∙ iw in off e

built_framed : IsFramed built.graph (λ m. 0)
built_framed = record {
  members = record {
    member = λ x m h. member x m h;
    joined = each_2 _ (λ lv. refl) (λ lv. refl) (λ m lv. off lv);
    owner = λ m w lv e. no_owner w e;
    sources = λ m lv s. refl;
  };
  results = record {
    live = λ w lv iw. watch_none w iw;
    kind = λ w lv iw. watch_none w iw;
    era = λ w lv iw. watch_none w iw;
    apart = λ v w lv lw iv iw e. watch_none v iv;
    watched = λ m lv k. absurd (no_result m lv k);
  };
  scoped = record {
    names = each_2 _
        (λ j lv non nm. names_by built.graph 0 j (λ rd. absurd rd) (λ l. no_part (signal j) l) (λ h. absurd h) nm)
        (λ j lv non nm. names_by built.graph 1 j (λ rd. absurd rd) (λ l. (let zero_is : 0 ≡ j = signal_same 0 j l in record { live = subst (λ (i : ℕ). two i ≡ true) zero_is refl; where_from = inl refl })) (λ h. absurd h) nm)
        (λ m j lv non nm. off lv);
    results = λ w j lv iw rd. watch_none w iw;
    later = λ m lv k. absurd (no_result m lv k);
    no_watch = λ m j lv nm. no_watch j;
    calm = each_2 _ (λ w lv k. tt) (λ w lv k. (refl, tt)) (λ m w lv k. off lv);
  };
  order = record {
    rank = ranks;
    input = λ m j lv rd. absurd (reads_none m j rd);
    held = each_2 _ (λ j lv h. absurd h) (λ j lv h. absurd h) (λ m j lv h. off lv);
    owner = λ m w lv e. no_owner w e;
    before_result = λ m w lm lw iw s. watch_none w iw;
    sources = each_2 _ above (λ m ls lm is non. off is) (λ s m ls lm is non. off ls);
  };
  levelled = record {
    input = λ m j lv rd. absurd (reads_none m j rd);
    owner = λ m w lv e. no_owner w e;
    result = λ w lv iw. watch_none w iw;
  };
}
  where
    signal_same : (i j : ℕ) → Path (Option Part) (Some (signal i)) (Some (signal j)) → i ≡ j
    signal_same i j e = cc

    above : (m : ℕ) → true ≡ true → two m ≡ true → true ≡ true → is_source (kinds m) ≡ false → 0 < ranks m
    above = each_2 _ (λ ls lm is non. on non) (λ ls lm is non. omega arith) (λ m ls lm is non. off lm)

    member : (x m : ℕ) → has_item (members x) m ≡ true → (two m ≡ true) × (0 ≡ x)
    member zero m h = elim (among (0 ∷ 1 ∷ []) m h) [
      | inl e ↦ (subst (λ (i : ℕ). two i ≡ true) e refl, refl)
      | inr more ↦ elim more [ inl e ↦ (subst (λ (i : ℕ). two i ≡ true) e refl, refl) | inr no_more ↦ absurd no_more ]
    ]
    member (suc x) m h = off h

pub built_well : IsBuilt plan items (1 ∷ []) none_yet built
built_well = record {
  empty = λ m. refl;
  frame = built_framed;
  items = delay_wired built.graph 1998 (record { live = refl; kind = refl }) (record { there = omega arith; live = refl; era = refl; level = refl; kind = refl; inputs = refl; later = refl });
  era = λ m lv. refl;
  cell = λ m lv. refl;
  done = λ m lv. refl;
  queued = each_2 _ (λ lv. refl) (λ lv. refl) (λ m lv. off lv);
  no_other = each_2 _ (λ non. on non) (λ non. on non) (λ m non. refl);
  taken = λ m lv. lv;
}

pub built_used : AreUsed built.graph plan items (1 ∷ [])
built_used = record {
  among = each_2 _ (λ lv e s. on s) (λ lv e s. refl) (λ m lv e s. off lv);
  all = ap (λ (s : Shown). s.left) (delay_placed 1998);
}

begun : IsOnItsWay plan items (1 ∷ []) 2 (sources_of true) none_yet built
begun = on_its_way_built plan items (1 ∷ []) 2 (sources_of true) none_yet built built_well built_used (λ m use_m. use_m) (each_2 _ (λ t. omega arith) (λ t. omega arith) (λ m t. off t))

-- THE FIRST INSTANT, at which x is true: the delay shows its initial value

abbrev input_on : Way
input_on = computed built 0 (truth true) None

input_computes : Computes plan (sources_of true) none_yet built input_on 0
input_computes = computes_by plan items (1 ∷ []) (sources_of true) none_yet built 0 0 (truth true) None begun.under_way (record { was = refl; least = λ j k e. omega arith })
    (record { now = Plain (value.Bool true); there = refl; value = refl }) (λ w k late. refl) (λ iw. off iw)

input_went : IsOnItsWay plan items (1 ∷ []) 2 (sources_of true) none_yet input_on
input_went = on_its_way_computed plan items (1 ∷ []) 2 (sources_of true) none_yet built input_on 0 begun input_computes

abbrev delay_on : Way
delay_on = computed input_on 1 (truth false) None

delay_computes : Computes plan (sources_of true) none_yet input_on delay_on 1
delay_computes = computes_by plan items (1 ∷ []) (sources_of true) none_yet input_on 1 0 (truth false) None input_went.under_way (record { was = refl; least = λ j k e. omega arith })
    (record { value = refl; clean = record { value = refl; inner = refl; refusal = refl }; cell = λ early. on early }) (λ w k late. refl) (λ iw. off iw)

delay_went : IsOnItsWay plan items (1 ∷ []) 2 (sources_of true) none_yet delay_on
delay_went = on_its_way_computed plan items (1 ∷ []) 2 (sources_of true) none_yet input_on delay_on 1 input_went delay_computes

-- BEHIND IT the cell takes the value of x

abbrev latched : Way → Bool → Way
latched at b = record at { graph = record at.graph { cell = put 1 (Some (datum (value.Bool b))) at.graph.cell } }

work_same : (v w : Work) → works v ≡ works w → v ≡ w
work_same v w e = cc

part_same : (q r : Part) → Path (Option Part) (Some q) (Some r) → q ≡ r
part_same q r e = cc

takes_on : Takes delay_on.graph (latched delay_on true).graph
takes_on = record {
  shape = record { live = λ m. refl; kind = λ m. refl; inputs = λ m. refl; later = λ m. refl; level = λ m. refl; era = λ m. refl; members = λ x. refl; result_of = λ m. refl };
  value = λ m. refl;
  others = each_2 _ (λ early. refl) (λ early. absurd (early (operates operator.Delay) refl refl)) (λ m early. refl);
  latched = each_2 _
      (λ w last lv k late l. absurd cc)
      (λ w last lv k late l. subst (λ (v : Work). IsLatched (latched delay_on true).graph 1 v last) (work_same (operates operator.Delay) w k)
      (subst (λ (q : Part). IsLatched (latched delay_on true).graph 1 (operates operator.Delay) q) (part_same (signal 0) last l) (record { taken = datum (value.Bool true); takes = refl; kept = refl })))
      (λ m w last lv k late l. off lv);
}

closes_on : Closes delay_on (latched delay_on true).graph (latched delay_on true)
closes_on = record {
  empty = each_2 _ refl refl (λ m. refl);
  takes = takes_on;
  buries = buries_none (latched delay_on true).graph;
  queue = each_2 _ refl refl (λ m. refl);
  taken = λ m. refl;
  heights = λ m lv. refl;
}

whole_on : IsWhole plan items (1 ∷ []) 2 (sources_of true) (cell_in none_yet) (latched delay_on true)
whole_on = closed_whole plan items (1 ∷ []) 2 (sources_of true) none_yet delay_on (latched delay_on true).graph (latched delay_on true) delay_went closes_on

went_on : Goes none_yet (latched delay_on true).graph (cell_in none_yet)
went_on = (closed_well plan items (1 ∷ []) 2 (sources_of true) none_yet delay_on (latched delay_on true).graph (latched delay_on true) delay_went closes_on).goes

-- A FURTHER INSTANT, at which x is false: queued are x, and the delay, which is to show what it kept

abbrev restarted : Way
restarted = record (latched delay_on true) { done = λ m. false; queued = table (Some 0 ∷ Some 0 ∷ []) None }

starts_again : Starts (sources_of false) (latched delay_on true) restarted
starts_again = record {
  begins = record {
    graph = refl;
    done = λ m. refl;
    taken = λ m lv. lv;
    queue = each_2 _ (λ h e. (refl, height_of 0 h e)) (λ h e. (refl, height_of 0 h e)) (λ m h e. none h e);
    set = each_2 _ (λ s lv k. inl refl) (λ s lv k. inl refl) (λ m s lv k. off lv);
    occurred = each_2 _ (λ lv. inl refl) (λ lv. inl refl) (λ m lv. off lv);
    kept = each_2 _ (λ w lv k late. inl refl) (λ w lv k late. inl refl) (λ m w lv k late. off lv);
  };
  taken = λ m. refl;
  heights = λ m lv. refl;
}
  where
    height_of : (a h : ℕ) → Path (Option ℕ) (Some a) (Some h) → h ≡ a
    height_of a h e = cc

begun_again : IsOnItsWay plan items (1 ∷ []) 2 (sources_of false) (latched delay_on true).graph restarted
begun_again = on_its_way_started plan items (1 ∷ []) 2 (sources_of false) (sources_of true) (cell_in none_yet) (latched delay_on true) restarted whole_on starts_again

abbrev input_off : Way
input_off = computed restarted 0 (truth false) None

input_computes_again : Computes plan (sources_of false) (latched delay_on true).graph restarted input_off 0
input_computes_again = computes_by plan items (1 ∷ []) (sources_of false) (latched delay_on true).graph restarted 0 0 (truth false) None begun_again.under_way (record { was = refl; least = λ j k e. omega arith })
    (record { now = Plain (value.Bool false); there = refl; value = refl }) (λ w k late. refl) (λ iw. off iw)

input_went_again : IsOnItsWay plan items (1 ∷ []) 2 (sources_of false) (latched delay_on true).graph input_off
input_went_again = on_its_way_computed plan items (1 ∷ []) 2 (sources_of false) (latched delay_on true).graph restarted input_off 0 begun_again input_computes_again

-- its cell stays while the instant is under way
abbrev delay_off : Way
delay_off = computed input_off 1 (truth true) (Some (datum (value.Bool true)))

delay_computes_again : Computes plan (sources_of false) (latched delay_on true).graph input_off delay_off 1
delay_computes_again = computes_by plan items (1 ∷ []) (sources_of false) (latched delay_on true).graph input_off 1 0 (truth true) (Some (datum (value.Bool true))) input_went_again.under_way (record { was = refl; least = λ j k e. omega arith })
    (record { value = refl; clean = record { value = refl; inner = refl; refusal = refl }; cell = λ early. on early }) (λ w k late. refl) (λ iw. off iw)

delay_went_again : IsOnItsWay plan items (1 ∷ []) 2 (sources_of false) (latched delay_on true).graph delay_off
delay_went_again = on_its_way_computed plan items (1 ∷ []) 2 (sources_of false) (latched delay_on true).graph input_off delay_off 1 input_went_again delay_computes_again

takes_off : Takes delay_off.graph (latched delay_off false).graph
takes_off = record {
  shape = record { live = λ m. refl; kind = λ m. refl; inputs = λ m. refl; later = λ m. refl; level = λ m. refl; era = λ m. refl; members = λ x. refl; result_of = λ m. refl };
  value = λ m. refl;
  others = each_2 _ (λ early. refl) (λ early. absurd (early (operates operator.Delay) refl refl)) (λ m early. refl);
  latched = each_2 _
      (λ w last lv k late l. absurd cc)
      (λ w last lv k late l. subst (λ (v : Work). IsLatched (latched delay_off false).graph 1 v last) (work_same (operates operator.Delay) w k)
      (subst (λ (q : Part). IsLatched (latched delay_off false).graph 1 (operates operator.Delay) q) (part_same (signal 0) last l) (record { taken = datum (value.Bool false); takes = refl; kept = refl })))
      (λ m w last lv k late l. off lv);
}

closes_again : Closes delay_off (latched delay_off false).graph (latched delay_off false)
closes_again = record {
  empty = each_2 _ refl refl (λ m. refl);
  takes = takes_off;
  buries = buries_none (latched delay_off false).graph;
  queue = each_2 _ refl refl (λ m. refl);
  taken = λ m. refl;
  heights = λ m lv. refl;
}

whole_again : IsWhole plan items (1 ∷ []) 2 (sources_of false) (cell_in (latched delay_on true).graph) (latched delay_off false)
whole_again = closed_whole plan items (1 ∷ []) 2 (sources_of false) (latched delay_on true).graph delay_off (latched delay_off false).graph (latched delay_off false) delay_went_again closes_again

went_again : Goes (latched delay_on true).graph (latched delay_off false).graph (cell_in (latched delay_on true).graph)
went_again = (closed_well plan items (1 ∷ []) 2 (sources_of false) (latched delay_on true).graph delay_off (latched delay_off false).graph (latched delay_off false) delay_went_again closes_again).goes

-- BESIDE EVALUATING AFRESH

abbrev pub program : Program
program = record { inputs = []; events = []; functions = []; body = map (erased_item []) items }

sound_part : (e : Low) (x : ℕ × Low) → Sound plan.table 0 e → Path (Option (ℕ × Low)) (Some (0, e)) (Some x) → Sound plan.table (0 + x.0) x.1
sound_part e x s h = subst (λ (y : ℕ × Low). Sound plan.table (0 + y.0) y.1) (some_part (0, e) x h) s

delay_sound : Sound plan.table 0 delay
delay_sound = sound_by plan.table 0 delay (Low-F.Operator operator.Delay (initial ∷ input ∷ [])) (outs-Operator operator.Delay (initial ∷ input ∷ [])) refl tt parts
  where
    parts : (i : ℕ) (x : ℕ × Low) → slice_get (inner_low (Low-F.Operator operator.Delay (initial ∷ input ∷ []))) i ≡ Some x → Sound plan.table (0 + x.0) x.1
    parts zero x h = sound_part initial x (sound_by plan.table 0 initial (Low-F.Lit (value.Bool false)) (outs-Lit (value.Bool false)) tt tt (λ i y g. absurd cc)) h
    parts (suc zero) x h = sound_part input x (sound_by plan.table 0 input (Low-F.Source (record { 0 = 0 })) (outs-Source (record { 0 = 0 })) tt tt (λ i y g. absurd cc)) h
    parts (suc (suc i)) x h = absurd cc

pub lowered : AreLowered program plan items
lowered = record {
  plan = record {
    functions = refl;
    table = refl;
    pure = λ i k h. absurd cc;
    slots = λ i k h. absurd cc;
    bodies = λ i f h. absurd cc;
  };
  items = refl;
  sound = (delay_sound, tt);
}

abbrev kept_on : Kept
kept_on = kept.Group (body program (sources_of true) kept.Nothing).kepts

afresh_on : IsAfresh (latched delay_on true).graph program plan items (1 ∷ []) (sources_of true) kept.Nothing
afresh_on = first_afresh none_yet (latched delay_on true).graph program plan items (1 ∷ []) (sources_of true) (cell_in none_yet) lowered (λ m. refl) went_on whole_on.nodes whole_on.settled

afresh_again : IsAfresh (latched delay_off false).graph program plan items (1 ∷ []) (sources_of false) kept_on
afresh_again = instant_afresh (latched delay_on true).graph (latched delay_off false).graph program plan items (1 ∷ []) (sources_of false) (cell_in (latched delay_on true).graph) kept_on lowered went_again whole_on.nodes whole_again.nodes whole_again.settled afresh_on.stands
