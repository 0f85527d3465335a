-- A worked graph: `(show s (if x (not x) 7))`, through a first instant, in which its watch chooses for the first time, and a further one, in which it turns. Every premise of the laws on the way is met.
use Rattle.std.proofs.Common.{◌≡◌, inl, inr, ◌<◌, ℕ, zero, suc, pos, Bool, true, false, List, [], ◌∷◌, refl, ap, sym, ◌∙◌, subst, arith, Option, Some, None, Err}
use Rattle.std.specs.Option.{option_map}
use Rattle.fr_links.specs.Lists.{has_item}
use Rattle.fr_value.specs.declared.now.Now.{Now}
use Rattle.fr_value.specs.declared.now.Now.TheVariants.{Plain}
use Rattle.fr_value.specs.declared.now.Bad.TheVariants.{Deep}
use Rattle.fr_value.specs.declared.primitive.Primitive.TheVariants as prim
use Rattle.fr_value.specs.declared.value.Value.TheVariants as value
use Rattle.fr_core.specs.declared.core_form.Operator.TheVariants as operator
use Rattle.fr_core.specs.declared.lowered.Low.{Low}
use Rattle.fr_core.specs.declared.lowered.Low.TheVariants as low
use Rattle.fr_core.specs.declared.lowered.Low.TheVariants.{outs-Lit, outs-Source, outs-If, outs-Operator}
use Rattle.fr_core.specs.declared.lowered.LowItem.{LowItem}
use Rattle.fr_core.specs.declared.lowered.LowItem.TheVariants as low_item
use Rattle.fr_meaning.specs.Words.{Seen, plain}
use Rattle.fr_meaning.specs.Primitives.{applied}
use Rattle.fr_graph.specs.Graph.{Part, steady, signal, Work, operates, Kind, source, works, watch, result, Graph, is_late}
use Rattle.fr_graph.specs.Walk.{Plan, Placed, place}
use Rattle.fr_graph.specs.Wired.{IsNext, AreNext, IsSource, Wired}
use Rattle.fr_graph.specs.Known.{Reads}
use Rattle.fr_graph.specs.Goes.{Goes}
use Rattle.fr_graph.specs.Items.{Shown, place_items, ItemsStand}
use Rattle.fr_way.specs.Frame.{is_source, is_watch, InScope, IsFramed, here}
use Rattle.fr_way.specs.Way.{Way, cell_in}
use Rattle.fr_way.specs.Steps.{IsLeast, Computes}
use Rattle.fr_way.specs.Turns.{IsNew, AreBuilt, Kills, Grows, Rewires, Raises, Replaces, Turns}
use Rattle.fr_way.specs.Ends.{IsBuilt}
use Rattle.fr_way.specs.Fronts.{AreUsed}
use Rattle.fr_way.specs.Burial.{Buries}
use Rattle.fr_way.specs.Loop.{IsWhole, IsOnItsWay, Starts, Closes}
use Rattle.fr_way.proofs.Names.{inside_owned, inside_lives}
use Rattle.fr_way.proofs.TurnOrder.{levelled_but, levelled_all, raises_by}
use Rattle.fr_way.proofs.Buried.{buries_none}
use Rattle.fr_way.proofs.Loop.{on_its_way_built, on_its_way_started, on_its_way_computed, on_its_way_turned, closed_well, closed_whole}
use Rattle.fr_way.proofs.Concrete.{table, each_3, each_4, off, on, none, no_part, no_owner, at_least, among, put, names_by, computed, computes_by, set_to, sets_to, kills_none, grows_none, rewired, rewires_to, queued_at, queues_at}

-- THE PROGRAM. The input x is source 0, which has node 0.

abbrev pub input : Low
input = low.Source (record { 0 = 0 })

abbrev pub negated : Low
negated = low.Operator (operator.Prim prim.Not) (input ∷ [])

abbrev pub seven : Low
seven = low.Lit (value.Int (pos 7))

abbrev pub switch : Low
switch = low.If (record { 0 = 0 }) input negated seven

abbrev pub items : List LowItem
items = low_item.Show (115 ∷ []) switch ∷ []

abbrev pub plan : Plan
plan = record { functions = []; table = record { functions = []; kernels = [] }; node_of = λ s. s }

-- the watch and its result
abbrev pub members_shown : List ℕ
members_shown = 1 ∷ 2 ∷ []

abbrev pub truth : Bool → Seen
truth b = plain (value.Bool b)

abbrev pub sources_of : Bool → List Now
sources_of b = Plain (value.Bool b) ∷ []

-- THE WALK

switch_wired : (g : Graph) (n : ℕ) → IsSource g plan 0 → AreNext g 0 (suc (suc n)) negated seven [] 0 members_shown → ItemsStand (place plan (suc (suc (suc n)))) (Wired g plan 0 (suc (suc (suc n)))) [] items members_shown
unfolding place Wired
switch_wired g n src next = rw (outs-If (record { 0 = 0 }) input negated seven, outs-Source (record { 0 = 0 })) ((src, next), tt)

pub switch_placed : (n : ℕ) → place_items (place plan (suc (suc (suc n)))) [] items members_shown ≡ record { parts = signal 2 ∷ []; left = [] }
unfolding place
switch_placed n = rw (outs-If (record { 0 = 0 }) input negated seven, outs-Source (record { 0 = 0 })) refl

negated_wired : (g : Graph) (n : ℕ) → IsSource g plan 0 → IsNext g 2 (suc n) (works (operates (operator.Prim prim.Not))) (signal 0 ∷ []) None (3 ∷ []) → Wired g plan 2 (suc (suc n)) negated [] (3 ∷ [])
unfolding place Wired
negated_wired g n src next = rw (outs-Operator (operator.Prim prim.Not) (input ∷ []), outs-Source (record { 0 = 0 })) ((src, tt), next)

negated_placed : (n : ℕ) → place plan (suc (suc n)) negated [] (3 ∷ []) ≡ record { part = signal 3; left = [] }
unfolding place
negated_placed n = rw (outs-Operator (operator.Prim prim.Not) (input ∷ []), outs-Source (record { 0 = 0 })) refl

seven_wired : (g : Graph) (n : ℕ) → Wired g plan 2 (suc n) seven [] []
unfolding Wired
seven_wired g n = rw (outs-Lit (value.Int (pos 7))) tt

seven_placed : (n : ℕ) → place plan (suc n) seven [] [] ≡ record { part = steady (plain (value.Int (pos 7))); left = [] }
unfolding place
seven_placed n = rw (outs-Lit (value.Int (pos 7))) refl

-- THE NODES: x, the watch, its result, and in the watch's era the node of `(not x)`

abbrev pub kinds : ℕ → Kind
kinds = table (source 0 ∷ watch negated seven [] ∷ result ∷ works (operates (operator.Prim prim.Not)) ∷ []) result

abbrev inputs_0 : ℕ → List Part
inputs_0 = table ([] ∷ (signal 0 ∷ []) ∷ [] ∷ (signal 0 ∷ []) ∷ []) []

abbrev levels : ℕ → ℕ
levels = table (0 ∷ 1999 ∷ 0 ∷ 1998 ∷ []) 0

abbrev eras : ℕ → ℕ
eras = table (0 ∷ 0 ∷ 0 ∷ 2 ∷ []) 0

abbrev three : ℕ → Bool
three = table (true ∷ true ∷ true ∷ []) false

abbrev four : ℕ → Bool
four = table (true ∷ true ∷ true ∷ true ∷ []) false

abbrev top_members : ℕ → List ℕ
top_members = table ((0 ∷ 1 ∷ 2 ∷ []) ∷ []) []

abbrev all_members : ℕ → List ℕ
all_members = table ((0 ∷ 1 ∷ 2 ∷ []) ∷ [] ∷ (3 ∷ []) ∷ []) []

abbrev heights_0 : ℕ → ℕ
heights_0 = table (0 ∷ 1 ∷ 2 ∷ 2 ∷ []) 0

abbrev heights_1 : ℕ → ℕ
heights_1 = table (0 ∷ 1 ∷ 3 ∷ 2 ∷ []) 0

-- only node 1 is a watch
only_watch : (w : ℕ) → is_watch (kinds w) ≡ true → w ≡ 1
only_watch = each_4 _ (λ iw. off iw) (λ iw. refl) (λ iw. off iw) (λ iw. off iw) (λ m iw. off iw)

-- none of them is late

abbrev late_in : Kind → Bool
late_in (works v) = is_late v
late_in k = false

not_late : (m : ℕ) (w : Work) → kinds m ≡ works w → is_late w ≡ true → ⊥
not_late = each_4 _
    (λ w e late. off (ap late_in e ∙ late))
    (λ w e late. off (ap late_in e ∙ late))
    (λ w e late. off (ap late_in e ∙ late))
    (λ w e late. off (ap late_in e ∙ late))
    (λ m w e late. off (ap late_in e ∙ late))

-- BUILT

abbrev pub none_yet : Graph
none_yet = record { live = λ m. false; kind = kinds; inputs = inputs_0; later = λ m. None; value = λ m. Err Deep; cell = λ m. None; level = levels; era = eras; members = λ x. []; result_of = λ m. 2 }

abbrev pub built : Way
built = record {
  graph = record { live = three; kind = kinds; inputs = inputs_0; later = λ m. None; value = λ m. Err Deep; cell = λ m. None; level = levels; era = eras; members = top_members; result_of = λ m. 2 };
  taken = three;
  height = heights_0;
  done = λ m. false;
  queued = table (Some 0 ∷ Some 1 ∷ Some 2 ∷ []) None;
}

built_framed : IsFramed built.graph heights_0
built_framed = record {
  members = record {
    member = λ x m h. member x m h;
    joined = each_3 _ (λ lv. refl) (λ lv. refl) (λ lv. refl) (λ m lv. off lv);
    owner = each_3 _ (λ w lv e. no_owner w e) (λ w lv e. no_owner w e) (λ w lv e. no_owner w e) (λ m w lv e. off lv);
    sources = each_3 _ (λ lv s. refl) (λ lv s. refl) (λ lv s. refl) (λ m lv s. off lv);
  };
  results = record {
    live = λ w lv iw. refl;
    kind = λ w lv iw. refl;
    era = each_3 _ (λ lv iw. refl) (λ lv iw. refl) (λ lv iw. refl) (λ m lv iw. off lv);
    apart = λ v w lv lw iv iw e. only_watch v iv ∙ sym (only_watch w iw);
    watched = each_3 _ (λ lv k. absurd cc) (λ lv k. absurd cc) (λ lv k. (1, refl, refl, refl)) (λ m lv k. off lv);
  };
  scoped = record {
    names = each_3 _
        (λ j lv non nm. names_by built.graph 0 j (λ rd. absurd rd) (λ l. no_part (signal j) l) (λ h. absurd h) nm)
        (λ j lv non nm. names_by built.graph 1 j (λ rd. elim rd [ inl e ↦ subst (λ (i : ℕ). InScope built.graph 0 i) e input_scope | inr more ↦ absurd more ]) (λ l. no_part (signal j) l) (λ h. absurd h) nm)
        (λ j lv non nm. absurd (non refl))
        (λ m j lv non nm. off lv);
    results = λ w j lv iw rd. absurd rd;
    later = λ m lv k. refl;
    no_watch = each_3 _
        (λ j lv nm. names_by built.graph 0 j (λ rd. absurd rd) (λ l. no_part (signal j) l) (λ h. absurd h) nm)
        (λ j lv nm. names_by built.graph 1 j (λ rd. elim rd [ inl e ↦ subst (λ (i : ℕ). is_watch (kinds i) ≡ false) e refl | inr more ↦ absurd more ]) (λ l. no_part (signal j) l) (λ h. absurd h) nm)
        (λ j lv nm. names_by built.graph 2 j (λ rd. absurd rd) (λ l. no_part (signal j) l) (λ h. absurd h) nm)
        (λ m j lv nm. off lv);
    calm = each_3 _ (λ w lv k. tt) (λ w lv k. tt) (λ w lv k. tt) (λ m w lv k. off lv);
  };
  order = record {
    rank = heights_0;
    input = rises;
    held = each_3 _ (λ j lv h. absurd h) (λ j lv h. absurd h) (λ j lv h. absurd h) (λ m j lv h. off lv);
    owner = owned;
    before_result = each_3 _
        (λ w lm lw iw s. omega arith)
        (λ w lm lw iw s. omega arith)
        (λ w lm lw iw s. elim s [ inl e ↦ (let one : w ≡ 1 = only_watch w iw in absurd (omega arith)) | inr e ↦ no_owner w e ])
        (λ m w lm lw iw s. off lm);
    sources = λ s m ls lm is non. source_first s m is lm non;
  };
  levelled = record {
    input = rises;
    owner = owned;
    result = λ w lv iw. let one : w ≡ 1 = only_watch w iw in subst (λ (i : ℕ). heights_0 i < 2) (sym one) (omega arith);
  };
}
  where
    input_scope : InScope built.graph 0 0
    input_scope = record { live = refl; where_from = inl refl }

    member : (x m : ℕ) → has_item (top_members x) m ≡ true → (three m ≡ true) × (eras m ≡ x)
    member zero m h = elim (among (0 ∷ 1 ∷ 2 ∷ []) m h) [
      | inl e ↦ subst (λ (i : ℕ). (three i ≡ true) × (eras i ≡ 0)) e (refl, refl)
      | inr more ↦ elim more [
        | inl e ↦ subst (λ (i : ℕ). (three i ≡ true) × (eras i ≡ 0)) e (refl, refl)
        | inr last ↦ elim last [
          | inl e ↦ subst (λ (i : ℕ). (three i ≡ true) × (eras i ≡ 0)) e (refl, refl)
          | inr no_more ↦ absurd no_more
        ]
      ]
    ]
    member (suc x) m h = off h

    rises : (m j : ℕ) → three m ≡ true → Reads j (inputs_0 m) → heights_0 j < heights_0 m
    rises = each_3 _
        (λ j lv rd. absurd rd)
        (λ j lv rd. elim rd [ inl e ↦ subst (λ (i : ℕ). heights_0 i < 1) e (omega arith) | inr more ↦ absurd more ])
        (λ j lv rd. absurd rd)
        (λ m j lv rd. off lv)

    owned : (m w : ℕ) → three m ≡ true → eras m ≡ suc w → heights_0 w < heights_0 m
    owned = each_3 _ (λ w lv e. no_owner w e) (λ w lv e. no_owner w e) (λ w lv e. no_owner w e) (λ m w lv e. off lv)

    source_first : (s m : ℕ) → is_source (kinds s) ≡ true → three m ≡ true → is_source (kinds m) ≡ false → heights_0 s < heights_0 m
    source_first = each_4 _
        (λ m is lm non. above m lm non)
        (λ m is lm non. off is)
        (λ m is lm non. off is)
        (λ m is lm non. off is)
        (λ s m is lm non. off is)
      where
        above : (m : ℕ) → three m ≡ true → is_source (kinds m) ≡ false → 0 < heights_0 m
        above = each_3 _ (λ lm non. on non) (λ lm non. omega arith) (λ lm non. omega arith) (λ m lm non. off lm)

pub built_well : IsBuilt plan items members_shown none_yet built
built_well = record {
  empty = λ m. refl;
  frame = built_framed;
  items = switch_wired built.graph 1997 (record { live = refl; kind = refl }) (record {
    watch = record { there = omega arith; live = refl; era = refl; level = refl; kind = refl; inputs = refl; later = refl };
    there = omega arith;
    live = refl;
    era = refl;
    kind = refl;
    result = refl;
  });
  era = each_3 _ (λ lv. refl) (λ lv. refl) (λ lv. refl) (λ m lv. off lv);
  cell = λ m lv. refl;
  done = λ m lv. refl;
  queued = each_3 _ (λ lv. refl) (λ lv. refl) (λ lv. refl) (λ m lv. off lv);
  no_other = each_3 _ (λ non. on non) (λ non. on non) (λ non. on non) (λ m non. refl);
  taken = λ m lv. lv;
}

pub built_used : AreUsed built.graph plan items members_shown
built_used = record {
  among = each_3 _ (λ lv e s. on s) (λ lv e s. refl) (λ lv e s. refl) (λ m lv e s. off lv);
  all = ap (λ (s : Shown). s.left) (switch_placed 1997);
}

begun : IsOnItsWay plan items members_shown 4 (sources_of true) none_yet built
begun = on_its_way_built plan items members_shown 4 (sources_of true) none_yet built built_well built_used (λ m use_m. use_m) (each_3 _ (λ t. omega arith) (λ t. omega arith) (λ t. omega arith) (λ m t. off t))

-- THE INPUT IS COMPUTED, to true

abbrev input_on : Way
input_on = computed built 0 (truth true) None

input_first : IsLeast built 0 0
input_first = record { was = refl; least = λ j k e. omega arith }

input_computes : Computes plan (sources_of true) none_yet built input_on 0
input_computes = computes_by plan items members_shown (sources_of true) none_yet built 0 0 (truth true) None begun.under_way input_first
    (record { now = Plain (value.Bool true); there = refl; value = refl }) (λ w k late. refl) (λ iw. off iw)

input_went : IsOnItsWay plan items members_shown 4 (sources_of true) none_yet input_on
input_went = on_its_way_computed plan items members_shown 4 (sources_of true) none_yet built input_on 0 begun input_computes

-- THE WATCH CHOOSES for the first time: node 3 is made, the result reads it and rises above it

abbrev watch_on : Way
watch_on = set_to input_on 1 (truth true)

abbrev grown : Way
grown = record watch_on {
  graph = record watch_on.graph { live = four; members = all_members };
  taken = four;
  queued = put 3 (Some 2) watch_on.queued;
}

abbrev rewired_on : Way
rewired_on = rewired grown 2 (signal 3)

abbrev raised_on : Way
raised_on = record rewired_on { height = heights_1; queued = λ m. option_map (λ k. heights_1 m) (rewired_on.queued m) }

abbrev turned_on : Way
turned_on = queued_at raised_on 2

watch_least : IsLeast input_on 1 1
watch_least = record {
  was = refl;
  least = each_3 _ (λ k e. none k e) (λ k e. at_least 1 0 k e) (λ k e. at_least 1 1 k e) (λ m k e. none k e);
}

none_owned : (i : ℕ) → three i ≡ true → eras i ≡ 2 → ⊥
none_owned = each_3 _ (λ lv e. no_owner 1 e) (λ lv e. no_owner 1 e) (λ lv e. no_owner 1 e) (λ m lv e. off lv)

grown_built : AreBuilt watch_on.graph grown.graph 2 []
grown_built = record {
  era = each_4 _ (λ w. on w.0) (λ w. on w.0) (λ w. on w.0) (λ w. refl) (λ m w. off w.1);
  no_source = each_4 _ (λ w. on w.0) (λ w. on w.0) (λ w. on w.0) (λ w. refl) (λ m w. off w.1);
  joined = each_4 _ (λ w. on w.0) (λ w. on w.0) (λ w. on w.0) (λ w. refl) (λ m w. off w.1);
  only = λ m h. elim (among (3 ∷ []) m h) [ inl e ↦ subst (λ (i : ℕ). IsNew watch_on.graph grown.graph i) e (refl, refl) | inr more ↦ absurd more ];
  place = λ m. 0;
  many = 1;
  few = λ m w. omega arith;
  behind = each_4 _ (λ w. on w.0) (λ w. on w.0) (λ w. on w.0)
      (λ w. record {
        inputs = λ j rd. elim rd [ inl e ↦ inl (inr (subst (λ (i : ℕ). (four i ≡ true) × (is_source (kinds i) ≡ true)) e (refl, refl))) | inr more ↦ absurd more ];
        held = λ j h. absurd h;
        later = λ j l. no_part (signal j) l;
      })
      (λ m w. off w.1);
  no_watch = each_4 _ (λ j w nm. on w.0) (λ j w nm. on w.0) (λ j w nm. on w.0)
      (λ j w nm. names_by grown.graph 3 j (λ rd. elim rd [ inl e ↦ subst (λ (i : ℕ). is_watch (kinds i) ≡ false) e refl | inr more ↦ absurd more ]) (λ l. no_part (signal j) l) (λ h. absurd h) nm)
      (λ m j w nm. off w.1);
  results = each_4 _ (λ w iw. on w.0) (λ w iw. on w.0) (λ w iw. on w.0) (λ w iw. off iw) (λ m w iw. off w.1);
  unread = each_4 _ (λ w k. on w.0) (λ w k. on w.0) (λ w k. on w.0) (λ w k. absurd cc) (λ m w k. off w.1);
  watched = each_4 _ (λ w k. on w.0) (λ w k. on w.0) (λ w k. on w.0) (λ w k. absurd cc) (λ m w k. off w.1);
  calm = each_4 _ (λ v w k. on w.0) (λ v w k. on w.0) (λ v w k. on w.0) (λ v w k. tt) (λ m v w k. off w.1);
  apart = each_4 _ (λ v w x iu iv e. on w.0) (λ v w x iu iv e. on w.0) (λ v w x iu iv e. on w.0) (λ v w x iu iv e. off iu) (λ m v w x iu iv e. off w.1);
}

grown_well : Grows watch_on grown plan 2 1 1999 negated []
grown_well = record {
  was_empty = refl;
  stays = each_3 _ (λ lv. refl) (λ lv. refl) (λ lv. refl) (λ m lv. off lv);
  same = λ m use_m. record { kind = refl; inputs = refl; later = refl; value = refl; cell = refl; level = refl; era = refl; done = refl };
  result_of = λ m lv iw. refl;
  heights = λ m use_m. refl;
  others = each_3 _ (λ ne. refl) (λ ne. refl) (λ ne. absurd (ne refl)) (λ y ne. refl);
  built = grown_built;
  born = each_4 _ (λ w. on w.0) (λ w. on w.0) (λ w. on w.0) (λ w. record { fresh = refl; cell = refl; done = refl; queued = refl; above = omega arith }) (λ m w. off w.1);
  levelled = each_4 _ (λ j w rd. on w.0) (λ j w rd. on w.0) (λ j w rd. on w.0)
      (λ j w rd. elim rd [ inl e ↦ subst (λ (i : ℕ). heights_0 i < 2) e (omega arith) | inr more ↦ absurd more ])
      (λ m j w rd. off w.1);
  result_over = each_4 _ (λ w iw. on w.0) (λ w iw. on w.0) (λ w iw. on w.0) (λ w iw. off iw) (λ m w iw. off w.1);
  queue = each_3 _ (λ lv. refl) (λ lv. refl) (λ lv. refl) (λ m lv. off lv);
  no_other = each_4 _ (λ non. on non) (λ non. on non) (λ non. on non) (λ non. on non) (λ m non. refl);
  taken = each_4 _ (λ t. refl) (λ t. refl) (λ t. refl) (λ t. refl) (λ m t. elim t [ inl e ↦ off e | inr e ↦ off e ]);
  no_more = each_4 _ (λ t. inl refl) (λ t. inl refl) (λ t. inl refl) (λ t. inr refl) (λ m t. off t);
  wired = negated_wired grown.graph 1997 (record { live = refl; kind = refl }) (record { there = omega arith; live = refl; era = refl; level = refl; kind = refl; inputs = refl; later = refl });
  all = ap (λ (s : Placed). s.left) (negated_placed 1997);
}

replaced_on : Replaces plan (sources_of true) none_yet input_on watch_on watch_on grown rewired_on 1
replaced_on = record {
  height = 1;
  least = watch_least;
  when_true = negated;
  when_false = seven;
  scope = [];
  kind = refl;
  holds = true;
  told = refl;
  rule = record { holds = true; value = refl; test = refl };
  other_key = λ was. off was;
  sets = sets_to input_on 1 (truth true);
  kills = kills_none watch_on 2 none_owned refl;
  grows = grown_well;
  rewires = subst (λ (q : Part). Rewires grown rewired_on 2 q) (sym (ap (λ (s : Placed). s.part) (negated_placed 1997))) (rewires_to grown 2 (signal 3));
}

raised_well : Raises rewired_on raised_on 1
raised_well = record {
  graph = refl;
  taken = λ m. refl;
  done = λ m. refl;
  input = each_4 _
      (λ j lv rd. absurd rd)
      (λ j lv rd. elim rd [ inl e ↦ subst (λ (i : ℕ). heights_1 i < 1) e (omega arith) | inr more ↦ absurd more ])
      (λ j lv rd. elim rd [ inl e ↦ subst (λ (i : ℕ). heights_1 i < 3) e (omega arith) | inr more ↦ absurd more ])
      (λ j lv rd. elim rd [ inl e ↦ subst (λ (i : ℕ). heights_1 i < 2) e (omega arith) | inr more ↦ absurd more ])
      (λ m j lv rd. off lv);
  owner = each_4 _
      (λ w lv e. no_owner w e)
      (λ w lv e. no_owner w e)
      (λ w lv e. no_owner w e)
      (λ w lv e. let one : 1 ≡ w = omega arith in subst (λ (i : ℕ). heights_1 i < 2) one (omega arith))
      (λ m w lv e. off lv);
  result = λ w lv iw. let one : w ≡ 1 = only_watch w iw in subst (λ (i : ℕ). heights_1 i < 3) (sym one) (omega arith);
  dead = each_4 _ (λ j t non rd. on non) (λ j t non rd. on non) (λ j t non rd. on non) (λ j t non rd. on non) (λ m j t non rd. off t);
  no_lower = each_4 _ (omega arith) (omega arith) (omega arith) (omega arith) (λ m. omega arith);
  low = each_4 _ (λ le. refl) (λ le. refl) (λ le. absurd (omega arith)) (λ le. refl) (λ m le. refl);
  queue = λ m. refl;
}

turns_on : Turns plan (sources_of true) none_yet input_on watch_on watch_on grown rewired_on raised_on turned_on 1
unfolding replaced_on
turns_on = record { replaces = replaced_on; raises = raised_well; queues = queues_at raised_on 2 }

turned_well : IsOnItsWay plan items members_shown 4 (sources_of true) none_yet turned_on
turned_well = on_its_way_turned plan items members_shown 4 (sources_of true) none_yet input_on watch_on watch_on grown rewired_on raised_on turned_on 1 input_went turns_on
    (each_4 _ (λ t. omega arith) (λ t. omega arith) (λ t. omega arith) (λ t. omega arith) (λ m t. off t))

-- NODE 3 IS COMPUTED, and then the result

abbrev negated_on : Way
negated_on = computed turned_on 3 (truth false) None

negated_least : IsLeast turned_on 3 2
negated_least = record {
  was = refl;
  least = each_4 _ (λ k e. none k e) (λ k e. none k e) (λ k e. at_least 2 1 k e) (λ k e. at_least 2 0 k e) (λ m k e. none k e);
}

negated_computes : Computes plan (sources_of true) none_yet turned_on negated_on 3
unfolding applied
negated_computes = computes_by plan items members_shown (sources_of true) none_yet turned_on 3 2 (truth false) None turned_well.under_way negated_least
    (record { value = refl; clean = record { value = refl; inner = refl; refusal = refl }; cell = λ early. refl }) (λ w k late. refl) (λ iw. off iw)

negated_went : IsOnItsWay plan items members_shown 4 (sources_of true) none_yet negated_on
negated_went = on_its_way_computed plan items members_shown 4 (sources_of true) none_yet turned_on negated_on 3 turned_well negated_computes

abbrev pub shown_on : Way
shown_on = computed negated_on 2 (truth false) None

shown_least : IsLeast negated_on 2 3
shown_least = record {
  was = refl;
  least = each_4 _ (λ k e. none k e) (λ k e. none k e) (λ k e. at_least 3 0 k e) (λ k e. none k e) (λ m k e. none k e);
}

shown_computes : Computes plan (sources_of true) none_yet negated_on shown_on 2
shown_computes = computes_by plan items members_shown (sources_of true) none_yet negated_on 2 3 (truth false) None negated_went.under_way shown_least refl (λ w k late. refl) (λ iw. off iw)

shown_went : IsOnItsWay plan items members_shown 4 (sources_of true) none_yet shown_on
shown_went = on_its_way_computed plan items members_shown 4 (sources_of true) none_yet negated_on shown_on 2 negated_went shown_computes

-- THE FIRST INSTANT CLOSES: nothing is late, and nothing awaits burial

closes_on : Closes shown_on shown_on.graph shown_on
closes_on = record {
  empty = each_4 _ refl refl refl refl (λ m. refl);
  takes = record {
    shape = record { live = λ m. refl; kind = λ m. refl; inputs = λ m. refl; later = λ m. refl; level = λ m. refl; era = λ m. refl; members = λ x. refl; result_of = λ m. refl };
    value = λ m. refl;
    others = λ m early. refl;
    latched = λ m w last lv k late l. absurd (not_late m w k late);
  };
  buries = buries_none shown_on.graph;
  queue = each_4 _ refl refl refl refl (λ m. refl);
  taken = λ m. refl;
  heights = λ m lv. refl;
}

pub whole_on : IsWhole plan items members_shown 4 (sources_of true) (cell_in none_yet) shown_on
whole_on = closed_whole plan items members_shown 4 (sources_of true) none_yet shown_on shown_on.graph shown_on shown_went closes_on

pub went_on : Goes none_yet shown_on.graph (cell_in none_yet)
went_on = (closed_well plan items members_shown 4 (sources_of true) none_yet shown_on shown_on.graph shown_on shown_went closes_on).goes

-- A FURTHER INSTANT STARTS, at which x is false: its source is queued, whatever it has now

abbrev pub restarted : Way
restarted = record shown_on { done = λ m. false; queued = table (Some 0 ∷ []) None }

pub starts_again : (sources : List Now) → Starts sources shown_on restarted
starts_again sources = record {
  begins = record {
    graph = refl;
    done = λ m. refl;
    taken = λ m lv. lv;
    queue = each_4 _ (λ h e. (refl, height_of 0 h e)) (λ h e. none h e) (λ h e. none h e) (λ h e. none h e) (λ m h e. none h e);
    set = each_4 _ (λ s lv k. inl refl) (λ s lv k. absurd cc) (λ s lv k. absurd cc) (λ s lv k. absurd cc) (λ m s lv k. off lv);
    occurred = each_4 _ (λ lv. inr refl) (λ lv. inr refl) (λ lv. inr refl) (λ lv. inr refl) (λ m lv. off lv);
    kept = λ m w lv k late. absurd (not_late m w k late);
  };
  taken = λ m. refl;
  heights = λ m lv. refl;
}
  where
    height_of : (a h : ℕ) → Path (Option ℕ) (Some a) (Some h) → h ≡ a
    height_of a h e = cc

begun_again : IsOnItsWay plan items members_shown 4 (sources_of false) shown_on.graph restarted
begun_again = on_its_way_started plan items members_shown 4 (sources_of false) (sources_of true) (cell_in none_yet) shown_on restarted whole_on (starts_again (sources_of false))

abbrev input_off : Way
input_off = computed restarted 0 (truth false) None

input_first_again : IsLeast restarted 0 0
input_first_again = record { was = refl; least = λ j k e. omega arith }

input_computes_again : Computes plan (sources_of false) shown_on.graph restarted input_off 0
input_computes_again = computes_by plan items members_shown (sources_of false) shown_on.graph restarted 0 0 (truth false) None begun_again.under_way input_first_again
    (record { now = Plain (value.Bool false); there = refl; value = refl }) (λ w k late. refl) (λ iw. off iw)

input_went_again : IsOnItsWay plan items members_shown 4 (sources_of false) shown_on.graph input_off
input_went_again = on_its_way_computed plan items members_shown 4 (sources_of false) shown_on.graph restarted input_off 0 begun_again input_computes_again

-- THE WATCH TURNS: node 3 ends, nothing is made, and the result reads 7

abbrev watch_off : Way
watch_off = set_to input_off 1 (truth false)

abbrev killed : Way
killed = record watch_off { graph = record watch_off.graph { live = three; members = top_members }; queued = put 3 None watch_off.queued }

abbrev seven_part : Part
seven_part = steady (plain (value.Int (pos 7)))

abbrev rewired_off : Way
rewired_off = rewired killed 2 seven_part

abbrev turned_off : Way
turned_off = queued_at rewired_off 2

watch_least_again : IsLeast input_off 1 1
watch_least_again = record {
  was = refl;
  least = each_4 _ (λ k e. none k e) (λ k e. at_least 1 0 k e) (λ k e. none k e) (λ k e. at_least 1 1 k e) (λ m k e. none k e);
}

kills_three : Kills watch_off killed 2
kills_three = record {
  decided = each_4 _
      (inr (λ u. inside_owned watch_off.graph 1 0 u refl))
      (inr (λ u. inside_owned watch_off.graph 1 1 u refl))
      (inr (λ u. inside_owned watch_off.graph 1 2 u refl))
      (inl (here 3 refl refl))
      (λ m. inr (λ u. off (inside_lives watch_off.graph 2 (suc (suc (suc (suc m)))) u)));
  ended = each_4 _
      (λ u. inside_owned watch_off.graph 1 0 u refl)
      (λ u. inside_owned watch_off.graph 1 1 u refl)
      (λ u. inside_owned watch_off.graph 1 2 u refl)
      (λ u. (refl, refl))
      (λ m u. off (inside_lives watch_off.graph 2 (suc (suc (suc (suc m)))) u));
  stays = each_4 _
      (λ out. (refl, refl))
      (λ out. (refl, refl))
      (λ out. (refl, refl))
      (λ out. absurd (out (here 3 refl refl)))
      (λ m out. (refl, refl));
  same = λ m. record { kind = refl; inputs = refl; later = refl; value = refl; cell = refl; level = refl; era = refl; done = refl };
  result_of = λ m lv iw. refl;
  emptied = refl;
  inner = λ v u. refl;
  others = each_3 _ (λ ne outside. refl) (λ ne outside. refl) (λ ne outside. absurd (ne refl)) (λ y ne outside. refl);
  taken = λ j. refl;
  heights = λ j. refl;
}

replaced_off : Replaces plan (sources_of false) shown_on.graph input_off watch_off killed killed rewired_off 1
replaced_off = record {
  height = 1;
  least = watch_least_again;
  when_true = negated;
  when_false = seven;
  scope = [];
  kind = refl;
  holds = false;
  told = refl;
  rule = record { holds = false; value = refl; test = refl };
  other_key = λ was e. absurd cc;
  sets = sets_to input_off 1 (truth false);
  kills = kills_three;
  grows = grows_none killed plan 2 1 1999 seven [] refl (each_4 _ (λ non. on non) (λ non. on non) (λ non. on non) (λ non. refl) (λ m non. refl))
      (each_3 _ (λ lv. refl) (λ lv. refl) (λ lv. refl) (λ m lv. off lv)) (seven_wired killed.graph 1998) (ap (λ (s : Placed). s.left) (seven_placed 1998));
  rewires = subst (λ (q : Part). Rewires killed rewired_off 2 q) (sym (ap (λ (s : Placed). s.part) (seven_placed 1998))) (rewires_to killed 2 seven_part);
}

-- nothing stands too low, since the result reads a value
raised_nothing : Raises rewired_off rewired_off 1
raised_nothing = raises_by rewired_off rewired_off 1 refl (λ m. refl) (λ m. refl)
    (each_3 _ (λ lv. refl) (λ lv. refl) (λ lv. refl) (λ m lv. off lv))
    (levelled_all rewired_off 2 (plain (value.Int (pos 7))) (levelled_but plan items members_shown (sources_of false) shown_on.graph input_off watch_off killed killed rewired_off 1 input_went_again.under_way replaced_off input_went_again.dead) refl)
    (λ m. omega arith) (λ m le. refl) (each_4 _ refl refl refl refl (λ m. refl))

turns_off : Turns plan (sources_of false) shown_on.graph input_off watch_off killed killed rewired_off rewired_off turned_off 1
unfolding replaced_off
turns_off = record { replaces = replaced_off; raises = raised_nothing; queues = queues_at rewired_off 2 }

turned_again : IsOnItsWay plan items members_shown 4 (sources_of false) shown_on.graph turned_off
turned_again = on_its_way_turned plan items members_shown 4 (sources_of false) shown_on.graph input_off watch_off killed killed rewired_off rewired_off turned_off 1 input_went_again turns_off
    (each_4 _ (λ t. omega arith) (λ t. omega arith) (λ t. omega arith) (λ t. omega arith) (λ m t. off t))

-- THE RESULT IS COMPUTED

abbrev shown_off : Way
shown_off = computed turned_off 2 (plain (value.Int (pos 7))) None

shown_least_again : IsLeast turned_off 2 3
shown_least_again = record {
  was = refl;
  least = each_4 _ (λ k e. none k e) (λ k e. none k e) (λ k e. at_least 3 0 k e) (λ k e. none k e) (λ m k e. none k e);
}

shown_computes_again : Computes plan (sources_of false) shown_on.graph turned_off shown_off 2
shown_computes_again = computes_by plan items members_shown (sources_of false) shown_on.graph turned_off 2 3 (plain (value.Int (pos 7))) None turned_again.under_way shown_least_again refl (λ w k late. refl) (λ iw. off iw)

shown_went_again : IsOnItsWay plan items members_shown 4 (sources_of false) shown_on.graph shown_off
shown_went_again = on_its_way_computed plan items members_shown 4 (sources_of false) shown_on.graph turned_off shown_off 2 turned_again shown_computes_again

-- IT CLOSES: node 3 is buried, and its number has anything

abbrev pub buried : Way
buried = record shown_off {
  graph = record shown_off.graph {
    kind = table (source 0 ∷ watch negated seven [] ∷ []) result;
    inputs = table ([] ∷ (signal 0 ∷ []) ∷ (seven_part ∷ []) ∷ []) (signal 9 ∷ []);
    later = table (None ∷ None ∷ None ∷ []) (Some (signal 9));
    value = table (truth false ∷ truth false ∷ plain (value.Int (pos 7)) ∷ []) (Err Deep);
    level = table (0 ∷ 1999 ∷ 0 ∷ []) 9;
    era = table (0 ∷ 0 ∷ 0 ∷ []) 9;
    result_of = table (2 ∷ 2 ∷ 2 ∷ []) 9;
  };
  taken = three;
}

buries_three : Buries shown_off.graph buried.graph
buries_three = record {
  live = λ m. refl;
  kind = each_3 _ (λ lv. refl) (λ lv. refl) (λ lv. refl) (λ m lv. off lv);
  inputs = each_3 _ (λ lv. refl) (λ lv. refl) (λ lv. refl) (λ m lv. off lv);
  later = each_3 _ (λ lv. refl) (λ lv. refl) (λ lv. refl) (λ m lv. off lv);
  value = each_3 _ (λ lv. refl) (λ lv. refl) (λ lv. refl) (λ m lv. off lv);
  cell = λ m lv. refl;
  level = each_3 _ (λ lv. refl) (λ lv. refl) (λ lv. refl) (λ m lv. off lv);
  era = each_3 _ (λ lv. refl) (λ lv. refl) (λ lv. refl) (λ m lv. off lv);
  members = λ x. refl;
  result_of = each_3 _ (λ lv iw. refl) (λ lv iw. refl) (λ lv iw. refl) (λ m lv iw. off lv);
}

closes_again : Closes shown_off shown_off.graph buried
closes_again = record {
  empty = each_4 _ refl refl refl refl (λ m. refl);
  takes = record {
    shape = record { live = λ m. refl; kind = λ m. refl; inputs = λ m. refl; later = λ m. refl; level = λ m. refl; era = λ m. refl; members = λ x. refl; result_of = λ m. refl };
    value = λ m. refl;
    others = λ m early. refl;
    latched = λ m w last lv k late l. absurd (not_late m w k late);
  };
  buries = buries_three;
  queue = each_4 _ refl refl refl refl (λ m. refl);
  taken = λ m. refl;
  heights = λ m lv. refl;
}

pub whole_again : IsWhole plan items members_shown 4 (sources_of false) (cell_in shown_on.graph) buried
whole_again = closed_whole plan items members_shown 4 (sources_of false) shown_on.graph shown_off shown_off.graph buried shown_went_again closes_again

pub went_again : Goes shown_on.graph buried.graph (cell_in shown_on.graph)
went_again = (closed_well plan items members_shown 4 (sources_of false) shown_on.graph shown_off shown_off.graph buried shown_went_again closes_again).goes
