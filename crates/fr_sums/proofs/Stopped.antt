-- A worked graph while the choice of a watch is being built: `(show s (if x (seven) 7))`, where `seven` is a function of no parameters. Building the call has cost 1, and all that the law asks is met.
use Rattle.std.proofs.Common.{◌≡◌, ◌≤◌, ℕ, zero, suc, ◌+◌, pos, Bool, true, false, List, [], ◌∷◌, map, slice_get, refl, ap, sym, subst, arith, nat_eq, Option, Some, None}
use Rattle.std.specs.Option.{option_and_then}
use Rattle.fr_links.specs.Lists.{has_item}
use Rattle.fr_links.specs.Rings.{AllDifferent}
use Rattle.fr_links.proofs.Has.{or_case, eq_is}
use Rattle.fr_value.specs.declared.now.Now.{Now}
use Rattle.fr_value.specs.declared.now.Now.TheVariants.{Plain}
use Rattle.fr_value.specs.declared.value.Value.TheVariants as value
use Rattle.fr_core.specs.declared.kept.Kept.TheVariants as kept
use Rattle.fr_core.specs.declared.lowered.Low.{Low, out-Low}
use Rattle.fr_core.specs.declared.lowered.Low.TheOpen.{Low-F}
use Rattle.fr_core.specs.declared.lowered.Low.TheVariants as low
use Rattle.fr_core.specs.declared.lowered.Low.TheVariants.{outs-Lit, outs-Source, outs-If, outs-Apply}
use Rattle.fr_core.specs.declared.lowered.LowFunction.{LowFunction}
use Rattle.fr_core.specs.declared.lowered.LowItem.{LowItem}
use Rattle.fr_core.specs.declared.lowered.LowItem.TheVariants as low_item
use Rattle.fr_core.specs.declared.program.Program.{Program}
use Rattle.fr_kernel.specs.Kernels.{Kernels}
use Rattle.fr_kernel.specs.Erasure.{Place, place_below, inner_low, named_in, FitsIfNamed, erased_function, erased_item}
use Rattle.fr_meaning.specs.Words.{plain}
use Rattle.fr_meaning.specs.Afresh.{body}
use Rattle.fr_meaning.specs.Cells.{Cell}
use Rattle.fr_graph.specs.Graph.{signal, Kind, source, watch, result, Graph}
use Rattle.fr_graph.specs.Walk.{Plan, place}
use Rattle.fr_graph.specs.Wired.{AreNext, IsSource, Wired}
use Rattle.fr_graph.specs.Goes.{Goes}
use Rattle.fr_graph.specs.Sound.{HasParts, IsSoundAt, Sound}
use Rattle.fr_graph.specs.Items.{AreLowered, Shown, place_items, ItemsStand, IsUnderWay}
use Rattle.fr_sums.specs.Along.{add_items}
use Rattle.fr_sums.specs.Members.{AreMembers, HasProgramEra}
use Rattle.fr_sums.specs.Spent.{built, Paid, fuel_spent, PaysWhileBuilding}
use Rattle.fr_sums.proofs.Bodies.{spends_while_building, first_keeps}

-- a function by what it has at 0, 1 and so on, and what it has beyond
abbrev table : {A : Type 0} → List A → A → ℕ → A
table [] beyond m = beyond
table (x ∷ xs) beyond zero = x
table (x ∷ xs) beyond (suc m) = table xs beyond m

each : (P : ℕ → Type 0) → P 0 → P 1 → P 2 → ((m : ℕ) → P (suc (suc (suc m)))) → (m : ℕ) → P m
each P p0 p1 p2 p zero = p0
each P p0 p1 p2 p (suc zero) = p1
each P p0 p1 p2 p (suc (suc zero)) = p2
each P p0 p1 p2 p (suc (suc (suc m))) = p m

off : {A : Type 0} → Path Bool false true → A
off e = absurd cc

on : {A : Type 0} → Path Bool true false → A
on e = absurd cc

-- THE PROGRAM

abbrev input : Low
input = low.Source (record { 0 = 0 })

abbrev call : Low
call = low.Apply (record { 0 = 0 }) []

abbrev seven : Low
seven = low.Lit (value.Int (pos 7))

abbrev switch : Low
switch = low.If (record { 0 = 0 }) input call seven

abbrev items : List LowItem
items = low_item.Show (115 ∷ []) switch ∷ []

abbrev functions : List LowFunction
functions = record { name = 102 ∷ []; params = 0; body = seven } ∷ []

abbrev program : Program
program = record { inputs = []; events = []; functions = map (erased_function []) functions; body = map (erased_item []) items }

abbrev plan : Plan
plan = record { functions = functions; table = record { functions = map (erased_function []) functions; kernels = [] }; node_of = λ s. s }

abbrev sources : List Now
sources = Plain (value.Bool true) ∷ []

switch_wired : (g : Graph) (n : ℕ) → IsSource g plan 0 → AreNext g 0 (suc (suc n)) call seven [] 0 (1 ∷ 2 ∷ []) → ItemsStand (place plan (suc (suc (suc n)))) (Wired g plan 0 (suc (suc (suc n)))) [] items (1 ∷ 2 ∷ [])
unfolding place Wired
switch_wired g n src next = rw (outs-If (record { 0 = 0 }) input call seven, outs-Source (record { 0 = 0 })) ((src, next), tt)

switch_placed : (n : ℕ) → place_items (place plan (suc (suc (suc n)))) [] items (1 ∷ 2 ∷ []) ≡ record { parts = signal 2 ∷ []; left = [] }
unfolding place
switch_placed n = rw (outs-If (record { 0 = 0 }) input call seven, outs-Source (record { 0 = 0 })) refl

-- a call in place costs 1 to build
call_built : (n : ℕ) → built plan (suc (suc n)) call [] [] ≡ 1
unfolding built
call_built n = rw (outs-Apply (record { 0 = 0 }) [], outs-Lit (value.Int (pos 7))) refl

-- and the switch nothing, before its watch has chosen
switch_built : (n : ℕ) → add_items (place plan (suc (suc (suc n)))) (built plan (suc (suc (suc n)))) [] items (1 ∷ 2 ∷ []) ≡ 0
unfolding place built
switch_built n = rw (outs-If (record { 0 = 0 }) input call seven, outs-Source (record { 0 = 0 })) refl

-- IT IS LOWERED

some_same : (a b : Place) → Path (Option Place) (Some a) (Some b) → a ≡ b
some_same a b e = cc

some_part : (a b : ℕ × Low) → Path (Option (ℕ × Low)) (Some a) (Some b) → a ≡ b
some_part a b e = cc

some_function : (a b : LowFunction) → Path (Option LowFunction) (Some a) (Some b) → a ≡ b
some_function a b e = cc

sound_by : (t : Kernels) (n : ℕ) (e : Low) (l : Low-F Low) → out-Low e ≡ l → HasParts l → FitsIfNamed t.kernels n (named_in l)
    → ((i : ℕ) (x : ℕ × Low) → slice_get (inner_low l) i ≡ Some x → Sound t (n + x.0) x.1) → Sound t n e
sound_by t n e l opens parts fits below = record { holds = holds }
  where
    sound_at : IsSoundAt t (record { variables = n; expr = e })
    sound_at = record { parts = subst (λ (f : Low-F Low). HasParts f) (sym opens) parts; fits = subst (λ (f : Low-F Low). FitsIfNamed t.kernels n (named_in f)) (sym opens) fits }

    holds : (path : List ℕ) (r : Place) → place_below (record { variables = n; expr = e }) path ≡ Some r → IsSoundAt t r
    holds [] r found = subst (IsSoundAt t) (some_same (record { variables = n; expr = e }) r found) sound_at
    holds (i ∷ path) r found = by_part (slice_get (inner_low l) i) refl (subst (λ (f : Low-F Low). option_and_then (λ x. place_below (record { variables = n + x.0; expr = x.1 }) path) (slice_get (inner_low f) i) ≡ Some r) opens found)
      where
        by_part : (o : Option (ℕ × Low)) → slice_get (inner_low l) i ≡ o → option_and_then (λ x. place_below (record { variables = n + x.0; expr = x.1 }) path) o ≡ Some r → IsSoundAt t r
        by_part None s found = absurd cc
        by_part (Some x) s found = (below i x s).holds path r found

sound_part : (e : Low) (x : ℕ × Low) → Sound plan.table 0 e → Path (Option (ℕ × Low)) (Some (0, e)) (Some x) → Sound plan.table (0 + x.0) x.1
sound_part e x s h = subst (λ (y : ℕ × Low). Sound plan.table (0 + y.0) y.1) (some_part (0, e) x h) s

seven_sound : Sound plan.table 0 seven
seven_sound = sound_by plan.table 0 seven (Low-F.Lit (value.Int (pos 7))) (outs-Lit (value.Int (pos 7))) tt tt (λ i x h. absurd cc)

switch_sound : Sound plan.table 0 switch
switch_sound = sound_by plan.table 0 switch (Low-F.If (record { 0 = 0 }) input call seven) (outs-If (record { 0 = 0 }) input call seven) tt tt parts
  where
    parts : (i : ℕ) (x : ℕ × Low) → slice_get (inner_low (Low-F.If (record { 0 = 0 }) input call seven)) i ≡ Some x → Sound plan.table (0 + x.0) x.1
    parts zero x h = sound_part input x (sound_by plan.table 0 input (Low-F.Source (record { 0 = 0 })) (outs-Source (record { 0 = 0 })) tt tt (λ i y g. absurd cc)) h
    parts (suc zero) x h = sound_part call x (sound_by plan.table 0 call (Low-F.Apply (record { 0 = 0 }) []) (outs-Apply (record { 0 = 0 }) []) tt tt (λ i y g. absurd cc)) h
    parts (suc (suc zero)) x h = sound_part seven x seven_sound h
    parts (suc (suc (suc i))) x h = absurd cc

bodies_sound : (i : ℕ) (f : LowFunction) → slice_get functions i ≡ Some f → Sound plan.table f.params f.body
bodies_sound zero f h = subst (λ (e : LowFunction). Sound plan.table e.params e.body) (some_function (record { name = 102 ∷ []; params = 0; body = seven }) f h) seven_sound
bodies_sound (suc i) f h = absurd cc

lowered : AreLowered program plan items
lowered = record {
  plan = record {
    functions = refl;
    table = refl;
    pure = λ i k h. absurd cc;
    slots = λ i k h. absurd cc;
    bodies = bodies_sound;
  };
  items = refl;
  sound = (switch_sound, tt);
}

-- THE GRAPH, of which x is known, while the choice of its watch is being built

abbrev kinds : ℕ → Kind
kinds = table (source 0 ∷ watch call seven [] ∷ []) result

abbrev three : ℕ → Bool
three = table (true ∷ true ∷ true ∷ []) false

abbrev known : ℕ → Bool
known = table (true ∷ []) false

abbrev graph : Graph
graph = record {
  live = three;
  kind = kinds;
  inputs = table ([] ∷ (signal 0 ∷ []) ∷ []) [];
  later = λ m. None;
  value = λ m. plain (value.Bool true);
  cell = λ m. None;
  level = λ m. 1999;
  era = λ m. 0;
  members = table ((0 ∷ 1 ∷ 2 ∷ []) ∷ []) [];
  result_of = λ m. 2;
}

abbrev none_yet : Graph
none_yet = record graph { live = λ m. false }

abbrev before : ℕ → Option Cell
before m = None

goes : Goes none_yet graph before
goes = record {
  cell = λ m there lv. off there;
  cell_new = λ m non lv. refl;
  era_same = λ w there lv e. off there;
  era_new = λ w m there lv ne lm er. off there;
  era_born = λ w m non lm er. refl;
}

way : IsUnderWay graph (λ m. known m ≡ true) plan items (1 ∷ 2 ∷ []) sources before
way = record {
  items = switch_wired graph 1997 (record { live = refl; kind = refl }) (record {
    watch = record { there = omega arith; live = refl; era = refl; level = refl; kind = refl; inputs = refl; later = refl };
    there = omega arith;
    live = refl;
    era = refl;
    kind = refl;
    result = refl;
  });
  closed = record {
    input = each _ (λ j kn lv rd. absurd rd) (λ j kn lv rd. off kn) (λ j kn lv rd. off kn) (λ m j kn lv rd. off kn);
    watched = λ w a b env lv k kn. off kn;
  };
  rules = each _ (λ kn lv. record { now = Plain (value.Bool true); there = refl; value = refl }) (λ kn lv. off kn) (λ kn lv. off kn) (λ m kn lv. off kn);
  eras = each _ (λ a b env kn lv k. absurd cc) (λ a b env kn lv k. off kn) (λ a b env kn lv k. off kn) (λ m a b env kn lv k. off kn);
}

members : AreMembers graph 3
members = record {
  once = λ x. once x;
  here = each _ (λ lv. refl) (λ lv. refl) (λ lv. refl) (λ m lv. off lv);
  only = λ x m h. only x m h;
  owner = λ w m h. off h;
  below = each _ (λ lv. omega arith) (λ lv. omega arith) (λ lv. omega arith) (λ m lv. off lv);
}
  where
    once : (x : ℕ) → AllDifferent (graph.members x)
    once zero = (refl, (refl, (refl, tt)))
    once (suc x) = tt

    only : (x m : ℕ) → has_item (graph.members x) m ≡ true → (three m ≡ true) × (0 ≡ x)
    only zero m h = (
      or_case (nat_eq 0 m) (has_item (1 ∷ 2 ∷ []) m) h (λ e. subst (λ (i : ℕ). three i ≡ true) (eq_is 0 m e) refl)
          (λ g. or_case (nat_eq 1 m) (has_item (2 ∷ []) m) g (λ e. subst (λ (i : ℕ). three i ≡ true) (eq_is 1 m e) refl)
          (λ l. or_case (nat_eq 2 m) false l (λ e. subst (λ (i : ℕ). three i ≡ true) (eq_is 2 m e) refl) (λ e. off e))),
      refl,
    )
    only (suc x) m h = off h

era : HasProgramEra graph plan items (0 ∷ []) (1 ∷ 2 ∷ [])
era = record { members = refl; first = (refl, tt); all = ap (λ (s : Shown). s.left) (switch_placed 1997) }

-- what was paid: 1, for the call
abbrev paid : Paid
paid = record { node = table (0 ∷ 1 ∷ []) 0; begun = table (true ∷ []) false }

pays : PaysWhileBuilding graph known plan before paid 1
pays = record {
  work = each _ (λ v lv k. absurd cc) (λ v lv k. absurd cc) (λ v lv k. absurd cc) (λ m v lv k. off lv);
  other = each _ (λ lv n ne. refl) (λ lv n ne. absurd (ne refl)) (λ lv n ne. refl) (λ m lv n ne. refl);
  begun = λ v kn. refl;
  outside = λ v m kn h. off h;
  building = record {
    watches = refl;
    unknown = refl;
    test = (refl, tt);
    members = [];
    most = let e = call_built 1997 in omega (arith, e);
  };
}

-- SO EVALUATING AFRESH costs 1 at least
within : fuel_spent graph plan paid 3 items (1 ∷ 2 ∷ []) ≤ (body program sources kept.Nothing).cost
within = spends_while_building graph known program plan items (1 ∷ 2 ∷ []) (0 ∷ []) 3 sources before kept.Nothing lowered way members era
    (first_keeps none_yet graph plan (λ m. known m ≡ true) items (1 ∷ 2 ∷ []) before (λ m. refl) goes way.eras way.items) paid 1 pays

costs_one : 1 ≤ (body program sources kept.Nothing).cost
costs_one = let e = switch_built 1997 in let l = within in omega (arith, e, l)
