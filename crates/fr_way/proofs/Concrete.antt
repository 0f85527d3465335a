-- Tools for worked examples: functions of a node's number by tables, and the steps of an instant over graphs that are given by them.
use Rattle.std.proofs.Common.{◌≡◌, ◌≢◌, ◌⊎◌, inl, inr, ◌<◌, ◌≤◌, ℕ, zero, suc, ◌+◌, Bool, true, false, ◌&&◌, ◌||◌, if◌then◌else◌, List, [], ◌∷◌, refl, ap, sym, ◌∙◌, subst, arith, nat_eq, slice_get, Option, Some, None, IsSome}
use Rattle.fr_links.specs.Lists.{has_item}
use Rattle.fr_links.proofs.Has.{or_case, eq_is}
use Rattle.fr_value.specs.declared.now.Now.{Now}
use Rattle.fr_core.specs.declared.lowered.Low.{Low, out-Low}
use Rattle.fr_core.specs.declared.lowered.Low.TheOpen.{Low-F}
use Rattle.fr_core.specs.declared.lowered.LowItem.{LowItem}
use Rattle.fr_meaning.specs.Words.{Seen, test_of}
use Rattle.fr_meaning.specs.Cells.{Cell}
use Rattle.std.specs.Option.{option_and_then}
use Rattle.fr_kernel.specs.Kernels.{Kernels}
use Rattle.fr_kernel.specs.Erasure.{Place, place_below, inner_low, named_in, FitsIfNamed}
use Rattle.fr_graph.specs.Sound.{HasParts, IsSoundAt, Sound}
use Rattle.fr_graph.specs.Graph.{Part, steady, signal, Work, works, Graph, is_late}
use Rattle.fr_graph.specs.Walk.{Plan, place}
use Rattle.fr_graph.specs.Wired.{Wired}
use Rattle.fr_graph.specs.Known.{Reads, Rule}
use Rattle.fr_way.specs.Frame.{is_watch, Holds, Names, Inside, here, deeper}
use Rattle.fr_way.specs.Way.{Way, cell_in, UnderWay}
use Rattle.fr_way.specs.Steps.{IsLeast, Computes}
use Rattle.fr_way.specs.Turns.{IsSet, Kills, Grows, Rewires, Queues}

-- a function by what it has at 0, 1 and so on, and what it has beyond
abbrev pub table : {A : Type 0} → List A → A → ℕ → A
table [] beyond m = beyond
table (x ∷ xs) beyond zero = x
table (x ∷ xs) beyond (suc m) = table xs beyond m

-- what holds of 0, 1 and so on, and beyond, holds of all

pub each_2 : (P : ℕ → Type 0) → P 0 → P 1 → ((m : ℕ) → P (suc (suc m))) → (m : ℕ) → P m
each_2 P p0 p1 p zero = p0
each_2 P p0 p1 p (suc zero) = p1
each_2 P p0 p1 p (suc (suc m)) = p m

pub each_3 : (P : ℕ → Type 0) → P 0 → P 1 → P 2 → ((m : ℕ) → P (suc (suc (suc m)))) → (m : ℕ) → P m
each_3 P p0 p1 p2 p zero = p0
each_3 P p0 p1 p2 p (suc zero) = p1
each_3 P p0 p1 p2 p (suc (suc zero)) = p2
each_3 P p0 p1 p2 p (suc (suc (suc m))) = p m

pub each_4 : (P : ℕ → Type 0) → P 0 → P 1 → P 2 → P 3 → ((m : ℕ) → P (suc (suc (suc (suc m))))) → (m : ℕ) → P m
each_4 P p0 p1 p2 p3 p zero = p0
each_4 P p0 p1 p2 p3 p (suc zero) = p1
each_4 P p0 p1 p2 p3 p (suc (suc zero)) = p2
each_4 P p0 p1 p2 p3 p (suc (suc (suc zero))) = p3
each_4 P p0 p1 p2 p3 p (suc (suc (suc (suc m)))) = p m

-- what can't be

pub off {ℓ} : {A : Type ℓ} → Path Bool false true → A
off e = absurd cc

pub on {ℓ} : {A : Type ℓ} → Path Bool true false → A
on e = absurd cc

pub none {ℓ} : {A : Type ℓ} → (h : ℕ) → Path (Option ℕ) None (Some h) → A
none h e = absurd cc

pub no_part {ℓ} : {A : Type ℓ} → (q : Part) → Path (Option Part) None (Some q) → A
no_part q e = absurd cc

pub no_owner {ℓ} : {A : Type ℓ} → (w : ℕ) → Path ℕ 0 (suc w) → A
no_owner w e = absurd (omega arith)

-- what stands at a height at least
pub at_least : (h more k : ℕ) → Path (Option ℕ) (Some (h + more)) (Some k) → h ≤ k
at_least h more k e = let same : h + more ≡ k = some_is (h + more) k e in omega arith
  where
    some_is : (a b : ℕ) → Path (Option ℕ) (Some a) (Some b) → a ≡ b
    some_is a b s = cc

-- which numbers are in a list
abbrev pub Among : ℕ → List ℕ → Type 0
Among m [] = ⊥
Among m (x ∷ xs) = (x ≡ m) ⊎ Among m xs

pub among : (xs : List ℕ) (m : ℕ) → has_item xs m ≡ true → Among m xs
among [] m h = absurd cc
among (x ∷ xs) m h = or_case (nat_eq x m) (has_item xs m) h (λ e. inl (eq_is x m e)) (λ e. inr (among xs m e))

-- whether numbers are the same
abbrev pub same : ℕ → ℕ → Bool
same zero zero = true
same zero (suc j) = false
same (suc m) zero = false
same (suc m) (suc j) = same m j

pub same_self : (m : ℕ) → same m m ≡ true
same_self zero = refl
same_self (suc m) = same_self m

pub same_is : (m j : ℕ) → same m j ≡ true → m ≡ j
same_is zero zero e = refl
same_is zero (suc j) e = off e
same_is (suc m) zero e = off e
same_is (suc m) (suc j) e = ap suc (same_is m j e)

by_truth : (b : Bool) → (b ≡ true) ⊎ (b ≡ false)
by_truth true = inl refl
by_truth false = inr refl

pub same_apart : (m j : ℕ) → j ≢ m → same m j ≡ false
same_apart m j ne = elim (by_truth (same m j)) [
  | inl e ↦ absurd (ne (sym (same_is m j e)))
  | inr e ↦ e
]

-- a function with another value at a number
abbrev pub put : {A : Type 0} → ℕ → A → (ℕ → A) → ℕ → A
put m a f j = if same m j then a else f j

pub put_here : {A : Type 0} (m : ℕ) (a : A) (f : ℕ → A) → put m a f m ≡ a
put_here {A} m a f = ap (λ (b : Bool). if b then a else f m) (same_self m)

pub put_other : {A : Type 0} (m : ℕ) (a : A) (f : ℕ → A) (j : ℕ) → j ≢ m → put m a f j ≡ f j
put_other {A} m a f j ne = ap (λ (b : Bool). if b then a else f j) (same_apart m j ne)

-- whether a node is among the signals of parts
abbrev pub reads : ℕ → List Part → Bool
reads m [] = false
reads m (steady v ∷ ps) = reads m ps
reads m (signal j ∷ ps) = same j m || reads m ps

pub reads_is : (m : ℕ) (ps : List Part) → reads m ps ≡ true → Reads m ps
reads_is m [] e = off e
reads_is m (steady v ∷ ps) e = reads_is m ps e
reads_is m (signal j ∷ ps) e = or_case (same j m) (reads m ps) e (λ s. inl (same_is j m s)) (λ s. inr (reads_is m ps s))

pub reads_told : (m : ℕ) (ps : List Part) → Reads m ps → reads m ps ≡ true
reads_told m [] rd = absurd rd
reads_told m (steady v ∷ ps) rd = reads_told m ps rd
reads_told m (signal j ∷ ps) rd = elim rd [
  | inl e ↦ or_left (same j m) (reads m ps) (subst (λ (i : ℕ). same j i ≡ true) e (same_self j))
  | inr more ↦ or_right (same j m) (reads m ps) (reads_told m ps more)
]
  where
    or_left : (a b : Bool) → a ≡ true → (a || b) ≡ true
    or_left true b e = refl
    or_left false b e = off e

    or_right : (a b : Bool) → b ≡ true → (a || b) ≡ true
    or_right true b e = refl
    or_right false b e = e

-- what a node names
pub names_by {ℓ} : {A : Type ℓ} → (g : Graph) (m j : ℕ) → (Reads j (g.inputs m) → A) → (g.later m ≡ Some (signal j) → A) → (Holds j (g.kind m) → A) → Names g m j → A
names_by g m j read later held nm = elim nm [
  | inl rd ↦ read rd
  | inr more ↦ elim more [ inl l ↦ later l | inr h ↦ held h ]
]

-- nothing is inside an era in which nothing lives
pub none_inside : (g : Graph) (x m : ℕ) → ((i : ℕ) → g.live i ≡ true → g.era i ≡ x → ⊥) → Inside g x m → ⊥
none_inside g x m empty (here i lv er) = empty i lv er
none_inside g x m empty (deeper i v lv er u) = none_inside g x v empty u

-- A NODE IS COMPUTED to a value and a cell, and all that reads it is queued

abbrev pub queued_next : Way → ℕ → ℕ → Option ℕ
queued_next at m j = if same m j then None else if at.graph.live j && reads m (at.graph.inputs j) then Some (at.height j) else at.queued j

abbrev pub computed : Way → ℕ → Seen → Option Cell → Way
computed at m v c = record {
  graph = record at.graph { value = put m v at.graph.value; cell = put m c at.graph.cell };
  taken = at.taken;
  height = at.height;
  done = put m true at.done;
  queued = queued_next at m;
}

both_true : (a b : Bool) → a && b ≡ true → (a ≡ true) × (b ≡ true)
both_true true true h = (refl, refl)
both_true true false h = off h
both_true false b h = off h

true_both : (a b : Bool) → a ≡ true → b ≡ true → a && b ≡ true
true_both true true e f = refl
true_both true false e f = off f
true_both false b e f = off e

pub computes_by : (p : Plan) (is : List LowItem) (ms : List ℕ) (sources : List Now) (old : Graph) (at : Way) (m h : ℕ) (v : Seen) (c : Option Cell)
    → UnderWay p is ms sources old at → IsLeast at m h → Rule (computed at m v c).graph p.table sources (cell_in old) m (at.graph.kind m) (at.graph.inputs m)
    → ((w : Work) → at.graph.kind m ≡ works w → is_late w ≡ true → c ≡ at.graph.cell m)
    → (is_watch (at.graph.kind m) ≡ true → (old.live m ≡ true) × (test_of v ≡ test_of (at.graph.value m)))
    → Computes p sources old at (computed at m v c) m
computes_by p is ms sources old at m h v c u least rule late same_key = record {
  height = h;
  least = least;
  shape = record { live = λ j. refl; kind = λ j. refl; inputs = λ j. refl; later = λ j. refl; level = λ j. refl; era = λ j. refl; members = λ x. refl; result_of = λ j. refl };
  value = λ j ne. put_other m v at.graph.value j ne;
  cell = λ j ne. put_other m c at.graph.cell j ne;
  taken = λ j. refl;
  heights = λ j. refl;
  done = put_here m true at.done;
  others = λ j ne. put_other m true at.done j ne;
  rule = rule;
  late = λ w k l. put_here m c at.graph.cell ∙ late w k l;
  out = ap (λ (b : Bool). if b then None else if at.graph.live m && reads m (at.graph.inputs m) then Some (at.height m) else at.queued m) (same_self m);
  kept = λ j k ne e. by_reading (at.graph.live j && reads m (at.graph.inputs j)) (same m j) (at.height j) k (at.queued j) (same_apart m j ne) (u.nodes.queue j k e).1 e;
  only = λ j k e. by_cases j k (same m j) (at.graph.live j && reads m (at.graph.inputs j)) refl e;
  readers = λ j lv rd.
      let ne : j ≢ m = λ e. below_itself (at.height m) (at.height j) (ap at.height e) (u.frame.levelled.input j m lv rd) in
      inl (queued_some (at.graph.live j && reads m (at.graph.inputs j)) (same m j) (at.height j) (at.queued j) (same_apart m j ne) (true_both (at.graph.live j) (reads m (at.graph.inputs j)) lv (reads_told m (at.graph.inputs j) rd)));
  same_key = λ iw. let s = same_key iw in (s.0, ap test_of (put_here m v at.graph.value) ∙ s.1);
}
  where
    below_itself : (a b : ℕ) → b ≡ a → a < b → ⊥
    below_itself a b e lt = absurd (omega arith)

    by_reading : (r b : Bool) (x k : ℕ) (q : Option ℕ) → b ≡ false → k ≡ x → q ≡ Some k → (if b then None else if r then Some x else q) ≡ Some k
    by_reading r true x k q e s w = on e
    by_reading true false x k q e s w = ap Some (sym s)
    by_reading false false x k q e s w = w

    by_cases : (j k : ℕ) (b r : Bool) → at.graph.live j && reads m (at.graph.inputs j) ≡ r → (if b then None else if r then Some (at.height j) else at.queued j) ≡ Some k
        → (at.queued j ≡ Some k) ⊎ ((at.graph.live j ≡ true) × Reads m (at.graph.inputs j) × (k ≡ at.height j))
    by_cases j k true r s e = none k e
    by_cases j k false true s e =
        let both = both_true (at.graph.live j) (reads m (at.graph.inputs j)) s in
        inr (both.0, reads_is m (at.graph.inputs j) both.1, some_is (at.height j) k e)
      where
        some_is : (a b : ℕ) → Path (Option ℕ) (Some a) (Some b) → b ≡ a
        some_is a b s = cc
    by_cases j k false false s e = inl e

    queued_some : (r b : Bool) (x : ℕ) (q : Option ℕ) → b ≡ false → r ≡ true → IsSome (if b then None else if r then Some x else q)
    queued_some r true x q e s = on e
    queued_some true false x q e s = refl
    queued_some false false x q e s = off s

-- THE STEPS OF A TURNING

-- a watch is computed to a value
abbrev pub set_to : Way → ℕ → Seen → Way
set_to at w v = record {
  graph = record at.graph { value = put w v at.graph.value };
  taken = at.taken;
  height = at.height;
  done = put w true at.done;
  queued = put w None at.queued;
}

pub sets_to : (at : Way) (w : ℕ) (v : Seen) → IsSet at (set_to at w v) w
sets_to at w v = record {
  shape = record { live = λ j. refl; kind = λ j. refl; inputs = λ j. refl; later = λ j. refl; level = λ j. refl; era = λ j. refl; members = λ x. refl; result_of = λ j. refl };
  value = λ j ne. put_other w v at.graph.value j ne;
  cell = λ j ne. refl;
  taken = λ j. refl;
  heights = λ j. refl;
  done = put_here w true at.done;
  others = λ j ne. put_other w true at.done j ne;
  out = put_here w None at.queued;
  queue = λ j ne. put_other w None at.queued j ne;
}

-- an era that has no members ends
pub kills_none : (at : Way) (x : ℕ) → ((i : ℕ) → at.graph.live i ≡ true → at.graph.era i ≡ x → ⊥) → at.graph.members x ≡ [] → Kills at at x
kills_none at x empty members = record {
  decided = λ m. inr (none_inside at.graph x m empty);
  ended = λ m u. absurd (none_inside at.graph x m empty u);
  stays = λ m out. (refl, refl);
  same = λ m. record { kind = refl; inputs = refl; later = refl; value = refl; cell = refl; level = refl; era = refl; done = refl };
  result_of = λ m lv iw. refl;
  emptied = members;
  inner = λ v u. absurd (none_inside at.graph x v empty u);
  others = λ y ne outside. refl;
  taken = λ j. refl;
  heights = λ j. refl;
}

-- a choice without nodes is built
pub grows_none : (at : Way) (p : Plan) (x h n : ℕ) (e : Low) (env : List Part) → at.graph.members x ≡ [] → ((m : ℕ) → at.graph.live m ≡ false → at.queued m ≡ None)
    → ((m : ℕ) → at.graph.live m ≡ true → at.taken m ≡ true) → Wired at.graph p x n e env (at.graph.members x) → (place p n e env (at.graph.members x)).left ≡ [] → Grows at at p x h n e env
grows_none at p x h n e env members out in_use wired all = record {
  was_empty = members;
  stays = λ m lv. lv;
  same = λ m use_m. record { kind = refl; inputs = refl; later = refl; value = refl; cell = refl; level = refl; era = refl; done = refl };
  result_of = λ m lv iw. refl;
  heights = λ m use_m. refl;
  others = λ y ne. refl;
  built = record {
    era = λ m new. not_new m new;
    no_source = λ m new. not_new m new;
    joined = λ m new. not_new m new;
    only = λ m has. absurd (among [] m (subst (λ (l : List ℕ). has_item l m ≡ true) members has));
    place = λ m. 0;
    many = 0;
    few = λ m new. absurd (not_new m new);
    behind = λ m new. absurd (not_new m new);
    no_watch = λ m j new nm. not_new m new;
    results = λ v new iw. absurd (not_new v new);
    unread = λ m new k. absurd (not_new m new);
    watched = λ m new k. absurd (not_new m new);
    calm = λ m w new k. absurd (not_new m new);
    apart = λ u v new other iu iv s. absurd (not_new u new);
  };
  born = λ m new. absurd (not_new m new);
  levelled = λ m j new rd. absurd (not_new m new);
  result_over = λ v new iw. absurd (not_new v new);
  queue = λ m lv. refl;
  no_other = out;
  taken = λ m there. elim there [ inl use_m ↦ use_m | inr lv ↦ in_use m lv ];
  no_more = λ m use_m. inl use_m;
  wired = wired;
  all = all;
}
  where
    not_new : {A : Type 0} (m : ℕ) → (at.graph.live m ≡ false) × (at.graph.live m ≡ true) → A
    not_new {A} m new = let e : Path Bool false true = sym new.0 ∙ new.1 in off e

-- a node reads a part
abbrev pub rewired : Way → ℕ → Part → Way
rewired at r q = record at { graph = record at.graph { inputs = put r (q ∷ []) at.graph.inputs } }

pub rewires_to : (at : Way) (r : ℕ) (q : Part) → Rewires at (rewired at r q) r q
rewires_to at r q = record {
  here = put_here r (q ∷ []) at.graph.inputs;
  inputs = λ m ne. put_other r (q ∷ []) at.graph.inputs m ne;
  live = λ m. refl;
  kind = λ m. refl;
  later = λ m. refl;
  value = λ m. refl;
  cell = λ m. refl;
  level = λ m. refl;
  era = λ m. refl;
  members = λ y. refl;
  result_of = λ m. refl;
  taken = λ m. refl;
  heights = λ m. refl;
  done = λ m. refl;
  queue = λ m. refl;
}

-- a node is queued
abbrev pub queued_at : Way → ℕ → Way
queued_at at r = record at { queued = put r (Some (at.height r)) at.queued }

pub queues_at : (at : Way) (r : ℕ) → Queues at (queued_at at r) r
queues_at at r = record {
  graph = refl;
  taken = λ m. refl;
  heights = λ m. refl;
  done = λ m. refl;
  here = put_here r (Some (at.height r)) at.queued;
  queue = λ m ne. put_other r (Some (at.height r)) at.queued m ne;
}

-- AN EXPRESSION IS SOUND where it has its parts and names no kernel that doesn't fit, and its parts are sound

some_same : (a b : Place) → Path (Option Place) (Some a) (Some b) → a ≡ b
some_same a b e = cc

pub some_part : (a b : ℕ × Low) → Path (Option (ℕ × Low)) (Some a) (Some b) → a ≡ b
some_part a b e = cc

pub sound_by : (t : Kernels) (n : ℕ) (e : Low) (l : Low-F Low) → out-Low e ≡ l → HasParts l → FitsIfNamed t.kernels n (named_in l)
    → ((i : ℕ) (x : ℕ × Low) → slice_get (inner_low l) i ≡ Some x → Sound t (n + x.0) x.1) → Sound t n e
sound_by t n e l opens parts fits below = record { holds = holds }
  where
    sound_at : IsSoundAt t (record { variables = n; expr = e })
    sound_at = record { parts = subst (λ (f : Low-F Low). HasParts f) (sym opens) parts; fits = subst (λ (f : Low-F Low). FitsIfNamed t.kernels n (named_in f)) (sym opens) fits }

    holds : (path : List ℕ) (r : Place) → place_below (record { variables = n; expr = e }) path ≡ Some r → IsSoundAt t r
    holds [] r found = subst (IsSoundAt t) (some_same (record { variables = n; expr = e }) r found) sound_at
    holds (i ∷ path) r found = by_part (slice_get (inner_low l) i) refl (subst (λ (f : Low-F Low). option_and_then (λ x. place_below (record { variables = n + x.0; expr = x.1 }) path) (slice_get (inner_low f) i) ≡ Some r) opens found)
      where
        by_part : (o : Option (ℕ × Low)) → slice_get (inner_low l) i ≡ o → option_and_then (λ x. place_below (record { variables = n + x.0; expr = x.1 }) path) o ≡ Some r → IsSoundAt t r
        by_part None s found = absurd cc
        by_part (Some x) s found = (below i x s).holds path r found
