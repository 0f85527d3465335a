-- How what a run tells of parts makes what it tells of the whole.
use Rattle.std.proofs.Common.{◌≡◌, ◌+◌, ◌≤◌, ◌<◌, ℕ, suc, add-one, get_or, Bool, true, false, List, [], ◌∷◌, ◌++◌, length, take, drop, slice_get, refl, sym, ap, subst, ◌∙◌, append_assoc, arith, Some, None, Ok, Err, Result}
use Rattle.std.proofs.lemmas.List.{drop-append-le, length-append, append-nil, length-take-le}
use Rattle.std.proofs.lemmas.Option.{slice_get_within, get_or_from_slice_get}
use Rattle.std.specs.List.{remove}
use Rattle.std.proofs.Math.Seq.{drop-append_seam, take-append_seam, drop-cons}
use Rattle.std.specs.Option.{option_or}
use Rattle.fr_value.specs.declared.now.Now.{Now}
use Rattle.fr_value.specs.declared.now.Bad.{Bad}
use Rattle.fr_value.specs.declared.now.Bad.TheVariants.{Arity}
use Rattle.fr_value.specs.declared.primitive.Primitive.{Primitive}
use Rattle.fr_core.specs.declared.core_form.Core.{Core}
use Rattle.fr_core.specs.declared.kept.Kept.{Kept}
use Rattle.fr_core.specs.declared.kept.Kept.TheVariants as kept
use Rattle.fr_core.specs.declared.program.Function.{Function}
use Rattle.fr_meaning.specs.Words.{Seen, Env, First, Done, own, under, test_of}
use Rattle.fr_meaning.specs.Primitives.{applied}
use Rattle.fr_meaning.specs.Cells.{child}
use Rattle.fr_meaning.specs.States.{gives}
use Rattle.fr_meaning.specs.Evaluation.{Parts, parts, join_part, no_parts, let_done, Choice, chosen_by, choose, choice_kept, switch_done, call_done, Turns, turned, no_turns, turns_done, body_with, line_done}
use Rattle.fr_kernel.specs.declared.machine.Kind.{Kind}
use Rattle.fr_kernel.specs.declared.machine.Kind.TheVariants as kind
use Rattle.fr_kernel.specs.declared.machine.Machine.{Machine}
use Rattle.fr_kernel.specs.declared.fuel.KernStop.{KernStop}
use Rattle.fr_kernel.specs.declared.fuel.KernStop.TheVariants as stop
use Rattle.fr_kernel.specs.Answers.{here, kind_of, StopsBy, Gives, Answers, Tells, scope, Holds, BindsOr, AppliesHeld, SpendsOr, BindsTurnOr, PutsOr, Puts, TakesOr, Takes, TestsOr, Untold, IsWant, Ran}

-- a stop of a part is one of the whole
pub stop_within : (s : KernStop) (f1 f0 c1 c0 : ℕ) (x1 x0 : First) → StopsBy s f1 c1 x1 → (f1 < c1 → f0 < c0) → ((b : Bad) → kind_of x1 ≡ Some b → kind_of x0 ≡ Some b) → StopsBy s f0 c0 x0
stop_within (stop.Memory e) f1 f0 c1 c0 x1 x0 h less kinds = tt
stop_within (stop.Bad b) f1 f0 c1 c0 x1 x0 h less kinds = kinds b h
stop_within stop.Fuel f1 f0 c1 c0 x1 x0 h less kinds = less h

pub want : (s : KernStop) (f c : ℕ) (x : First) → IsWant s → StopsBy s f c x
want (stop.Memory e) f c x h = tt
want (stop.Bad b) f c x h = absurd h
want stop.Fuel f c x h = absurd h

pub kind_under : (i : ℕ) (x : First) → kind_of (under i x) ≡ kind_of x
kind_under i None = refl
kind_under i (Some f) = refl

pub kind_or : (b : Bad) (x y : First) → kind_of x ≡ Some b → kind_of (option_or x y) ≡ Some b
kind_or b None y h = absurd cc
kind_or b (Some f) y h = h

-- behind what has no error
pub kind_behind : (b : Bad) (x y : First) → x ≡ None → kind_of y ≡ Some b → kind_of (option_or x y) ≡ Some b
kind_behind b x y clean h = rw clean h

-- how an answer over one machine is one over an earlier machine
pub record Leads (m0 m1 m2 : Machine) (s : List Seen) (v : Seen) (c cost : ℕ) (x first : First) : Type 0 where
  pub paid : m1.fuel + cost ≡ m0.fuel + c
  pub clean : x ≡ None → own v ≡ None → first ≡ None
  pub kinds : (b : Bad) → kind_of x ≡ Some b → kind_of first ≡ Some b
  pub slots : m2.slots ≡ m1.slots → s ≡ m0.slots
  pub held : m1.held ≡ m0.held

given : (a : Seen) (m0 m1 m2 : Machine) (s : List Seen) (v : Seen) (c cost : ℕ) (x first : First) → Leads m0 m1 m2 s v c cost x first → Gives a m1 m2 v c x → Gives a m0 (record m2 { slots = s }) v cost first
given a m0 m1 m2 s v c cost x first l g = record {
  value = g.value;
  good = g.good;
  clean = l.clean g.clean g.good;
  paid = omega (arith, l.paid, g.paid);
  slots = l.slots g.slots;
  held = g.held ∙ l.held;
}

pub leads : (k : Kind) (m0 m1 m2 : Machine) (s : List Seen) (v : Seen) (c cost : ℕ) (x first : First) → Leads m0 m1 m2 s v c cost x first → Answers k m1 m2 v c x → Answers k m0 (record m2 { slots = s }) v cost first
leads kind.Stop m0 m1 m2 s v c cost x first l h = stop_within m2.stop m1.fuel m0.fuel c cost x first h (λ less. omega (arith, l.paid, less)) l.kinds
leads kind.Int m0 m1 m2 s v c cost x first l h = given _ m0 m1 m2 s v c cost x first l h
leads kind.False m0 m1 m2 s v c cost x first l h = given _ m0 m1 m2 s v c cost x first l h
leads kind.True m0 m1 m2 s v c cost x first l h = given _ m0 m1 m2 s v c cost x first l h
leads kind.Other m0 m1 m2 s v c cost x first l h = given _ m0 m1 m2 s v c cost x first l h

-- a stop among parts is one of what comes behind them
pub stop_or : (s : KernStop) (left c cost : ℕ) (x y : First) → StopsBy s left c x → c ≤ cost → StopsBy s left cost (option_or x y)
stop_or s left c cost x y h more = stop_within s left left c cost x (option_or x y) h (λ less. omega (arith, less, more)) (λ b e. kind_or b x y e)

pub parts_stop : (s : KernStop) (left c cost : ℕ) (x y z : First) → StopsBy s left c x → c ≤ cost → StopsBy s left cost (option_or (option_or x y) z)
parts_stop s left c cost x y z h more = stop_or s left cost cost (option_or x y) z (stop_or s left c cost x y h more) (omega arith)

-- the values of parts became slots
pub record Enters (m0 m1 : Machine) (vs : List Seen) (cost : ℕ) (first : First) : Type 0 where
  pub clean : first ≡ None
  pub paid : m1.fuel + cost ≡ m0.fuel
  pub slots : m1.slots ≡ m0.slots ++ vs
  pub held : m1.held ≡ m0.held

pub enters : (m0 m1 m2 : Machine) (vs : List Seen) (cost : ℕ) (first : First) → Holds m0 m1 vs cost first → BindsOr true (length m0.held) m1 m2 → Enters m0 m2 vs cost first
enters m0 m1 m2 vs cost first h e = record {
  clean = h.clean;
  paid = rw (ap (λ m. m.fuel) e) h.paid;
  slots = ap (λ m. m.slots) e ∙ rw (h.slots, h.held, drop-append_seam m0.held vs) refl;
  held = ap (λ m. m.held) e ∙ rw (h.held, take-append_seam m0.held vs) refl;
}

pub scope_behind : (base : ℕ) (m0 m1 : Machine) (vs : List Seen) → base ≤ length m0.slots → m1.slots ≡ m0.slots ++ vs → scope base m1 ≡ scope base m0 ++ vs
scope_behind base m0 m1 vs within e = ap (drop base) e ∙ drop-append-le base m0.slots vs within

-- an answer over the slots that were entered, which are let go of
pub inside : (kd : Kind) (m0 m1 m2 : Machine) (vs : List Seen) (v : Seen) (c0 c cost outer : ℕ) (x0 x : First) (n : ℕ) → Enters m0 m1 vs c0 x0 → outer ≡ length m0.slots → cost ≡ c0 + c
    → Answers kd m1 m2 v c x → Answers kd m0 (record m2 { slots = take outer m2.slots }) v cost (option_or (option_or x0 (under n x)) (own v))
inside kd m0 m1 m2 vs v c0 c cost outer x0 x n h at sum = leads kd m0 m1 m2 (take outer m2.slots) v c cost x (option_or (option_or x0 (under n x)) (own v)) (record {
  paid = omega (arith, h.paid, sum);
  clean = λ clean good. rw (h.clean, clean) good;
  kinds = λ b e. kind_or b (option_or x0 (under n x)) (own v) (kind_behind b x0 (under n x) h.clean (kind_under n x ∙ e));
  slots = λ same. rw (same, h.slots, at) (take-append_seam m0.slots vs);
  held = h.held;
})

pub let_tells : (fs : List Function) (n base : ℕ) (k : Kept) (kd : Kind) (m0 m1 m2 m3 : Machine) (es : List Core) (body : Core) → base ≤ length m0.slots
    → (let ps = parts (here fs n) (scope base m0) k 0 es in Holds m0 m1 ps.values ps.cost ps.first)
    → BindsOr true (length m0.held) m1 m2
    → Tells kd m2 m3 (here fs n body (scope base m2) (child k (length es)))
    → Tells kd m0 (record m3 { slots = take (length m1.slots) m3.slots }) (let_done (here fs n) (scope base m0) k (length es) (parts (here fs n) (scope base m0) k 0 es) body)
let_tells fs n base k kd m0 m1 m2 m3 es body within h e t =
    let ps = parts (here fs n) (scope base m0) k 0 es in
    let g = enters m0 m1 m2 ps.values ps.cost ps.first h e in
    let d = here fs n body (scope base m0 ++ ps.values) (child k (length es)) in
    let t' : Tells kd m2 m3 d = subst (λ env. Tells kd m2 m3 (here fs n body env (child k (length es)))) (scope_behind base m0 m2 ps.values within g.slots) t in
    inside kd m0 m2 m3 ps.values d.value ps.cost d.cost (ps.cost + d.cost) (length m1.slots) ps.first d.first (length es) g (ap length h.slots) refl t'

-- a call's body costs 1 more than its evaluation
spent : (m1 m2 : Machine) → SpendsOr true m1 m2 → (m2.fuel + 1 ≡ m1.fuel) × (m2.slots ≡ m1.slots) × (m2.held ≡ m1.held)
spent m1 m2 h = (h.1, ap (λ m. m.slots) h.0, ap (λ m. m.held) h.0)

-- the values of parts are held, and one more was spent
pub spends : (m0 m1 m2 : Machine) (vs : List Seen) (cost : ℕ) (first : First) → Holds m0 m1 vs cost first → SpendsOr true m1 m2 → Holds m0 m2 vs (cost + 1) first
spends m0 m1 m2 vs cost first h e =
    let s = spent m1 m2 e in
    record { clean = h.clean; paid = omega (arith, h.paid, s.0); slots = s.1 ∙ h.slots; held = s.2 ∙ h.held }

pub call_tells : (fs : List Function) (n : ℕ) (k : Kept) (kd : Kind) (m0 m1 m2 m3 m4 : Machine) (ps : Parts) (i : ℕ) (body : Core)
    → Holds m0 m1 ps.values ps.cost ps.first
    → SpendsOr true m1 m2
    → BindsOr true (length m0.held) m2 m3
    → Tells kd m3 m4 (here fs n body (scope (length m2.slots) m3) (child k i))
    → Tells kd m0 (record m4 { slots = take (length m2.slots) m4.slots }) (call_done (here fs n) k i ps (Some body))
call_tells fs n k kd m0 m1 m2 m3 m4 ps i body h s e t =
    let h2 = spends m0 m1 m2 ps.values ps.cost ps.first h s in
    let g = enters m0 m2 m3 ps.values (ps.cost + 1) ps.first h2 e in
    let d = here fs n body ps.values (child k i) in
    let env : scope (length m2.slots) m3 ≡ ps.values = rw (g.slots, h2.slots) (drop-append_seam m0.slots ps.values) in
    let t' : Tells kd m3 m4 d = subst (λ env. Tells kd m3 m4 (here fs n body env (child k i))) env t in
    inside kd m0 m3 m4 ps.values d.value (ps.cost + 1) d.cost (ps.cost + (d.cost + 1)) (length m2.slots) ps.first d.first i g (ap length h2.slots) (omega arith) t'

pub call_unpaid : (ev : Core → Env → Kept → Done) (k : Kept) (m0 m1 m2 : Machine) (ps : Parts) (i : ℕ) (body : Core)
    → Holds m0 m1 ps.values ps.cost ps.first → SpendsOr false m1 m2 → Tells kind.Stop m0 m2 (call_done ev k i ps (Some body))
call_unpaid ev k m0 m1 m2 ps i body h s = rw s.0 (omega (arith, h.paid, s.1))

pub call_refused : (ev : Core → Env → Kept → Done) (k : Kept) (m0 m1 m2 : Machine) (ps : Parts) (i : ℕ)
    → Holds m0 m1 ps.values ps.cost ps.first → m2.stop ≡ stop.Bad Arity → Tells kind.Stop m0 m2 (call_done ev k i ps None)
call_refused ev k m0 m1 m2 ps i h e = rw (e, h.clean) refl

taken : (a b : Seen) (m0 m1 m2 : Machine) (v : Seen) (c : ℕ) (x : First) → Takes a b m1 m2 → Gives b m0 m1 v c x → Gives a m0 m2 v c x
taken a b m0 m1 m2 v c x t g = record {
  value = g.value ∙ sym t.value;
  good = g.good;
  clean = g.clean;
  paid = rw t.fuel g.paid;
  slots = t.slots ∙ g.slots;
  held = t.held ∙ g.held;
}

-- an answer that is a value
pub takes : (a : Seen) (kd : Kind) (m0 m1 m2 : Machine) (v : Seen) (c : ℕ) (x : First) → TakesOr (Some a) kd m1 m2 → Answers kd m0 m1 v c x → Gives a m0 m2 v c x
takes a kind.Stop m0 m1 m2 v c x t h = absurd t
takes a kind.Int m0 m1 m2 v c x t h = taken a _ m0 m1 m2 v c x t h
takes a kind.False m0 m1 m2 v c x t h = taken a _ m0 m1 m2 v c x t h
takes a kind.True m0 m1 m2 v c x t h = taken a _ m0 m1 m2 v c x t h
takes a kind.Other m0 m1 m2 v c x t h = taken a _ m0 m1 m2 v c x t h

-- an answer that is none
pub takes_none : (kd : Kind) (m0 m1 m2 : Machine) (v : Seen) (c : ℕ) (x : First) → TakesOr None kd m1 m2 → Answers kd m0 m1 v c x → StopsBy m2.stop m0.fuel c x
takes_none kind.Stop m0 m1 m2 v c x t h = rw t h
takes_none kind.Int m0 m1 m2 v c x t h = absurd t
takes_none kind.False m0 m1 m2 v c x t h = absurd t
takes_none kind.True m0 m1 m2 v c x t h = absurd t
takes_none kind.Other m0 m1 m2 v c x t h = absurd t

put : (a : Seen) (m0 m1 m2 : Machine) (v : Seen) (c : ℕ) (x : First) → Puts a m1 m2 → Gives a m0 m1 v c x → Holds m0 m2 (v ∷ []) c x
put a m0 m1 m2 v c x p g = record {
  clean = g.clean;
  paid = rw p.fuel g.paid;
  slots = p.slots ∙ g.slots;
  held = p.held ∙ rw (g.held, g.value) refl;
}

pub puts : (kd : Kind) (m0 m1 m2 : Machine) (v : Seen) (c : ℕ) (x : First) → PutsOr true kd m1 m2 → Answers kd m0 m1 v c x → Holds m0 m2 (v ∷ []) c x
puts kind.Stop m0 m1 m2 v c x t h = absurd t
puts kind.Int m0 m1 m2 v c x t h = put _ m0 m1 m2 v c x t h
puts kind.False m0 m1 m2 v c x t h = put _ m0 m1 m2 v c x t h
puts kind.True m0 m1 m2 v c x t h = put _ m0 m1 m2 v c x t h
puts kind.Other m0 m1 m2 v c x t h = put _ m0 m1 m2 v c x t h

pub puts_none : (kd : Kind) (m0 m1 m2 : Machine) (v : Seen) (c : ℕ) (x : First) → PutsOr false kd m1 m2 → Answers kd m0 m1 v c x → StopsBy m2.stop m0.fuel c x
puts_none kind.Stop m0 m1 m2 v c x t h = rw t h
puts_none kind.Int m0 m1 m2 v c x t h = want m2.stop m0.fuel c x t
puts_none kind.False m0 m1 m2 v c x t h = want m2.stop m0.fuel c x t
puts_none kind.True m0 m1 m2 v c x t h = want m2.stop m0.fuel c x t
puts_none kind.Other m0 m1 m2 v c x t h = want m2.stop m0.fuel c x t

-- parts that were evaluated, and those that are left
pub record Onward (start now : Machine) (rest all : Parts) : Type 0 where
  pub slots : now.slots ≡ start.slots
  pub held : now.held ++ rest.values ≡ start.held ++ all.values
  pub first : rest.first ≡ all.first
  pub paid : now.fuel + all.cost ≡ start.fuel + rest.cost

pub onward : (m0 m1 m2 : Machine) (d : Done) (i : ℕ) (rest all : Parts) → Onward m0 m1 (join_part i d rest) all → Holds m1 m2 (d.value ∷ []) d.cost d.first → Onward m0 m2 rest all
onward m0 m1 m2 d i rest all o h = record {
  slots = h.slots ∙ o.slots;
  held = rw (h.held, append_assoc m1.held (d.value ∷ []) rest.values) o.held;
  first = rw (h.clean) at o.first;
  paid = omega (arith, o.paid, h.paid);
}

pub onward_stop : (m0 m1 m2 : Machine) (d : Done) (i : ℕ) (rest all : Parts) → Onward m0 m1 (join_part i d rest) all → StopsBy m2.stop m1.fuel d.cost d.first → StopsBy m2.stop m0.fuel all.cost all.first
onward_stop m0 m1 m2 d i rest all o h = stop_within m2.stop m1.fuel m0.fuel d.cost all.cost d.first all.first h (λ less. omega (arith, o.paid, less))
    (λ b e. rw (← o.first) (kind_or b (under i d.first) rest.first (kind_under i d.first ∙ e)))

pub onward_done : (m0 m1 : Machine) (all : Parts) → Onward m0 m1 no_parts all → Holds m0 m1 all.values all.cost all.first
onward_done m0 m1 all o = record { clean = sym o.first; paid = omega (arith, o.paid); slots = o.slots; held = sym (append-nil m1.held) ∙ o.held }

told_by : (a : Seen) (m0 m1 m2 : Machine) (v : Seen) (c : ℕ) (x : First) (t : Bool) → test_of a ≡ Ok t → m2 ≡ m1 → Gives a m0 m1 v c x → (test_of v ≡ Ok t) × Enters m0 m2 [] c x
told_by a m0 m1 m2 v c x t test same g = (
  rw g.value test,
  record {
    clean = g.clean;
    paid = rw same g.paid;
    slots = rw same (g.slots ∙ sym (append-nil m0.slots));
    held = rw same g.held;
  },
)

-- a switch behind its test
pub told : (kd : Kind) (m0 m1 m2 : Machine) (v : Seen) (c : ℕ) (x : First) (t : Bool) → TestsOr (Some t) kd m1 m2 → Answers kd m0 m1 v c x → (test_of v ≡ Ok t) × Enters m0 m2 [] c x
told kind.Stop m0 m1 m2 v c x t h g = absurd h
told kind.Int m0 m1 m2 v c x t h g = told_by _ m0 m1 m2 v c x t h.0 h.1 g
told kind.False m0 m1 m2 v c x t h g = told_by _ m0 m1 m2 v c x t h.0 h.1 g
told kind.True m0 m1 m2 v c x t h g = told_by _ m0 m1 m2 v c x t h.0 h.1 g
told kind.Other m0 m1 m2 v c x t h g = told_by _ m0 m1 m2 v c x t h.0 h.1 g

-- an answer behind a part that has no error
pub behind : (kd : Kind) (m0 m1 m2 : Machine) (v : Seen) (c0 c : ℕ) (x0 x : First) (i n : ℕ) → Enters m0 m1 [] c0 x0
    → Answers kd m1 m2 v c x → Answers kd m0 m2 v (c0 + c) (option_or (option_or (under i x0) (under n x)) (own v))
behind kd m0 m1 m2 v c0 c x0 x i n h = leads kd m0 m1 m2 m2.slots v c (c0 + c) x (option_or (option_or (under i x0) (under n x)) (own v)) (record {
  paid = omega (arith, h.paid);
  clean = λ clean good. rw (h.clean, clean) good;
  kinds = λ b e. kind_or b (option_or (under i x0) (under n x)) (own v) (rw h.clean (kind_under n x ∙ e));
  slots = λ same. same ∙ h.slots ∙ append-nil m0.slots;
  held = h.held;
})

pub if_tells : (fs : List Function) (n : ℕ) (env : Env) (k : Kept) (kd kd2 : Kind) (m0 m1 m2 m3 : Machine) (a b : Core) (t : Done) (holds : Bool)
    → TestsOr (Some holds) kd m1 m2 → Tells kd m0 m1 t
    → ((k : Kept) → Tells kd2 m2 m3 (here fs n (chosen_by a b holds).expr env k))
    → Tells kd2 m0 m3 (switch_done (here fs n) env k t (choose a b t.value))
if_tells fs n env k kd kd2 m0 m1 m2 m3 a b t holds h g last =
    let c = chosen_by a b holds in
    let test = told kd m0 m1 m2 t.value t.cost t.first holds h g in
    let d = here fs n c.expr env (choice_kept k c) in
    rw test.0 (behind kd2 m0 m2 m3 d.value t.cost d.cost t.first d.first 0 c.number test.1 (last (choice_kept k c)))

-- a stop in a test
switch_stop : (ev : Core → Env → Kept → Done) (env : Env) (k : Kept) (s : KernStop) (left : ℕ) (t : Done) (r : Result Choice Bad) → StopsBy s left t.cost t.first
    → (let d = switch_done ev env k t r in StopsBy s left d.cost d.first)
switch_stop ev env k s left t (Err b) h = stop_within s left left t.cost t.cost t.first (option_or (under 0 t.first) (own (Err b))) h (λ less. less) (λ b' e. kind_or b' (under 0 t.first) _ (kind_under 0 t.first ∙ e))
switch_stop ev env k s left t (Ok c) h =
    let d = ev c.expr env (choice_kept k c) in
    stop_within s left left t.cost (t.cost + d.cost) t.first _ h (λ less. omega (arith, less)) (λ b e. kind_or b _ _ (kind_or b (under 0 t.first) _ (kind_under 0 t.first ∙ e)))

-- a test that tells nothing
untold_by : (a : Seen) (m0 m1 m2 : Machine) (v : Seen) (c : ℕ) (x : First) (ev : Core → Env → Kept → Done) (env : Env) (k : Kept) (p q : Core) (t : Done) → Untold a m2
    → Gives a m0 m1 t.value t.cost t.first → Tells kind.Stop m0 m2 (switch_done ev env k t (choose p q t.value))
untold_by a m0 m1 m2 v c x ev env k p q t u g = rw (g.value, u.test, u.stop, g.clean) refl

pub if_none : (ev : Core → Env → Kept → Done) (env : Env) (k : Kept) (kd : Kind) (m0 m1 m2 : Machine) (a b : Core) (t : Done)
    → TestsOr None kd m1 m2 → Tells kd m0 m1 t → Tells kind.Stop m0 m2 (switch_done ev env k t (choose a b t.value))
if_none ev env k kind.Stop m0 m1 m2 a b t h g = switch_stop ev env k m2.stop m0.fuel t (choose a b t.value) (rw h g)
if_none ev env k kind.Int m0 m1 m2 a b t h g = untold_by _ m0 m1 m2 t.value t.cost t.first ev env k a b t h g
if_none ev env k kind.False m0 m1 m2 a b t h g = untold_by _ m0 m1 m2 t.value t.cost t.first ev env k a b t h g
if_none ev env k kind.True m0 m1 m2 a b t h g = untold_by _ m0 m1 m2 t.value t.cost t.first ev env k a b t h g
if_none ev env k kind.Other m0 m1 m2 a b t h g = untold_by _ m0 m1 m2 t.value t.cost t.first ev env k a b t h g

-- a primitive over the values of its parts
pub prim_tells : (kd : Kind) (m0 m1 m2 : Machine) (p : Primitive) (ps : Parts)
    → Holds m0 m1 ps.values ps.cost ps.first
    → AppliesHeld kd (length m0.held) m1 m2 (applied p (drop (length m0.held) m1.held))
    → Tells kd m0 m2 (line_done ps (gives (applied p ps.values) None))
prim_tells kd m0 m1 m2 p ps h e =
    let v = applied p ps.values in
    let values : drop (length m0.held) m1.held ≡ ps.values = rw h.held (drop-append_seam m0.held ps.values) in
    let before = record m1 { held = take (length m0.held) m1.held } in
    let e' : Answers kd before m2 v 0 (own v) = subst (λ vs. Answers kd before m2 (applied p vs) 0 (own (applied p vs))) values e in
    leads kd m0 before m2 m2.slots v 0 (ps.cost + 0) (own v) (line_done ps (gives v None)).first (record {
      paid = omega (arith, h.paid);
      clean = λ clean good. rw (h.clean, good) refl;
      kinds = λ b e. kind_behind b ps.first _ h.clean (kind_or b (own v) None e);
      slots = λ same. same ∙ h.slots;
      held = rw h.held (take-append_seam m0.held ps.values);
    }) e'

-- turns behind the parts of a loop
loop_kinds : (b : Bad) (n : ℕ) (x y : First) → kind_of (option_or x y) ≡ Some b → kind_of (option_or (under n x) y) ≡ Some b
loop_kinds b n None y h = h
loop_kinds b n (Some f) y h = h

loop_clean : (n : ℕ) (x y : First) → option_or x y ≡ None → option_or (under n x) y ≡ None
loop_clean n None y h = h
loop_clean n (Some f) y h = absurd cc

pub loop_tells : (kd : Kind) (m0 m1 m2 m3 : Machine) (ps : Parts) (n : ℕ) (ts : Turns)
    → Holds m0 m1 ps.values ps.cost ps.first
    → m2 ≡ record m1 { held = take (length m0.held) m1.held }
    → Answers kd m2 m3 ts.value ts.cost (option_or ts.first (own ts.value))
    → Tells kd m0 m3 (turns_done n ps ts)
loop_tells kd m0 m1 m2 m3 ps n ts h e t = leads kd m0 m2 m3 m3.slots ts.value ts.cost (ps.cost + ts.cost) (option_or ts.first (own ts.value)) (turns_done n ps ts).first (record {
  paid = rw (ap (λ m. m.fuel) e) (omega (arith, h.paid));
  clean = λ clean good. rw h.clean (loop_clean n ts.first (own ts.value) clean);
  kinds = λ b e. rw h.clean (loop_kinds b n ts.first (own ts.value) e);
  slots = λ same. same ∙ ap (λ m. m.slots) e ∙ h.slots;
  held = ap (λ m. m.held) e ∙ rw h.held (take-append_seam m0.held ps.values);
}) t

-- a turn
pub turn_tells : (fs : List Function) (n base : ℕ) (kd : Kind) (m0 m1 m2 m3 : Machine) (body : Core) (vs : List Seen) → base ≤ length m0.slots
    → SpendsOr true m0 m1 → BindsTurnOr true m1 m2 vs
    → ((k : Kept) → Tells kd m2 m3 (here fs n body (scope base m2) k))
    → (let d = body_with (here fs n) (scope base m0) body vs in Answers kd m0 (record m3 { slots = take (length m1.slots) m3.slots }) d.value (d.cost + 1) d.first)
turn_tells fs n base kd m0 m1 m2 m3 body vs within s e t =
    let d = body_with (here fs n) (scope base m0) body vs in
    let w = spent m0 m1 s in
    let slots : m2.slots ≡ m0.slots ++ vs = ap (λ m. m.slots) e ∙ ap (λ l. l ++ vs) w.1 in
    let t' : Tells kd m2 m3 d = subst (λ env. Tells kd m2 m3 (here fs n body env kept.Nothing)) (scope_behind base m0 m2 vs within slots) (t kept.Nothing) in
    leads kd m0 m2 m3 (take (length m1.slots) m3.slots) d.value d.cost (d.cost + 1) d.first d.first (record {
      paid = omega (arith, w.0, ap (λ m. m.fuel) e);
      clean = λ clean good. clean;
      kinds = λ b e. e;
      slots = λ same. rw (same, slots, w.1) (take-append_seam m0.slots vs);
      held = ap (λ m. m.held) e ∙ w.2;
    }) t'

-- turns that were made, and those that are left
pub record Turning (start now : Machine) (rest all : Turns) : Type 0 where
  pub slots : now.slots ≡ start.slots
  pub held : now.held ≡ start.held
  pub value : rest.value ≡ all.value
  pub first : rest.first ≡ all.first
  pub paid : now.fuel + all.cost ≡ start.fuel + rest.cost

pub turning : (m0 m1 m2 : Machine) (d : Done) (a : Seen) (t : ℕ) (rest all : Turns) → Turning m0 m1 (turned t d rest) all → Gives a m1 m2 d.value (d.cost + 1) d.first → Turning m0 m2 rest all
turning m0 m1 m2 d a t rest all o g = record {
  slots = g.slots ∙ o.slots;
  held = g.held ∙ o.held;
  value = o.value;
  first = rw g.clean at o.first;
  paid = omega (arith, o.paid, g.paid);
}

pub turning_stop : (m0 m1 m2 : Machine) (d : Done) (t : ℕ) (rest all : Turns) (y : First) → Turning m0 m1 (turned t d rest) all → StopsBy m2.stop m1.fuel (d.cost + 1) d.first → StopsBy m2.stop m0.fuel all.cost (option_or all.first y)
turning_stop m0 m1 m2 d t rest all y o h = stop_within m2.stop m1.fuel m0.fuel (d.cost + 1) all.cost d.first (option_or all.first y) h (λ less. omega (arith, o.paid, less))
    (λ b e. kind_or b all.first y (rw (← o.first) (kind_or b (under t d.first) rest.first (kind_under t d.first ∙ e))))

-- behind the last turn
pub turning_done : (kd : Kind) (m0 m1 m2 : Machine) (a : Seen) (all : Turns) → Turning m0 m1 (no_turns a) all → Answers kd m1 m2 a 0 (own a) → Answers kd m0 m2 all.value all.cost (option_or all.first (own all.value))
turning_done kd m0 m1 m2 a all o h = rw (← o.value, ← o.first) (leads kd m0 m1 m2 m2.slots a 0 all.cost (own a) (own a) (record {
  paid = omega (arith, o.paid);
  clean = λ clean good. clean;
  kinds = λ b e. e;
  slots = λ same. same ∙ o.slots;
  held = o.held;
}) h)

-- a value is moved from one stack to another

cut_at : (s ys : List Seen) (from : ℕ) → from < length s → drop from (take from s ++ ys) ≡ ys
cut_at s ys from h =
    let e : length (take from s) ≡ from = length-take-le from s (omega (arith, h)) in
    subst (λ n. drop n (take from s ++ ys) ≡ ys) e (drop-append_seam (take from s) ys)

pub moved_one : (s to : List Seen) (from : ℕ) (v : Seen) → slice_get s from ≡ Some v → (to ++ v ∷ []) ++ drop from (remove s from) ≡ to ++ drop from s
moved_one s to from v h =
    let within = slice_get_within s from v h in
    let here : drop from s ≡ v ∷ drop (suc from) s = drop-cons s from v within ∙ ap (λ x. x ∷ drop (suc from) s) (get_or_from_slice_get s from v v h) in
    append_assoc to (v ∷ []) (drop from (remove s from)) ∙ rw (here, cut_at s (drop (suc from) s) from within) refl

pub front_one : (s : List Seen) (from : ℕ) → from < length s → take from (remove s from) ≡ take from s
front_one s from h =
    let e : length (take from s) ≡ from = length-take-le from s (omega (arith, h)) in
    subst (λ n. take n (take from s ++ drop (suc from) s) ≡ take from s) e (take-append_seam (take from s) (drop (suc from) s))

-- what a walk over parts and into bodies reads

pub next_part : (es : List Core) (i : ℕ) (e : Core) → i < length es → e ≡ get_or es i e → drop i es ≡ e ∷ drop (i + 1) es
next_part es i e h is = drop-cons es i e h ∙ ap (λ x. x ∷ drop (suc i) es) (sym is) ∙ rw (add-one i) refl

pub within_entered : (base : ℕ) (m0 m1 : Machine) (vs : List Seen) → m1.slots ≡ m0.slots ++ vs → base ≤ length m0.slots → base ≤ length m1.slots
within_entered base m0 m1 vs e within = rw e (omega (arith, length-append m0.slots vs, within))

pub within_held : (m0 m1 : Machine) (vs : List Seen) → m1.held ≡ m0.held ++ vs → length m0.held ≤ length m1.held
within_held m0 m1 vs e = rw e (omega (arith, length-append m0.held vs))

-- what a run tells

given_as : (a b : Seen) (m0 m1 m2 : Machine) (v : Seen) (c : ℕ) (x : First) → Takes a b m1 m2 → Gives b m0 m1 v c x → Gives a m0 m1 v c x
given_as a b m0 m1 m2 v c x t g = record { value = g.value ∙ sym t.value; good = g.good; clean = g.clean; paid = g.paid; slots = g.slots; held = g.held }

is_given : (a : Seen) (kd : Kind) (m0 m1 m2 : Machine) (v : Seen) (c : ℕ) (x : First) → TakesOr (Some a) kd m1 m2 → Answers kd m0 m1 v c x → Gives a m0 m1 v c x
is_given a kind.Stop m0 m1 m2 v c x t h = absurd t
is_given a kind.Int m0 m1 m2 v c x t h = given_as a _ m0 m1 m2 v c x t h
is_given a kind.False m0 m1 m2 v c x t h = given_as a _ m0 m1 m2 v c x t h
is_given a kind.True m0 m1 m2 v c x t h = given_as a _ m0 m1 m2 v c x t h
is_given a kind.Other m0 m1 m2 v c x t h = given_as a _ m0 m1 m2 v c x t h

pub ran_ok : (n : Now) (kd : Kind) (m0 m1 m2 : Machine) (d : Done) (before : ℕ) → m0.fuel ≡ before → TakesOr (Some (Ok n)) kd m1 m2 → Tells kd m0 m1 d → Ran (Ok n) before m1.fuel d
ran_ok n kd m0 m1 m2 d before e t h =
    let g = is_given (Ok n) kd m0 m1 m2 d.value d.cost d.first t h in
    record { value = g.value; clean = g.clean; paid = g.paid ∙ e }

pub ran_bad : (b : Bad) (kd : Kind) (m0 m1 m2 : Machine) (d : Done) (before after : ℕ) → TakesOr (Some (Err b)) kd m1 m2 → Tells kd m0 m1 d → Ran (Err (stop.Bad b)) before after d
ran_bad b kd m0 m1 m2 d before after t h =
    let g = is_given (Err b) kd m0 m1 m2 d.value d.cost d.first t h in
    let none : own (Err b) ≡ None = rw g.value at g.good in
    absurd cc

pub ran_none : (kd : Kind) (m0 m1 m2 : Machine) (d : Done) (before after : ℕ) → m0.fuel ≡ before → TakesOr None kd m1 m2 → Tells kd m0 m1 d → Ran (Err m2.stop) before after d
ran_none kd m0 m1 m2 d before after e t h = rw (← e) (takes_none kd m0 m1 m2 d.value d.cost d.first t h)
