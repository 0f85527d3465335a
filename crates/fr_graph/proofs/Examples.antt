-- Worked examples: a switch whose choice holds an event, as a graph that obeys all its rules; and what is built, and what isn't.
use Rattle.std.proofs.Common.{inl, inr, ℕ, zero, suc, pos, List, [], ◌∷◌, Bool, true, false, refl, arith, Option, Some, None}
use Rattle.fr_value.specs.declared.primitive.Primitive.TheVariants as prim
use Rattle.fr_value.specs.declared.value.Value.{Value}
use Rattle.fr_value.specs.declared.value.Value.TheVariants as value
use Rattle.fr_core.specs.declared.core_form.Operator.TheVariants as operator
use Rattle.fr_core.specs.declared.lowered.Low.{Low}
use Rattle.fr_core.specs.declared.lowered.Low.TheVariants as low
use Rattle.fr_core.specs.declared.lowered.Low.TheVariants.{outs-Lit, outs-Var, outs-Source, outs-If, outs-Apply, outs-Operator, outs-Feedback}
use Rattle.fr_meaning.specs.Words.{Seen, plain, occurs}
use Rattle.fr_meaning.specs.Cells.{Cell, datum}
use Rattle.fr_meaning.specs.Primitives.{applied}
use Rattle.fr_graph.specs.Graph.{Part, steady, signal, operates, Kind, source, works, watch, result, Graph}
use Rattle.fr_graph.specs.Walk.{Plan, place}
use Rattle.fr_graph.specs.Wired.{Wired}
use Rattle.fr_graph.specs.Fails.{Fails}
use Rattle.fr_graph.specs.Front.{ChoiceErrs}

-- (if x (hold e 0) 7)
abbrev choice_a : Low
choice_a = low.Operator operator.Hold (low.Source (record { 0 = 2 }) ∷ low.Lit (value.Int (pos 0)) ∷ [])

abbrev choice_b : Low
choice_b = low.Lit (value.Int (pos 7))

abbrev switch : Low
switch = low.If (record { 0 = 0 }) (low.Source (record { 0 = 1 })) choice_a choice_b

-- source s has node s
abbrev plan : Plan
plan = record { functions = []; table = record { functions = []; kernels = [] }; node_of = λ s. s }

-- `now`, the input, which is `#t`, the event, which occurs with 5, the watch, its result, and in the watch's era the node that holds
abbrev kinds : ℕ → Kind
kinds zero = source 0
kinds (suc zero) = source 1
kinds (suc (suc zero)) = source 2
kinds (suc (suc (suc zero))) = watch choice_a choice_b []
kinds (suc (suc (suc (suc zero)))) = result
kinds m = works (operates operator.Hold)

abbrev inputs : ℕ → List Part
inputs (suc (suc (suc zero))) = signal 1 ∷ []
inputs (suc (suc (suc (suc zero)))) = signal 5 ∷ []
inputs (suc (suc (suc (suc (suc zero))))) = signal 2 ∷ steady (plain (value.Int (pos 0))) ∷ []
inputs m = []

abbrev values : ℕ → Seen
values zero = plain (value.Int (pos 9))
values (suc zero) = plain (value.Bool true)
values (suc (suc zero)) = occurs (Some (value.Int (pos 5)))
values (suc (suc (suc zero))) = plain (value.Bool true)
values m = plain (value.Int (pos 5))

abbrev cells : ℕ → Option Cell
cells (suc (suc (suc (suc (suc zero))))) = Some (datum (value.Int (pos 5)))
cells m = None

abbrev eras : ℕ → ℕ
eras (suc (suc (suc (suc (suc zero))))) = 4
eras m = 0

abbrev members : ℕ → List ℕ
members zero = 0 ∷ 1 ∷ 2 ∷ 3 ∷ 4 ∷ []
members (suc (suc (suc (suc zero)))) = 5 ∷ []
members m = []

abbrev lives : ℕ → Bool
lives zero = true
lives (suc zero) = true
lives (suc (suc zero)) = true
lives (suc (suc (suc zero))) = true
lives (suc (suc (suc (suc zero)))) = true
lives (suc (suc (suc (suc (suc zero))))) = true
lives m = false

abbrev graph : ℕ → Graph
graph n = record { live = lives; kind = kinds; inputs = inputs; later = λ m. None; value = values; cell = cells; level = λ m. suc (suc n); era = eras; members = members; result_of = λ m. 4 }

switch_wired : (n : ℕ) → Wired (graph n) plan 0 (suc (suc (suc n))) switch [] (3 ∷ 4 ∷ [])
unfolding place Wired
switch_wired n = rw (outs-If (record { 0 = 0 }) (low.Source (record { 0 = 1 })) choice_a choice_b, outs-Source (record { 0 = 1 })) (
  record { live = refl; kind = refl },
  record {
    watch = record { there = omega arith; live = refl; era = refl; level = refl; kind = refl; inputs = refl; later = refl };
    there = omega arith;
    live = refl;
    era = refl;
    kind = refl;
    result = refl;
  },
)

-- (+ 1 v)
abbrev sum : Value → Low
sum v = low.Operator (operator.Prim prim.Add) (low.Lit (value.Int (pos 1)) ∷ low.Lit v ∷ [])

-- (hold e (+ 1 v))
abbrev holding : Value → Low
holding v = low.Operator operator.Hold (low.Source (record { 0 = 2 }) ∷ sum v ∷ [])

-- (if x (+ 1 v) 7), whose test varies
abbrev choosing : Value → Low
choosing v = low.If (record { 0 = 0 }) (low.Source (record { 0 = 1 })) (sum v) choice_b

-- (if #f (+ 1 v) 7), whose test never changes
abbrev settled : Value → Low
settled v = low.If (record { 0 = 0 }) (low.Lit (value.Bool false)) (sum v) choice_b

-- a truth value is no summand, and an integer is
sum_fails : (n : ℕ) (ms : List ℕ) → Fails plan (suc (suc n)) (sum (value.Bool true)) [] ms
unfolding place Fails applied
sum_fails n ms = rw (outs-Operator (operator.Prim prim.Add) (low.Lit (value.Int (pos 1)) ∷ low.Lit (value.Bool true) ∷ []), outs-Lit (value.Int (pos 1)), outs-Lit (value.Bool true)) (inr (λ c. let e = c.value in absurd cc))

sum_builds : (n : ℕ) (ms : List ℕ) → Fails plan (suc (suc n)) (sum (value.Int (pos 2))) [] ms → ⊥
unfolding place Fails applied
sum_builds n ms = rw (outs-Operator (operator.Prim prim.Add) (low.Lit (value.Int (pos 1)) ∷ low.Lit (value.Int (pos 2)) ∷ []), outs-Lit (value.Int (pos 1)), outs-Lit (value.Int (pos 2))) (λ x. elim x [
  | inl o ↦ elim o [ inl a ↦ a | inr b ↦ elim b [ inl c ↦ c | inr d ↦ d ] ]
  | inr o ↦ o (record { value = refl; inner = refl; refusal = refl })
])

-- an operand of a node that never changes and has no value fails
holding_fails : (n : ℕ) (ms : List ℕ) → Fails plan (suc (suc (suc n))) (holding (value.Bool true)) [] ms
unfolding place Fails
holding_fails n ms = rw (outs-Operator operator.Hold (low.Source (record { 0 = 2 }) ∷ sum (value.Bool true) ∷ []), outs-Source (record { 0 = 2 })) (inl (inr (inl (sum_fails n ms))))

-- one that has a value doesn't
holding_builds : (n : ℕ) (ms : List ℕ) → Fails plan (suc (suc (suc n))) (holding (value.Int (pos 2))) [] ms → ⊥
unfolding place Fails
holding_builds n ms = rw (outs-Operator operator.Hold (low.Source (record { 0 = 2 }) ∷ sum (value.Int (pos 2)) ∷ []), outs-Source (record { 0 = 2 })) (λ x. elim x [
  | inl o ↦ elim o [ inl a ↦ a | inr b ↦ elim b [ inl c ↦ sum_builds n ms c | inr d ↦ d ] ]
  | inr o ↦ o
])

-- the INIT of a `feedback` that has no value fails
feedback_fails : (n : ℕ) (ms : List ℕ) → Fails plan (suc (suc (suc n))) (low.Feedback (sum (value.Bool true)) choice_b) [] ms
unfolding place Fails
feedback_fails n ms = rw (outs-Feedback (sum (value.Bool true)) choice_b) (inl (sum_fails n ms))

-- where the test varies nothing of a choice is built
choosing_builds : (n : ℕ) (ms : List ℕ) → Fails plan (suc (suc (suc n))) (choosing (value.Bool true)) [] ms → ⊥
unfolding place Fails
choosing_builds n ms = rw (outs-If (record { 0 = 0 }) (low.Source (record { 0 = 1 })) (sum (value.Bool true)) choice_b, outs-Source (record { 0 = 1 })) (λ x. elim x [ inl a ↦ a | inr b ↦ b ])

-- where it never changes only what it chooses is built
settled_builds : (n : ℕ) (ms : List ℕ) → Fails plan (suc (suc (suc n))) (settled (value.Bool true)) [] ms → ⊥
unfolding place Fails
settled_builds n ms = rw (outs-If (record { 0 = 0 }) (low.Lit (value.Bool false)) (sum (value.Bool true)) choice_b, outs-Lit (value.Bool false), outs-Lit (value.Int (pos 7))) (λ x. elim x [ inl a ↦ a | inr b ↦ b ])

-- the watch of the first errs where its test comes to hold
watch_errs : (n : ℕ) → ChoiceErrs plan (suc (suc n)) (sum (value.Bool true)) choice_b [] (plain (value.Bool true))
watch_errs n true told = ([], sum_fails n [])
watch_errs n false told = cc

-- and not where it doesn't
watch_goes_on : (n : ℕ) → ChoiceErrs plan (suc (suc n)) (sum (value.Bool true)) choice_b [] (plain (value.Bool false)) → ⊥
unfolding Fails
watch_goes_on n errs = let fails = errs false refl in rw outs-Lit at fails.1

-- no event can be told to hold
event_fails : (n : ℕ) (ms : List ℕ) → Fails plan (suc (suc n)) (low.If (record { 0 = 0 }) (low.Var (record { 0 = 0 })) choice_b choice_b) (steady (occurs None) ∷ []) ms
unfolding place Fails
event_fails n ms = rw (outs-If (record { 0 = 0 }) (low.Var (record { 0 = 0 })) choice_b choice_b, outs-Var (record { 0 = 0 })) (inr tt)

-- there is no function and no such variable, and on no level anything
call_fails : (n : ℕ) (ms : List ℕ) → Fails plan (suc n) (low.Apply (record { 0 = 0 }) []) [] ms
unfolding place Fails
call_fails n ms = rw (outs-Apply (record { 0 = 0 }) []) (inr tt)

variable_fails : (n : ℕ) (ms : List ℕ) → Fails plan (suc n) (low.Var (record { 0 = 1 })) (signal 2 ∷ []) ms
unfolding Fails
variable_fails n ms = rw (outs-Var (record { 0 = 1 })) (omega arith)

variable_builds : (n : ℕ) (ms : List ℕ) → Fails plan (suc n) (low.Var (record { 0 = 0 })) (signal 2 ∷ []) ms → ⊥
unfolding Fails
variable_builds n ms = rw (outs-Var (record { 0 = 0 })) (λ x. absurd (omega (arith, x)))

depth_fails : (ms : List ℕ) → Fails plan 0 choice_b [] ms
unfolding Fails
depth_fails ms = tt
