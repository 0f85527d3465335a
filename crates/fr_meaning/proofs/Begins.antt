-- What stands before a switch's choice, a handler's call and a loop's turns: what they need is there. And what a form's line costs and refuses.
use Rattle.std.proofs.Common.{◌≡◌, ◌≤◌, ℕ, suc, Bool, true, false, List, [], ◌∷◌, length, refl, arith, Option, Some, None, Result, Ok, Err}
use Rattle.fr_value.specs.declared.now.Bad.{Bad}
use Rattle.fr_value.specs.declared.now.Bad.TheVariants.{Deep}
use Rattle.fr_value.specs.declared.value.Value.{Value}
use Rattle.fr_core.specs.declared.core_form.Core.{Core}
use Rattle.fr_core.specs.declared.core_form.Handler.{Handler}
use Rattle.fr_core.specs.declared.core_form.Handler.TheVariants as handler
use Rattle.fr_core.specs.declared.core_form.Operator.{Operator}
use Rattle.fr_core.specs.declared.core_form.Operator.TheVariants as operator
use Rattle.fr_core.specs.declared.core_form.Loop.{Loop}
use Rattle.fr_core.specs.declared.core_form.Loop.TheVariants as loop
use Rattle.fr_meaning.specs.Words.{Seen, plain, occurs, part, on_ok, event_of, datum_in, test_of}
use Rattle.fr_meaning.specs.Cells.{Cell, datum}
use Rattle.fr_meaning.specs.States.{Line, gives, Call, Begun, known, asks, of_operator, of_handler, line_unless_refused, begun_unless_refused, asks_payload, event_begin, asks_both, base_of, keeps, stays, collect_begin, leftmost, is_spent, once_line, early_value, state_next, beside, handler_begin, handler_line, handler_end, finished, state_now}
use Rattle.fr_meaning.specs.Evaluation.{Choice, chosen_by, choose, rounds}

-- what holds of a refusal and of either choice holds of what a test chooses
pub choice_cases : (P : Result Choice Bad → Type 0) (a b : Core) → ((bad : Bad) → P (Err bad)) → P (Ok (chosen_by a b true)) → P (Ok (chosen_by a b false)) → (v : Seen) → P (choose a b v)
choice_cases P a b refused first second v = cases (test_of v)
  where
    cases : (r : Result Bool Bad) → P (on_ok (chosen_by a b) r)
    cases (Err bad) = refused bad
    cases (Ok true) = first
    cases (Ok false) = second

-- a switch chooses a part behind the test
abbrev pub IsBehindTest : Result Choice Bad → Type 0
IsBehindTest (Err b) = Unit {0}
IsBehindTest (Ok c) = 1 ≤ c.number

pub behind_test : (a b : Core) (v : Seen) → IsBehindTest (choose a b v)
behind_test a b v = choice_cases IsBehindTest a b (λ bad. tt) (omega arith) (omega arith) v

-- a line without a handler's call costs nothing, and no error stands inside it
pub record IsQuiet (l : Line) : Type 0 where
  pub cost : l.cost ≡ 0
  pub inner : l.inner ≡ None

-- a line that is known is quiet and refuses no part, and a handler's arguments are given by as many of so many parts
abbrev pub BeginsWell : ℕ → Begun → Type 0
BeginsWell n (known l) = IsQuiet l × (l.refusal ≡ None)
BeginsWell n (asks args) = length args ≤ n

-- a line of a value and a cell alone
abbrev gives_well : (x : Seen) (c : Option Cell) → IsQuiet (gives x c) × ((gives x c).refusal ≡ None)
gives_well x c = (record { cost = refl; inner = refl }, refl)

over_event : (n : ℕ) (f : Option Value → Begun) → ((o : Option Value) → BeginsWell n (f o)) → (r : Result (Option Value) Bad) → BeginsWell n (begun_unless_refused f r)
over_event n f h (Err b) = gives_well (Err b) None
over_event n f h (Ok o) = h o

payload_well : (n : ℕ) (o : Option Value) → BeginsWell (suc n) (asks_payload o)
payload_well n None = gives_well (occurs None) None
payload_well n (Some v) = omega arith

event_well : (xs : List Seen) → BeginsWell (length xs) (event_begin xs)
event_well [] = gives_well (Err Deep) None
event_well (x ∷ xs) = over_event (suc (length xs)) asks_payload (payload_well (length xs)) (event_of x)

-- the line where nothing occurs, which is known
abbrev KeepsQuiet : (Value → Line) → Type 0
KeepsQuiet quiet = (v : Value) → IsQuiet (quiet v) × ((quiet v).refusal ≡ None)

both_well : (quiet : Value → Line) → KeepsQuiet quiet → (n : ℕ) (o : Option Value) (base : Result Value Bad) → BeginsWell (suc (suc n)) (begun_unless_refused (asks_both quiet o) base)
both_well quiet q n o (Err b) = gives_well (Err b) None
both_well quiet q n None (Ok v) = q v
both_well quiet q n (Some p) (Ok v) = omega arith

collect_well : (quiet : Value → Line) → KeepsQuiet quiet → (cell : Option Cell) (xs : List Seen) → BeginsWell (length xs) (collect_begin quiet cell xs)
collect_well quiet q cell [] = gives_well (Err Deep) None
collect_well quiet q cell (x ∷ []) = over_event 1 _ (λ o. gives_well (Err Deep) None) (event_of x)
collect_well quiet q cell (x ∷ y ∷ xs) = over_event (suc (suc (length xs))) _ (λ o. both_well quiet q (length xs) o (base_of cell y)) (event_of x)

pub begins_well : (h : Handler) (cell : Option Cell) (xs : List Seen) → BeginsWell (length xs) (handler_begin h cell xs)
begins_well handler.MapE cell xs = event_well xs
begins_well handler.FilterE cell xs = event_well xs
begins_well handler.CollectB cell xs = collect_well keeps (λ v. gives_well (plain v) (Some (datum v))) cell xs
begins_well handler.CollectE cell xs = collect_well stays (λ v. gives_well (occurs None) (Some (datum v))) cell xs

-- the lines of the table

unless_quiet : {X : Type 0} → (f : X → Line) → ((x : X) → IsQuiet (f x)) → (r : Result X Bad) → IsQuiet (line_unless_refused f r)
unless_quiet f h (Err b) = record { cost = refl; inner = refl }
unless_quiet f h (Ok x) = h x

once_quiet : (spent : Bool) (o : Option Value) → IsQuiet (once_line spent o)
once_quiet true o = record { cost = refl; inner = refl }
once_quiet false o = record { cost = refl; inner = refl }

pub beside_quiet : (x : Seen) (r : Result Cell Bad) → IsQuiet (beside x r)
beside_quiet x (Err b) = record { cost = refl; inner = refl }
beside_quiet x (Ok c) = record { cost = refl; inner = refl }

pub operator_quiet : (o : Operator) (cell : Option Cell) (xs : List Seen) (call : Call) → IsQuiet (state_now (of_operator o) cell xs call)
operator_quiet (operator.Prim p) cell xs call = record { cost = refl; inner = refl }
operator_quiet operator.MergeE cell xs call = unless_quiet _ (λ o. record { cost = refl; inner = refl }) (leftmost xs)
operator_quiet operator.Hold cell xs call = unless_quiet _ (λ o. unless_quiet _ (λ base. record { cost = refl; inner = refl }) (base_of cell (part xs 1))) (event_of (part xs 0))
operator_quiet operator.Changes cell xs call = unless_quiet _ (λ x. record { cost = refl; inner = refl }) (datum_in (part xs 0))
operator_quiet operator.OnceE cell xs call = unless_quiet _ (once_quiet (is_spent cell)) (event_of (part xs 0))
operator_quiet operator.Delay cell xs call = beside_quiet (early_value (of_operator operator.Delay) cell xs) (state_next (of_operator operator.Delay) xs)
operator_quiet operator.DelayE cell xs call = beside_quiet (early_value (of_operator operator.DelayE) cell xs) (state_next (of_operator operator.DelayE) xs)

unless_accepts : {X : Type 0} → (f : X → Line) → ((x : X) → (f x).refusal ≡ None) → (r : Result X Bad) → (line_unless_refused f r).refusal ≡ None
unless_accepts f h (Err b) = refl
unless_accepts f h (Ok x) = h x

line_accepts : (h : Handler) (args : List Seen) (x : Seen) → (handler_line h args x).refusal ≡ None
line_accepts handler.MapE args x = unless_accepts _ (λ x. refl) (datum_in x)
line_accepts handler.FilterE args x = unless_accepts _ (λ x. refl) (test_of x)
line_accepts handler.CollectB args x = unless_accepts _ (λ x. refl) (datum_in x)
line_accepts handler.CollectE args x = unless_accepts _ (λ x. refl) (datum_in x)

-- a form with a handler refuses no part beside its value
pub handler_accepts : (h : Handler) (cell : Option Cell) (xs : List Seen) (call : Call) → (state_now (of_handler h) cell xs call).refusal ≡ None
handler_accepts h cell xs call = accepts (handler_begin h cell xs) (begins_well h cell xs)
  where
    accepts : (b : Begun) → BeginsWell (length xs) b → (finished call (handler_end h) b).refusal ≡ None
    accepts (known l) q = q.1
    accepts (asks args) q = line_accepts h args (call args).value

-- where there are turns, there are two parts
abbrev pub TurnsWell : ℕ → Result (List (List Seen)) Bad → Type 0
TurnsWell n (Err b) = Unit {0}
TurnsWell n (Ok rest) = 2 ≤ n

turns_well : (n : ℕ) (r : Result (List (List Seen)) Bad) → TurnsWell (suc (suc n)) r
turns_well n (Err b) = tt
turns_well n (Ok rest) = omega arith

pub rounds_well : (l : Loop) (xs : List Seen) → TurnsWell (length xs) (rounds l (part xs 1))
rounds_well loop.Fold [] = tt
rounds_well loop.Fold (x ∷ []) = tt
rounds_well loop.Repeat [] = tt
rounds_well loop.Repeat (x ∷ []) = tt
rounds_well l (x ∷ y ∷ xs) = turns_well (length xs) (rounds l y)
