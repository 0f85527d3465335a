-- Handlers' calls and loops' turns, by what their bodies give.
use Rattle.std.proofs.Common.{◌≡◌, ◌+◌, ℕ, zero, suc, List, [], ◌∷◌, map, length, replicate, refl, ap, sym, ◌∙◌, Option, Some, None, Result, Ok, Err}
use Rattle.std.specs.Option.{option_or}
use Rattle.fr_value.specs.Data.{value_of}
use Rattle.fr_value.specs.declared.now.Bad.{Bad}
use Rattle.fr_value.specs.declared.value.Datum.{Datum}
use Rattle.fr_value.specs.declared.value.Value.{Value}
use Rattle.fr_core.specs.Shapes.{handler_binds, loop_binds}
use Rattle.fr_core.specs.declared.core_form.Handler.{Handler}
use Rattle.fr_core.specs.declared.core_form.Handler.TheVariants as handler
use Rattle.fr_core.specs.declared.core_form.Loop.{Loop}
use Rattle.fr_core.specs.declared.core_form.Loop.TheVariants as loop
use Rattle.fr_meaning.specs.Words.{Seen, First, Done, under, own, plain, on_ok, event_of, part}
use Rattle.fr_meaning.specs.Cells.{Cell}
use Rattle.fr_meaning.specs.States.{Line, Call, Begun, known, asks, begun_unless_refused, asks_payload, asks_both, base_of, keeps, stays, handler_begin, handler_line, handler_end, finished, of_handler, state_now}
use Rattle.fr_graph.specs.Graph.{IsClean}
use Rattle.fr_meaning.specs.Evaluation.{turns, all_turns, list_in, count_in, rounds}

-- a handler is called with as many arguments as it binds
abbrev AsksFor : ℕ → Begun → Type 0
AsksFor n (known l) = Unit {0}
AsksFor n (asks args) = length args ≡ n

over_refusal : {X : Type 0} (n : ℕ) (f : X → Begun) → ((x : X) → AsksFor n (f x)) → (r : Result X Bad) → AsksFor n (begun_unless_refused f r)
over_refusal n f h (Err b) = tt
over_refusal n f h (Ok x) = h x

payload_asks : (o : Option Value) → AsksFor 1 (asks_payload o)
payload_asks None = tt
payload_asks (Some v) = refl

both_ask : (quiet : Value → Line) (o : Option Value) (base : Value) → AsksFor 2 (asks_both quiet o base)
both_ask quiet None base = tt
both_ask quiet (Some v) base = refl

handler_asks : (h : Handler) (cell : Option Cell) (xs : List Seen) → AsksFor (handler_binds h) (handler_begin h cell xs)
handler_asks handler.MapE cell xs = over_refusal 1 asks_payload payload_asks (event_of (part xs 0))
handler_asks handler.FilterE cell xs = over_refusal 1 asks_payload payload_asks (event_of (part xs 0))
handler_asks handler.CollectB cell xs = over_refusal 2 _ (λ o. over_refusal 2 _ (both_ask keeps o) (base_of cell (part xs 1))) (event_of (part xs 0))
handler_asks handler.CollectE cell xs = over_refusal 2 _ (λ o. over_refusal 2 _ (both_ask stays o) (base_of cell (part xs 1))) (event_of (part xs 0))

-- a handler's line has its value and its cell by the values that calls give
pub handler_value : (h : Handler) (cell : Option Cell) (xs : List Seen) (call other : Call) → ((args : List Seen) → length args ≡ handler_binds h → (call args).value ≡ (other args).value)
    → (state_now (of_handler h) cell xs call).value ≡ (state_now (of_handler h) cell xs other).value
handler_value h cell xs call other same = by_begun (handler_begin h cell xs) (handler_asks h cell xs)
  where
    by_begun : (b : Begun) → AsksFor (handler_binds h) b → (finished call (handler_end h) b).value ≡ (finished other (handler_end h) b).value
    by_begun (known l) a = refl
    by_begun (asks args) a = ap (λ v. (handler_line h args v).value) (same args a)

pub handler_next : (h : Handler) (cell : Option Cell) (xs : List Seen) (call other : Call) → ((args : List Seen) → length args ≡ handler_binds h → (call args).value ≡ (other args).value)
    → (state_now (of_handler h) cell xs call).next ≡ (state_now (of_handler h) cell xs other).next
handler_next h cell xs call other same = by_begun (handler_begin h cell xs) (handler_asks h cell xs)
  where
    by_begun : (b : Begun) → AsksFor (handler_binds h) b → (finished call (handler_end h) b).next ≡ (finished other (handler_end h) b).next
    by_begun (known l) a = refl
    by_begun (asks args) a = ap (λ v. (handler_line h args v).next) (same args a)

-- and it is clean where the calls give the same and don't err either
pub handler_clean : (h : Handler) (cell : Option Cell) (xs : List Seen) (call other : Call) → ((args : List Seen) → length args ≡ handler_binds h → ((call args).value ≡ (other args).value) × ((call args).first ≡ None → (other args).first ≡ None))
    → IsClean (state_now (of_handler h) cell xs call) → IsClean (state_now (of_handler h) cell xs other)
handler_clean h cell xs call other same = by_begun (handler_begin h cell xs) (handler_asks h cell xs)
  where
    by_begun : (b : Begun) → AsksFor (handler_binds h) b → IsClean (finished call (handler_end h) b) → IsClean (finished other (handler_end h) b)
    by_begun (known l) a c = c
    by_begun (asks args) a c =
        let s = same args a in
        record {
          value = ap (λ v. own (handler_line h args v).value) (sym s.0) ∙ c.value;
          inner = s.1 c.inner;
          refusal = ap (λ v. (handler_line h args v).refusal) (sym s.0) ∙ c.refusal;
        }

-- each of these has so many values
abbrev AllOf : ℕ → List (List Seen) → Type 0
AllOf n [] = Unit {0}
AllOf n (vs ∷ rest) = (length vs ≡ n) × AllOf n rest

abbrev RoundsOf : ℕ → Result (List (List Seen)) Bad → Type 0
RoundsOf n (Err b) = Unit {0}
RoundsOf n (Ok rest) = AllOf n rest

-- the values beside the accumulator
abbrev beside_acc : Loop → ℕ
beside_acc loop.Fold = 1
beside_acc loop.Repeat = 0

items_one : (ds : List Datum) → AllOf 1 (map (λ d. plain (value_of d) ∷ []) ds)
items_one [] = tt
items_one (d ∷ ds) = (refl, items_one ds)

none_each : (n : ℕ) → AllOf 0 (replicate n [])
none_each zero = tt
none_each (suc n) = (refl, none_each n)

rounds_of : (l : Loop) (x : Seen) → RoundsOf (beside_acc l) (rounds l x)
rounds_of loop.Fold x = by_list (list_in x)
  where
    by_list : (r : Result (List Datum) Bad) → RoundsOf 1 (on_ok (map (λ d. plain (value_of d) ∷ [])) r)
    by_list (Err b) = tt
    by_list (Ok ds) = items_one ds
rounds_of loop.Repeat x = by_count (count_in x)
  where
    by_count : (r : Result ℕ Bad) → RoundsOf 0 (on_ok (λ n. replicate n []) r)
    by_count (Err b) = tt
    by_count (Ok n) = none_each n

module _ (body other : List Seen → Done) where
  turns_value : (m : ℕ) → ((args : List Seen) → length args ≡ suc m → (body args).value ≡ (other args).value)
      → (t : ℕ) (acc : Seen) (rest : List (List Seen)) → AllOf m rest → (turns body t acc rest).value ≡ (turns other t acc rest).value
  turns_value m same t acc [] a = refl
  turns_value m same t acc (vs ∷ rest) a =
      ap (λ v. (turns body (t + 1) v rest).value) (same (acc ∷ vs) (ap suc a.0)) ∙ turns_value m same (t + 1) (other (acc ∷ vs)).value rest a.1

pub none_left : (a b : First) → option_or a b ≡ None → a ≡ None
none_left None b h = refl
none_left (Some f) b h = cc

pub none_right : (a b : First) → option_or a b ≡ None → b ≡ None
none_right None b h = h
none_right (Some f) b h = cc

pub none_under : (i : ℕ) (f : First) → under i f ≡ None → f ≡ None
none_under i None h = refl
none_under i (Some f) h = cc

pub both_none : (a b : First) → a ≡ None → b ≡ None → option_or a b ≡ None
both_none None b h g = g
both_none (Some f) b h g = cc

pub under_none : (i : ℕ) (f : First) → f ≡ None → under i f ≡ None
under_none i None h = refl
under_none i (Some f) h = cc

module _ (body other : List Seen → Done) where
  turns_clean : (m : ℕ) → ((args : List Seen) → length args ≡ suc m → ((body args).value ≡ (other args).value) × ((body args).first ≡ None → (other args).first ≡ None))
      → (t : ℕ) (acc : Seen) (rest : List (List Seen)) → AllOf m rest → (turns body t acc rest).first ≡ None → (turns other t acc rest).first ≡ None
  turns_clean m same t acc [] a h = refl
  turns_clean m same t acc (vs ∷ rest) a h =
      let s = same (acc ∷ vs) (ap suc a.0) in
      let here = none_under t (body (acc ∷ vs)).first (none_left (under t (body (acc ∷ vs)).first) _ h) in
      let there = none_right (under t (body (acc ∷ vs)).first) (turns body (t + 1) (body (acc ∷ vs)).value rest).first h in
      both_none (under t (other (acc ∷ vs)).first) _ (under_none t (other (acc ∷ vs)).first (s.1 here)) (turns_clean m same (t + 1) (other (acc ∷ vs)).value rest a.1 (ap (λ v. (turns body (t + 1) v rest).first) (sym s.0) ∙ there))

binds : (l : Loop) → suc (beside_acc l) ≡ loop_binds l
binds loop.Fold = refl
binds loop.Repeat = refl

-- a loop's turns have their value by the values that the body gives
pub loop_value : (l : Loop) (acc x : Seen) (body other : List Seen → Done) → ((args : List Seen) → length args ≡ loop_binds l → (body args).value ≡ (other args).value)
    → (all_turns body acc (rounds l x)).value ≡ (all_turns other acc (rounds l x)).value
loop_value l acc x body other same = by_rounds (rounds l x) (rounds_of l x)
  where
    by_rounds : (r : Result (List (List Seen)) Bad) → RoundsOf (beside_acc l) r → (all_turns body acc r).value ≡ (all_turns other acc r).value
    by_rounds (Err b) a = refl
    by_rounds (Ok rest) a = turns_value body other (beside_acc l) (λ args e. same args (e ∙ binds l)) 0 acc rest a

pub loop_clean : (l : Loop) (acc x : Seen) (body other : List Seen → Done) → ((args : List Seen) → length args ≡ loop_binds l → ((body args).value ≡ (other args).value) × ((body args).first ≡ None → (other args).first ≡ None))
    → (all_turns body acc (rounds l x)).first ≡ None → (all_turns other acc (rounds l x)).first ≡ None
loop_clean l acc x body other same = by_rounds (rounds l x) (rounds_of l x)
  where
    by_rounds : (r : Result (List (List Seen)) Bad) → RoundsOf (beside_acc l) r → (all_turns body acc r).first ≡ None → (all_turns other acc r).first ≡ None
    by_rounds (Err b) a h = refl
    by_rounds (Ok rest) a h = turns_clean body other (beside_acc l) (λ args e. same args (e ∙ binds l)) 0 acc rest a h

-- a handler's line has its cost by that of its call
pub handler_cost : (h : Handler) (cell : Option Cell) (xs : List Seen) (call other : Call) → ((args : List Seen) → length args ≡ handler_binds h → (call args).cost ≡ (other args).cost)
    → (state_now (of_handler h) cell xs call).cost ≡ (state_now (of_handler h) cell xs other).cost
handler_cost h cell xs call other same = by_begun (handler_begin h cell xs) (handler_asks h cell xs)
  where
    by_begun : (b : Begun) → AsksFor (handler_binds h) b → (finished call (handler_end h) b).cost ≡ (finished other (handler_end h) b).cost
    by_begun (known l) a = refl
    by_begun (asks args) a = same args a

module _ (body other : List Seen → Done) where
  turns_cost : (m : ℕ) → ((args : List Seen) → length args ≡ suc m → ((body args).value ≡ (other args).value) × ((body args).cost ≡ (other args).cost))
      → (t : ℕ) (acc : Seen) (rest : List (List Seen)) → AllOf m rest → (turns body t acc rest).cost ≡ (turns other t acc rest).cost
  turns_cost m same t acc [] a = refl
  turns_cost m same t acc (vs ∷ rest) a =
      let s = same (acc ∷ vs) (ap suc a.0) in
      ap (λ c. c + 1 + (turns body (t + 1) (body (acc ∷ vs)).value rest).cost) s.1
      ∙ ap (λ v. (other (acc ∷ vs)).cost + 1 + (turns body (t + 1) v rest).cost) s.0
      ∙ ap (λ c. (other (acc ∷ vs)).cost + 1 + c) (turns_cost m same (t + 1) (other (acc ∷ vs)).value rest a.1)

-- a loop's turns cost what those of another body do that gives the same at the same cost
pub loop_cost : (l : Loop) (acc x : Seen) (body other : List Seen → Done) → ((args : List Seen) → length args ≡ loop_binds l → ((body args).value ≡ (other args).value) × ((body args).cost ≡ (other args).cost))
    → (all_turns body acc (rounds l x)).cost ≡ (all_turns other acc (rounds l x)).cost
loop_cost l acc x body other same = by_rounds (rounds l x) (rounds_of l x)
  where
    by_rounds : (r : Result (List (List Seen)) Bad) → RoundsOf (beside_acc l) r → (all_turns body acc r).cost ≡ (all_turns other acc r).cost
    by_rounds (Err b) a = refl
    by_rounds (Ok rest) a = turns_cost body other (beside_acc l) (λ args e. same args (e ∙ binds l)) 0 acc rest a
