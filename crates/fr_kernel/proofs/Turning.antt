-- Loops over bodies that tell the same, over values of as many variables as a turn binds.
use Rattle.std.proofs.Common.{◌≡◌, ◌+◌, ℕ, zero, suc, List, [], ◌∷◌, map, replicate, take, length, refl, ap, ◌∙◌, Ok, Err, Result}
use Rattle.fr_value.specs.Data.{value_of}
use Rattle.fr_value.specs.declared.now.Now.{Now}
use Rattle.fr_value.specs.declared.now.Bad.{Bad}
use Rattle.fr_value.specs.declared.value.Datum.{Datum}
use Rattle.fr_core.specs.Shapes.{loop_binds}
use Rattle.fr_core.specs.declared.core_form.Loop.{Loop}
use Rattle.fr_core.specs.declared.core_form.Loop.TheVariants as loop
use Rattle.fr_core.specs.declared.kept.Kept.TheVariants as kept
use Rattle.fr_meaning.specs.Words.{Seen, Done, plain, on_ok}
use Rattle.fr_meaning.specs.Evaluation.{Turns, ended, turned, turns, all_turns, rounds, list_in, count_in}
use Rattle.fr_kernel.specs.Loops.{loop_over}
use Rattle.fr_kernel.proofs.Numbers.{bare}

-- each turn binds so many variables, the accumulator one of them
abbrev Long : ℕ → List (List Seen) → Type 0
Long n [] = Unit {0}
Long n (vs ∷ rest) = (suc (length vs) ≡ n) × Long n rest

module _ (n : ℕ) (body body' : List Seen → Done) (h : (vs : List Seen) → length vs ≡ n → bare (body vs) ≡ bare (body' vs)) where
  turns_same : (t : ℕ) (acc : Seen) (rest : List (List Seen)) → Long n rest → turns body t acc rest ≡ turns body' t acc rest
  turns_same t acc [] long = refl
  turns_same t acc (vs ∷ rest) long =
      ap (λ (d : Done). turned t d (turns body (t + 1) d.value rest)) (h (acc ∷ vs) long.0)
      ∙ ap (turned t (body' (acc ∷ vs))) (turns_same (t + 1) (body' (acc ∷ vs)).value rest long.1)

items_long : (ds : List Datum) → Long 2 (map (λ d. plain (value_of d) ∷ []) ds)
items_long [] = tt
items_long (d ∷ ds) = (refl, items_long ds)

times_long : (count : ℕ) → Long 1 (replicate count [])
times_long zero = tt
times_long (suc count) = (refl, times_long count)

module _ (body body' : List Seen → Done) where
  fold_same : ((vs : List Seen) → length vs ≡ 2 → bare (body vs) ≡ bare (body' vs)) → (acc : Seen) (r : Result (List Datum) Bad)
      → all_turns body acc (on_ok (map (λ d. plain (value_of d) ∷ [])) r) ≡ all_turns body' acc (on_ok (map (λ d. plain (value_of d) ∷ [])) r)
  fold_same h acc (Err b) = refl
  fold_same h acc (Ok ds) = turns_same 2 body body' h 0 acc _ (items_long ds)

  repeat_same : ((vs : List Seen) → length vs ≡ 1 → bare (body vs) ≡ bare (body' vs)) → (acc : Seen) (r : Result ℕ Bad)
      → all_turns body acc (on_ok (λ n. replicate n []) r) ≡ all_turns body' acc (on_ok (λ n. replicate n []) r)
  repeat_same h acc (Err b) = refl
  repeat_same h acc (Ok n) = turns_same 1 body body' h 0 acc _ (times_long n)

  rounds_same : (l : Loop) → ((vs : List Seen) → length vs ≡ loop_binds l → bare (body vs) ≡ bare (body' vs)) → (acc over : Seen) → all_turns body acc (rounds l over) ≡ all_turns body' acc (rounds l over)
  rounds_same loop.Fold h acc over = fold_same h acc (list_in over)
  rounds_same loop.Repeat h acc over = repeat_same h acc (count_in over)

  pub loops_same : (l : Loop) → ((vs : List Seen) → length vs ≡ loop_binds l → bare (body vs) ≡ bare (body' vs)) → (vs : List Seen) → loop_over l body vs ≡ loop_over l body' vs
  loops_same l h vs = ap (λ (ts : Turns). ended ts.value kept.Nothing ts.cost ts.first) (rounds_same l h _ _)

-- a loop reads its first two inputs alone
pub first_two : (l : Loop) (body : List Seen → Done) (inputs : List Now) → loop_over l body (map (λ n. Ok n) (take 2 inputs)) ≡ loop_over l body (map (λ n. Ok n) inputs)
first_two l body [] = refl
first_two l body (a ∷ []) = refl
first_two l body (a ∷ b ∷ rest) = refl
