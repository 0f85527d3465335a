-- Forms with a handler, by the values of all their inputs.
use Rattle.std.proofs.Common.{◌≡◌, ◌<◌, ◌+◌, ◌-◌, ℕ, List, [], ◌∷◌, take, drop, refl, sym, ap, subst, ◌∙◌, arith, Option, None, Result, Ok}
use Rattle.fr_value.specs.declared.now.Now.{Now}
use Rattle.fr_core.specs.Shapes.{handler_parts}
use Rattle.fr_core.specs.declared.core_form.Handler.{Handler}
use Rattle.fr_core.specs.declared.core_form.Handler.TheVariants as handler
use Rattle.fr_meaning.specs.Words.{Seen, own}
use Rattle.fr_meaning.specs.Cells.{Cell}
use Rattle.fr_meaning.specs.States.{Begun, Call, Called, Line, known, asks, finished, behind_call, handler_begin, handler_line, handler_end, of_handler, state_now}
use Rattle.fr_meaning.specs.Evaluation.{refusal_first}
use Rattle.fr_forms.specs.declared.lines.Line.{Line as CodeLine}
use Rattle.fr_forms.specs.Lent.{form_line}
use Rattle.fr_kernel.specs.declared.fuel.KernStop.{KernStop}
use Rattle.fr_kernel.specs.Answers.{Pays, StopsBy}
use Rattle.fr_kernel.specs.Kernels.{Kernels}
use Rattle.fr_graph.specs.Graph.{handles, kernel_run, kernel_call, work_line}
use Rattle.fr_events.specs.declared.lines.Stepped.{Stepped}
use Rattle.fr_events.specs.Steps.{line_first, StepRan}
use Rattle.fr_events.proofs.Outcomes.{behind_told, stopped_inside}
use Rattle.std.specs.Option.{option_or}

-- a form with a handler reads no further input than its own
front_begins : (h : Handler) (c : Option Cell) (xs : List Seen) → handler_begin h c xs ≡ handler_begin h c (take (handler_parts h) xs)
front_begins handler.MapE c [] = refl
front_begins handler.MapE c (x ∷ xs) = refl
front_begins handler.FilterE c [] = refl
front_begins handler.FilterE c (x ∷ xs) = refl
front_begins handler.CollectB c [] = refl
front_begins handler.CollectB c (x ∷ []) = refl
front_begins handler.CollectB c (x ∷ y ∷ xs) = refl
front_begins handler.CollectE c [] = refl
front_begins handler.CollectE c (x ∷ []) = refl
front_begins handler.CollectE c (x ∷ y ∷ xs) = refl

module _ (t : Kernels) (n : ℕ) (h : Handler) (id : ℕ) (c : Option Cell) (xs : List Seen) where
  -- the line of a form with a handler that has begun so
  begun_line : (b : Begun) → b ≡ handler_begin h c xs → finished (kernel_call t n id (drop (handler_parts h) xs)) (handler_end h) b ≡ work_line t n (handles h id) c xs
  begun_line b is = ap (λ b. finished (kernel_call t n id (drop (handler_parts h) xs)) (handler_end h) b) (is ∙ front_begins h c xs)

  pub gave_told : (r : Result Stepped KernStop) (left : ℕ) (l : Line) → known l ≡ handler_begin h c xs → StepRan r left left l → StepRan r left left (work_line t n (handles h id) c xs)
  gave_told r left l is told = subst (λ l. StepRan r left left l) (begun_line (known l) is) told

  pub asked_told : (r : Result Stepped KernStop) (before after : ℕ) (args slots : List Seen) → asks args ≡ handler_begin h c xs → slots ≡ drop (handler_parts h) xs
      → StepRan r before after (handler_end h args (kernel_call t n id slots args)) → StepRan r before after (work_line t n (handles h id) c xs)
  asked_told r before after args slots is same told =
      subst (λ l. StepRan r before after l) (begun_line (asks args) is) (subst (λ ss. StepRan r before after (handler_end h args (kernel_call t n id ss args))) same told)

-- the line behind a call that didn't err
pub ended_told : (h : Handler) (args : List Seen) (r : Result Stepped KernStop) (v : Seen) (l : CodeLine) (start after : ℕ) (call : Called) → form_line l ≡ handler_line h args v
    → ((left : ℕ) → StepRan r left left (form_line l)) → call.value ≡ v → call.first ≡ None → after + call.cost ≡ start → StepRan r start after (handler_end h args call)
ended_told h args r v l start after call is told given clean paid =
    let same : behind_call call (form_line l) ≡ handler_end h args call = ap (behind_call call) (is ∙ ap (handler_line h args) (sym given)) in
    subst (λ l. StepRan r start after l) same (behind_told r l call start after clean paid (told after))

module _ (t : Kernels) (n id : ℕ) (h : Handler) (slots args : List Seen) (start left : ℕ) (one : left ≡ start - 1) (some : 0 < start) where
  abbrev call : Called
  call = kernel_call t n id slots args

  pub call_told : (r : Result Stepped KernStop) (v : Now) (after : ℕ) → Pays v left after (kernel_run t n id slots args)
      → ((start after : ℕ) (c : Called) → c.value ≡ Ok v → c.first ≡ None → after + c.cost ≡ start → StepRan r start after (handler_end h args c)) → StepRan r start after (handler_end h args call)
  call_told r v after pays told = told start after call pays.value pays.clean (omega (arith, one, some, pays.paid))

  pub call_stopped : (s : KernStop) → (let d = kernel_run t n id slots args in StopsBy s left d.cost d.first) → (let l = handler_end h args call in StopsBy s start l.cost (line_first l))
  call_stopped s stops =
      let d = kernel_run t n id slots args in
      let l = handler_line h args d.value in
      stopped_inside s start left d.cost d.first (option_or (own l.value) (refusal_first l.refusal)) some one stops
