-- The line of an operator and of a `feedback`'s name, from that of the table.
use Rattle.std.proofs.Common.{◌≡◌, ◌<◌, ℕ, Bool, true, false, List, refl, sym, ap, ◌∙◌, arith, Option, Some, None, Result, Ok, Err}
use Rattle.std.proofs.lemmas.Bool.{false≢true}
use Rattle.fr_value.specs.declared.now.Now.TheVariants.{Plain, Occ}
use Rattle.fr_value.specs.declared.now.Bad.{Bad}
use Rattle.fr_value.specs.declared.now.Bad.TheVariants.{NotData}
use Rattle.fr_core.specs.declared.core_form.Operator.{Operator}
use Rattle.fr_core.specs.declared.core_form.Operator.TheVariants as operator
use Rattle.fr_meaning.specs.Words.{Seen, part, occurs, plain}
use Rattle.fr_meaning.specs.Cells.{Cell, datum, payload}
use Rattle.fr_meaning.specs.States.{Line, gives, beside, base_of, plain_or_bad, refusal_in, refused_by, fed, occurrence, state_next, of_operator, no_call, state_now}
use Rattle.fr_kernel.specs.declared.fuel.KernStop.{KernStop}
use Rattle.fr_kernel.specs.declared.fuel.KernStop.TheVariants as stop
use Rattle.fr_kernel.specs.Answers.{kind_of}
use Rattle.fr_kernel.specs.Kernels.{Kernels}
use Rattle.fr_graph.specs.Graph.{operates, feeds, operator_early, work_line, is_late}
use Rattle.fr_events.specs.declared.lines.Stepped.{Stepped}
use Rattle.fr_events.specs.Steps.{line_first, Steps, StepRan}

beside_value : (v : Seen) (r : Result Cell Bad) → v ≡ (beside v r).value
beside_value v (Err b) = refl
beside_value v (Ok c) = refl

-- the line of a late operator is the table's value alone
pub late_line : (o : Operator) (c : Option Cell) (xs : List Seen) → is_late (operates o) ≡ true → gives (state_now (of_operator o) c xs no_call).value None ≡ operator_early o c xs
late_line operator.Delay c xs e = ap (λ v. gives v None) (sym (beside_value (plain_or_bad (base_of c (part xs 0))) (state_next (of_operator operator.Delay) xs)))
late_line operator.DelayE c xs e = ap (λ v. gives v None) (sym (beside_value (occurs (occurrence c)) (state_next (of_operator operator.DelayE) xs)))
late_line (operator.Prim p) c xs e = absurd (false≢true e)
late_line operator.MergeE c xs e = absurd (false≢true e)
late_line operator.Hold c xs e = absurd (false≢true e)
late_line operator.Changes c xs e = absurd (false≢true e)
late_line operator.OnceE c xs e = absurd (false≢true e)

-- that of any other is the table's
pub prompt_line : (o : Operator) (c : Option Cell) (xs : List Seen) → is_late (operates o) ≡ false → state_now (of_operator o) c xs no_call ≡ operator_early o c xs
prompt_line operator.Delay c xs e = absurd (false≢true (sym e))
prompt_line operator.DelayE c xs e = absurd (false≢true (sym e))
prompt_line (operator.Prim p) c xs e = refl
prompt_line operator.MergeE c xs e = refl
prompt_line operator.Hold c xs e = refl
prompt_line operator.Changes c xs e = refl
prompt_line operator.OnceE c xs e = refl

-- what is told of a Bad line is told of every line without cost whose first error has that kind
refused : (r : Result Stepped KernStop) (left : ℕ) (b : Bad) (l : Line) → l.cost ≡ 0 → kind_of (line_first l) ≡ Some b → StepRan r left left (gives (Err b) None) → StepRan r left left l
refused (Ok s) left b l free first h = absurd (let e : Err b ≡ Ok s.value = h.value in cc)
refused (Err (stop.Memory e)) left b l free first h = tt
refused (Err (stop.Bad k)) left b l free first h = first ∙ h
refused (Err stop.Fuel) left b l free first h = absurd (omega (arith, h))

-- what a `delay` shows over a cell and the value of INIT, and what the name of a `feedback` is bound to
abbrev shown : Option Cell → Seen → Line
shown c x = gives (plain_or_bad (base_of c x)) None

abbrev bound : Option Cell → Seen → Line
bound c x = refused_by (refusal_in (base_of c x)) (gives (fed c x) None)

same_told : (r : Result Stepped KernStop) (left : ℕ) (c : Option Cell) (x : Seen) → StepRan r left left (shown c x) → StepRan r left left (bound c x)
same_told r left (Some (datum v)) (Ok n) h = h
same_told r left (Some (datum v)) (Err b) h = refused r left b (bound (Some (datum v)) (Err b)) refl refl h
same_told r left (Some (payload o)) (Ok (Plain v)) h = h
same_told r left (Some (payload o)) (Ok (Occ p)) h = refused r left NotData (bound (Some (payload o)) (Ok (Occ p))) refl refl h
same_told r left (Some (payload o)) (Err b) h = refused r left b (bound (Some (payload o)) (Err b)) refl refl h
same_told r left None (Ok (Plain v)) h = h
same_told r left None (Ok (Occ p)) h = refused r left NotData (bound None (Ok (Occ p))) refl refl h
same_told r left None (Err b) h = refused r left b (bound None (Err b)) refl refl h

pub feeds_told : (r : Result Stepped KernStop) (left : ℕ) (t : Kernels) (n : ℕ) (c : Option Cell) (xs : List Seen)
    → StepRan r left left (operator_early operator.Delay c xs) → StepRan r left left (work_line t n feeds c xs)
feeds_told r left t n c xs h = same_told r left c (part xs 0) h
