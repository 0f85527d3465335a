-- What a run tells is told of a node's line.
use Rattle.std.proofs.Common.{◌≡◌, ◌<◌, ◌+◌, ◌-◌, ℕ, List, refl, sym, ap, subst, ◌∙◌, arith, Option, Some, None, Result, Ok, Err}
use Rattle.std.specs.Prelude.{MatchResult}
use Rattle.std.specs.Option.{option_map, option_or}
use Rattle.fr_value.specs.declared.now.Now.{Now}
use Rattle.fr_value.specs.declared.now.Bad.{Bad}
use Rattle.fr_core.specs.declared.kept.Kept.{Kept}
use Rattle.fr_meaning.specs.Words.{Seen, First, Done, own}
use Rattle.fr_meaning.specs.States.{Called, behind_call}
use Rattle.fr_meaning.specs.Evaluation.{Turns, ended}
use Rattle.fr_forms.specs.declared.lines.Line.{Line as CodeLine}
use Rattle.fr_forms.specs.Lent.{form_line}
use Rattle.fr_kernel.specs.declared.fuel.KernStop.{KernStop}
use Rattle.fr_kernel.specs.declared.fuel.KernStop.TheVariants as stop
use Rattle.fr_kernel.specs.Answers.{kind_of, StopsBy, Ran}
use Rattle.fr_graph.specs.Graph.{done_line, turns_line}
use Rattle.fr_events.specs.declared.lines.Stepped.{Stepped}
use Rattle.fr_events.specs.Works.{cell_of}
use Rattle.fr_events.specs.Steps.{Steps, StepRan}

-- what a run gave is a node's value, and the node has no cell
abbrev pub Alone : Result Stepped KernStop → Result Now KernStop → Type 0
Alone r run = MatchResult r (λ s. (run ≡ Ok s.value) × (s.cell ≡ None)) (λ e. run ≡ Err e)

pub stop_or : (s : KernStop) (left cost : ℕ) (x y : First) → StopsBy s left cost x → StopsBy s left cost (option_or x y)
stop_or (stop.Memory e) left cost x y h = tt
stop_or (stop.Bad b) left cost None y h = absurd (let e : kind_of None ≡ Some b = h in cc)
stop_or (stop.Bad b) left cost (Some f) y h = h
stop_or stop.Fuel left cost x y h = h

none_left : (x y : First) → option_or x y ≡ None → x ≡ None
none_left None y h = refl
none_left (Some f) y h = cc

or_none : (x : First) → option_or x None ≡ x
or_none None = refl
or_none (Some f) = refl

pub done_told : (r : Result Stepped KernStop) (run : Result Now KernStop) (before after : ℕ) (d : Done) → Alone r run → Ran run before after d → StepRan r before after (done_line d)
done_told (Ok s) run before after d h ran =
    let g = subst (λ q. Ran q before after d) h.0 ran in
    record {
      value = g.value;
      clean = record { value = ap own g.value; inner = g.clean; refusal = refl };
      next = sym (ap (option_map cell_of) h.1);
      paid = g.paid;
    }
done_told (Err e) run before after d h ran = stop_or e before d.cost d.first (option_or (own d.value) None) (subst (λ q. Ran q before after d) h ran)

pub turns_told : (r : Result Stepped KernStop) (run : Result Now KernStop) (before after : ℕ) (ts : Turns) (k : Kept) → Alone r run
    → Ran run before after (ended ts.value k ts.cost ts.first) → StepRan r before after (turns_line ts)
turns_told (Ok s) run before after ts k h ran =
    let g = subst (λ q. Ran q before after (ended ts.value k ts.cost ts.first)) h.0 ran in
    record {
      value = g.value;
      clean = record { value = ap own g.value; inner = none_left ts.first (own ts.value) g.clean; refusal = refl };
      next = sym (ap (option_map cell_of) h.1);
      paid = g.paid;
    }
turns_told (Err e) run before after ts k h ran =
    subst (λ f. StopsBy e before ts.cost (option_or ts.first f)) (sym (or_none (own ts.value))) (subst (λ q. Ran q before after (ended ts.value k ts.cost ts.first)) h ran)

-- a line behind a handler's call that didn't err
pub behind_told : (r : Result Stepped KernStop) (l : CodeLine) (c : Called) (start after : ℕ) → c.first ≡ None → after + c.cost ≡ start
    → StepRan r after after (form_line l) → StepRan r start after (behind_call c (form_line l))
behind_told (Ok s) l c start after clean paid h =
    record { value = h.value; clean = record { value = h.clean.value; inner = clean; refusal = h.clean.refusal }; next = h.next; paid = paid }
behind_told (Err (stop.Memory e)) l c start after clean paid h = tt
behind_told (Err (stop.Bad b)) l c start after clean paid h = rw clean h
behind_told (Err stop.Fuel) l c start after clean paid h = absurd (omega (arith, h))

-- a call that stopped, whose handler had one less to spend
pub stopped_inside : (s : KernStop) (start left cost : ℕ) (x y : First) → 0 < start → left ≡ start - 1 → StopsBy s left cost x → StopsBy s start (cost + 1) (option_or x y)
stopped_inside (stop.Memory e) start left cost x y some one h = tt
stopped_inside (stop.Bad b) start left cost x y some one h = stop_or (stop.Bad b) start (cost + 1) x y h
stopped_inside stop.Fuel start left cost x y some one h = omega (arith, some, one, h)
