-- What the lines of late forms leave in their cells.
use Rattle.std.proofs.Common.{◌≡◌, List, [], ◌∷◌, refl, sym, ap, subst, ◌∙◌, Option, Some, None, Result, Ok, Err}
use Rattle.std.specs.Prelude.{unwrap_or}
use Rattle.fr_value.specs.declared.now.Now.TheVariants.{Plain, Occ}
use Rattle.fr_value.specs.declared.now.Bad.{Bad}
use Rattle.fr_value.specs.declared.now.Bad.TheVariants.{Deep}
use Rattle.fr_core.specs.declared.core_form.Operator.TheVariants as operator
use Rattle.fr_meaning.specs.Words.{Seen, datum_in, event_of}
use Rattle.fr_meaning.specs.Cells.{Cell}
use Rattle.fr_meaning.specs.States.{Line, datum_next, payload_next, of_operator, of_feedback, no_call, state_now}
use Rattle.fr_forms.specs.declared.lines.Cell.{Cell as FormCell}
use Rattle.fr_forms.specs.declared.lines.Line.{Line as CodeLine}
use Rattle.fr_forms.specs.Lent.{cell_of as form_cell, next_of, form_line}
use Rattle.fr_store.specs.declared.cell.Cell.{Cell as StoredCell}
use Rattle.fr_events.specs.declared.latching.LatchStop.TheVariants as latch_stop
use Rattle.fr_events.specs.Works.{cell_of}
use Rattle.fr_events.specs.Steps.{Latched, Leaves}

feedback_leaves : (s : Seen) → Leaves (state_now of_feedback None (s ∷ s ∷ []) no_call) (datum_next (datum_in s))
feedback_leaves (Err b) = (refl, refl)
feedback_leaves (Ok (Plain v)) = refl
feedback_leaves (Ok (Occ o)) = (refl, refl)

delay_leaves : (s : Seen) → Leaves (state_now (of_operator operator.DelayE) None (s ∷ []) no_call) (payload_next (event_of s))
delay_leaves (Err b) = (refl, refl)
delay_leaves (Ok (Plain v)) = (refl, refl)
delay_leaves (Ok (Occ o)) = refl

pub datum_left : (s : Seen) (l : Line) → l ≡ state_now of_feedback None (s ∷ s ∷ []) no_call → Leaves l (datum_next (datum_in s))
datum_left s l is = subst (λ l. Leaves l (datum_next (datum_in s))) (sym is) (feedback_leaves s)

pub payload_left : (s : Seen) (l : Line) → l ≡ state_now (of_operator operator.DelayE) None (s ∷ []) no_call → Leaves l (payload_next (event_of s))
payload_left s l is = subst (λ l. Leaves l (payload_next (event_of s))) (sym is) (delay_leaves s)

pub taken : (l : CodeLine) (cell : FormCell) (kept : StoredCell) → l.next ≡ Some cell → cell_of kept ≡ form_cell cell → (r : Result Cell Bad) → Leaves (form_line l) r → Latched (Ok kept) r
taken l cell kept next same (Ok c) h = let e : Some (form_cell cell) ≡ Some c = sym (ap next_of next) ∙ h in cc
taken l cell kept next same (Err b) h = absurd (let e : Some (form_cell cell) ≡ None = sym (ap next_of next) ∙ h.0 in cc)

pub not_taken : (l : CodeLine) (bad : Bad) → l.next ≡ None → bad ≡ unwrap_or l.refusal Deep → (r : Result Cell Bad) → Leaves (form_line l) r → Latched (Err (latch_stop.Bad bad)) r
not_taken l bad next is (Ok c) h = absurd (let e : None ≡ Some c = sym (ap next_of next) ∙ h in cc)
not_taken l bad next is (Err b) h = ap Err (sym (is ∙ ap (λ o. unwrap_or o Deep) h.1))
