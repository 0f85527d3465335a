-- A work gives again what it gave, over what its cell took then, where nothing occurs.
use Rattle.std.proofs.Common.{◌≡◌, ℕ, zero, suc, Bool, true, false, if◌then◌else◌, List, [], ◌∷◌, take, drop, refl, ap, sym, ◌∙◌, Option, Some, None, Result, Ok, Err, unwrap_or}
use Rattle.fr_value.specs.declared.value.Value.{Value}
use Rattle.fr_value.specs.declared.now.Now.TheVariants.{Plain, Occ}
use Rattle.fr_value.specs.declared.now.Bad.{Bad}
use Rattle.fr_value.proofs.Equal.{is_same-Decides}
use Rattle.fr_core.specs.declared.core_form.Operator.TheVariants as operator
use Rattle.fr_core.specs.declared.core_form.Handler.{Handler}
use Rattle.fr_core.specs.declared.core_form.Handler.TheVariants as handler
use Rattle.fr_core.specs.Shapes.{handler_parts}
use Rattle.fr_meaning.specs.Words.{Seen, own, part, plain, occurs, event_of, datum_in}
use Rattle.fr_meaning.specs.Cells.{Cell, datum, payload}
use Rattle.fr_meaning.specs.States.{Line, Call, gives, keeps, stays, base_of, line_unless_refused, change, is_spent, once_line, plain_or_bad, occurrence, fed, refusal_in, refused_by, begun_unless_refused, asks_both, handler_end, finished}
use Rattle.fr_kernel.specs.Kernels.{Kernels}
use Rattle.fr_graph.specs.Graph.{Part, steady, signal, Work, operates, handles, loops, runs, feeds, Graph, part_values, IsClean, kernel_call, work_line, is_late}
use Rattle.fr_way.specs.Frame.{occurs_now, AreCalm}
use Rattle.fr_way.specs.Calm.{Quiet}
use Rattle.fr_way.specs.Way.{AreQuiet}
use Rattle.fr_way.specs.Ends.{shown_of}
use Rattle.std.proofs.Common.{inl, inr}

pub quiet_part : (xs : List Seen) (i : ℕ) → Quiet xs → occurs_now (part xs i) ≡ false
quiet_part [] i q = refl
quiet_part (x ∷ xs) zero q = q.0
quiet_part (x ∷ xs) (suc i) q = quiet_part xs i q.1

quiet_take : (k : ℕ) (xs : List Seen) → Quiet xs → Quiet (take k xs)
quiet_take zero xs q = tt
quiet_take (suc k) [] q = tt
quiet_take (suc k) (x ∷ xs) q = (q.0, quiet_take k xs q.1)

pub quiet_values : (g : Graph) (ps : List Part) → AreQuiet g ps → AreCalm ps → Quiet (part_values g ps)
quiet_values g [] q c = tt
quiet_values g (steady v ∷ ps) q c = (c.0, quiet_values g ps (λ j r. q j r) c.1)
quiet_values g (signal m ∷ ps) q c = (q m (inl refl), quiet_values g ps (λ j r. q j (inr r)) c)

quiet_event : (x : Seen) (v : Value) → occurs_now x ≡ false → event_of x ≡ Ok (Some v) → ⊥
quiet_event (Err b) v q e = cc
quiet_event (Ok (Plain u)) v q e = cc
quiet_event (Ok (Occ None)) v q e = cc
quiet_event (Ok (Occ (Some u))) v q e = cc

quiet_occurs : (o : Option Value) → occurs_now (occurs o) ≡ false → o ≡ None
quiet_occurs None q = refl
quiet_occurs (Some v) q = cc

-- what a cell shows says which it is
shown_plain : (d : Option Cell) (v : Value) → shown_of d ≡ plain v → d ≡ Some (datum v)
shown_plain None v e = cc
shown_plain (Some (datum u)) v e = cc
shown_plain (Some (payload o)) v e = cc

shown_occurs : (d : Option Cell) (o : Option Value) → shown_of d ≡ occurs o → d ≡ Some (payload o)
shown_occurs None o e = cc
shown_occurs (Some (datum u)) o e = cc
shown_occurs (Some (payload p)) o e = cc

no_own : (x : Seen) (b : Bad) → x ≡ Err b → own x ≡ None → ⊥
no_own (Err a) b e o = cc
no_own (Ok n) b e o = cc

-- a base is what a cell has that took it
base_kept : (c d : Option Cell) (x : Seen) (v : Value) → base_of c x ≡ Ok v → d ≡ Some (datum v) → base_of d x ≡ Ok v
base_kept c d (Err b) v e t = cc
base_kept c d (Ok n) v e t = ap (λ (y : Option Cell). base_of y (Ok n)) t

-- so a line over that is the same
base_again : (f : Result Value Bad → Line) (c d : Option Cell) (x : Seen) → ((b : Bad) → (f (Err b)).value ≡ Err b) → ((v : Value) → (f (Ok v)).next ≡ Some (datum v))
    → IsClean (f (base_of c x)) → d ≡ (f (base_of c x)).next → f (base_of d x) ≡ f (base_of c x)
base_again f c d x errs takes clean e = ap f (by_base (base_of c x) refl clean e)
  where
    by_base : (r : Result Value Bad) → base_of c x ≡ r → IsClean (f r) → d ≡ (f r).next → base_of d x ≡ base_of c x
    by_base (Err b) is clean e = absurd (no_own (f (Err b)).value b (errs b) clean.value)
    by_base (Ok v) is clean e = base_kept c d x v is (e ∙ takes v) ∙ sym is

hold_again : (event : Result (Option Value) Bad) (c d : Option Cell) (x : Seen) → ((v : Value) → event ≡ Ok (Some v) → ⊥)
    → IsClean (line_unless_refused (λ o. line_unless_refused (λ base. keeps (unwrap_or o base)) (base_of c x)) event)
    → d ≡ (line_unless_refused (λ o. line_unless_refused (λ base. keeps (unwrap_or o base)) (base_of c x)) event).next
    → line_unless_refused (λ o. line_unless_refused (λ base. keeps (unwrap_or o base)) (base_of d x)) event ≡ line_unless_refused (λ o. line_unless_refused (λ base. keeps (unwrap_or o base)) (base_of c x)) event
hold_again (Err b) c d x non clean e = refl
hold_again (Ok None) c d x non clean e = base_again (λ r. line_unless_refused (λ base. keeps base) r) c d x (λ b. refl) (λ v. refl) clean e
hold_again (Ok (Some v)) c d x non clean e = absurd (non v refl)

collect_again : (quiet : Value → Line) (call : Call) (h : Handler) (event : Result (Option Value) Bad) (c d : Option Cell) (x : Seen) → ((v : Value) → (quiet v).next ≡ Some (datum v))
    → ((v : Value) → event ≡ Ok (Some v) → ⊥)
    → IsClean (finished call (handler_end h) (begun_unless_refused (λ o. begun_unless_refused (asks_both quiet o) (base_of c x)) event))
    → d ≡ (finished call (handler_end h) (begun_unless_refused (λ o. begun_unless_refused (asks_both quiet o) (base_of c x)) event)).next
    → finished call (handler_end h) (begun_unless_refused (λ o. begun_unless_refused (asks_both quiet o) (base_of d x)) event)
    ≡ finished call (handler_end h) (begun_unless_refused (λ o. begun_unless_refused (asks_both quiet o) (base_of c x)) event)
collect_again quiet call h (Err b) c d x takes non clean e = refl
collect_again quiet call h (Ok None) c d x takes non clean e = base_again (λ r. finished call (handler_end h) (begun_unless_refused (asks_both quiet None) r)) c d x (λ b. refl) takes clean e
collect_again quiet call h (Ok (Some v)) c d x takes non clean e = absurd (non v refl)

change_self : (v : Value) → change (Some (datum v)) v ≡ None
change_self v = ap (λ (b : Bool). if b then None else Some v) ((is_same-Decides v v).1 refl)

changes_again : (r : Result Value Bad) (c d : Option Cell) → d ≡ (line_unless_refused (λ v. gives (occurs (change c v)) (Some (datum v))) r).next
    → occurs_now (line_unless_refused (λ v. gives (occurs (change c v)) (Some (datum v))) r).value ≡ false
    → line_unless_refused (λ v. gives (occurs (change d v)) (Some (datum v))) r ≡ line_unless_refused (λ v. gives (occurs (change c v)) (Some (datum v))) r
changes_again (Err b) c d e q = refl
changes_again (Ok v) c d e q = ap (λ (o : Option Value). gives (occurs o) (Some (datum v))) (ap (λ (y : Option Cell). change y v) e ∙ change_self v ∙ sym (quiet_occurs (change c v) q))

once_again : (b : Bool) (d : Option Cell) → d ≡ (once_line b None).next → once_line (is_spent d) None ≡ once_line b None
once_again true d e = ap (λ (y : Option Cell). once_line (is_spent y) None) e
once_again false d e = ap (λ (y : Option Cell). once_line (is_spent y) None) e

once_event : (event : Result (Option Value) Bad) (c d : Option Cell) → ((v : Value) → event ≡ Ok (Some v) → ⊥)
    → d ≡ (line_unless_refused (once_line (is_spent c)) event).next → line_unless_refused (once_line (is_spent d)) event ≡ line_unless_refused (once_line (is_spent c)) event
once_event (Err b) c d non e = refl
once_event (Ok None) c d non e = once_again (is_spent c) d e
once_event (Ok (Some v)) c d non e = absurd (non v refl)

delay_again : (c d : Option Cell) (x : Seen) → IsClean (gives (plain_or_bad (base_of c x)) None) → shown_of d ≡ plain_or_bad (base_of c x) → base_of d x ≡ base_of c x
delay_again c d x clean e = by_base (base_of c x) refl clean e
  where
    by_base : (r : Result Value Bad) → base_of c x ≡ r → IsClean (gives (plain_or_bad r) None) → shown_of d ≡ plain_or_bad r → base_of d x ≡ base_of c x
    by_base (Err b) is clean e = absurd (no_own (Err b) b refl clean.value)
    by_base (Ok v) is clean e = base_kept c d x v is (shown_plain d v e) ∙ sym is

-- what the name of a `feedback` is bound to is its base
fed_base : (c : Option Cell) (x : Seen) (v : Value) → base_of c x ≡ Ok v → fed c x ≡ plain v
fed_base c (Err b) v e = cc
fed_base None (Ok (Plain u)) v e = cc
fed_base None (Ok (Occ o)) v e = cc
fed_base (Some (datum u)) (Ok n) v e = cc
fed_base (Some (payload o)) (Ok (Plain u)) v e = cc
fed_base (Some (payload o)) (Ok (Occ p)) v e = cc

fed_again : (c d : Option Cell) (x : Seen) → IsClean (refused_by (refusal_in (base_of c x)) (gives (fed c x) None)) → shown_of d ≡ fed c x
    → refused_by (refusal_in (base_of d x)) (gives (fed d x) None) ≡ refused_by (refusal_in (base_of c x)) (gives (fed c x) None)
fed_again c d x clean e = by_base (base_of c x) refl clean
  where
    by_base : (r : Result Value Bad) → base_of c x ≡ r → IsClean (refused_by (refusal_in r) (gives (fed c x) None))
        → refused_by (refusal_in (base_of d x)) (gives (fed d x) None) ≡ refused_by (refusal_in (base_of c x)) (gives (fed c x) None)
    by_base (Err b) is clean = absurd (let h = clean.refusal in cc)
    by_base (Ok v) is clean =
        let was : fed c x ≡ plain v = fed_base c x v is in
        let now : base_of d x ≡ Ok v = base_kept c d x v is (shown_plain d v (e ∙ was)) in
        ap (λ (r : Result Value Bad). refused_by (refusal_in r) (gives (fed d x) None)) (now ∙ sym is)
        ∙ ap (λ (y : Seen). refused_by (refusal_in (base_of c x)) (gives y None)) (fed_base d x v now ∙ sym was)

module _ (t : Kernels) (n : ℕ) (c d : Option Cell) (xs : List Seen) where
  -- AT REST. Over the cell that it took, or for the late works one that shows what it gave, a work gives the same line, where neither it nor what it reads occurs.
  pub at_rest : (w : Work) → IsClean (work_line t n w c xs) → (is_late w ≡ false → d ≡ (work_line t n w c xs).next) → (is_late w ≡ true → shown_of d ≡ (work_line t n w c xs).value)
      → occurs_now (work_line t n w c xs).value ≡ false → Quiet xs → work_line t n w d xs ≡ work_line t n w c xs
  at_rest (operates (operator.Prim p)) clean took shows calm q = refl
  at_rest (operates operator.MergeE) clean took shows calm q = refl
  at_rest (operates operator.Hold) clean took shows calm q = hold_again (event_of (part xs 0)) c d (part xs 1) (λ v. quiet_event (part xs 0) v (quiet_part xs 0 q)) clean (took refl)
  at_rest (operates operator.Changes) clean took shows calm q = changes_again (datum_in (part xs 0)) c d (took refl) calm
  at_rest (operates operator.OnceE) clean took shows calm q = once_event (event_of (part xs 0)) c d (λ v. quiet_event (part xs 0) v (quiet_part xs 0 q)) (took refl)
  at_rest (operates operator.Delay) clean took shows calm q = ap (λ r. gives (plain_or_bad r) None) (delay_again c d (part xs 0) clean (shows refl))
  at_rest (operates operator.DelayE) clean took shows calm q = ap (λ y. gives (occurs (occurrence y)) None) (shown_occurs d (occurrence c) (shows refl))
  at_rest (handles handler.MapE id) clean took shows calm q = refl
  at_rest (handles handler.FilterE id) clean took shows calm q = refl
  at_rest (handles handler.CollectB id) clean took shows calm q =
      let ys = take (handler_parts handler.CollectB) xs in
      let call = kernel_call t n id (drop (handler_parts handler.CollectB) xs) in
      collect_again keeps call handler.CollectB (event_of (part ys 0)) c d (part ys 1) (λ v. refl) (λ v. quiet_event (part ys 0) v (quiet_part ys 0 (quiet_take (handler_parts handler.CollectB) xs q))) clean (took refl)
  at_rest (handles handler.CollectE id) clean took shows calm q =
      let ys = take (handler_parts handler.CollectE) xs in
      let call = kernel_call t n id (drop (handler_parts handler.CollectE) xs) in
      collect_again stays call handler.CollectE (event_of (part ys 0)) c d (part ys 1) (λ v. refl) (λ v. quiet_event (part ys 0) v (quiet_part ys 0 (quiet_take (handler_parts handler.CollectE) xs q))) clean (took refl)
  at_rest (loops l id) clean took shows calm q = refl
  at_rest (runs id) clean took shows calm q = refl
  at_rest feeds clean took shows calm q = fed_again c d (part xs 0) clean (shows refl)
