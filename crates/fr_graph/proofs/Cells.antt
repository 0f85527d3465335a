-- The cells of lines that have a value, and the trees that they are kept in.
use Rattle.std.proofs.Common.{◌≡◌, ℕ, Bool, true, false, List, [], ◌∷◌, refl, ap, sym, subst, Option, Some, None, Result, Ok, Err, unwrap_or, slice_get}
use Rattle.std.specs.Option.{option_map}
use Rattle.std.proofs.lemmas.Bool.{false≢true}
use Rattle.fr_value.specs.declared.now.Bad.{Bad}
use Rattle.fr_value.specs.declared.now.Now.{Now}
use Rattle.fr_value.specs.declared.value.Value.{Value}
use Rattle.fr_value.specs.declared.value.Value.TheVariants as value
use Rattle.fr_core.specs.declared.core_form.Operator.{Operator}
use Rattle.fr_core.specs.declared.core_form.Operator.TheVariants as operator
use Rattle.fr_core.specs.declared.core_form.Handler.{Handler}
use Rattle.fr_core.specs.declared.core_form.Handler.TheVariants as handler
use Rattle.fr_core.specs.declared.kept.Key.TheVariants as key
use Rattle.fr_core.specs.declared.kept.Kept.{Kept}
use Rattle.fr_core.specs.declared.kept.Kept.TheVariants as kept
use Rattle.fr_core.specs.declared.kept.Kept.TheVariants.{outs-Group, outs-Datum, outs-Payload, outs-Switch}
use Rattle.fr_meaning.specs.Words.{Seen, plain, occurs, part, event_of, datum_in, test_of}
use Rattle.fr_meaning.specs.Cells.{Cell, datum, payload, CellKind, keeps_none, keeps_datum, keeps_payload, child, child_at, datum_cell, datum_cell_at, payload_cell, payload_cell_at, behind_datum, behind_datum_at, behind_payload, behind_payload_at, cell_in, behind, with_cell, under_key, under_key_at}
use Rattle.fr_meaning.specs.States.{Line, gives, keeps, stays, Call, of_operator, of_handler, cell_kind, line_unless_refused, base_of, leftmost, is_spent, once_line, begun_unless_refused, asks_payload, asks_both, handler_end, finished, no_call, state_now}
use Rattle.fr_graph.specs.Graph.{operates, is_late}
use Rattle.fr_graph.specs.Keeps.{switch_key, switch_key_at}

pub child_group : (ks : List Kept) (i : ℕ) → child (kept.Group ks) i ≡ unwrap_or (slice_get ks i) kept.Nothing
unfolding child
child_group ks i = ap (λ l. child_at l i) (outs-Group ks)

pub under_same : (holds : Bool) (k : Kept) → under_key (key.Test holds) (kept.Switch (key.Test holds) k) ≡ k
unfolding under_key
under_same true k = ap (under_key_at (key.Test true)) (outs-Switch (key.Test true) k)
under_same false k = ap (under_key_at (key.Test false)) (outs-Switch (key.Test false) k)

pub chose_key : (holds : Bool) (k : Kept) → switch_key (kept.Switch (key.Test holds) k) ≡ Some (key.Test holds)
unfolding switch_key
chose_key holds k = ap switch_key_at (outs-Switch (key.Test holds) k)

-- a cell of this kind
abbrev pub CellFits : CellKind → Option Cell → Type 0
CellFits keeps_none c = c ≡ None
CellFits keeps_datum c = (v : Value) × (c ≡ Some (datum v))
CellFits keeps_payload c = (o : Option Value) × (c ≡ Some (payload o))

-- a cell that is kept is read again, and so is what stands behind it
pub record ReadsBack (kind : CellKind) (c : Option Cell) (k : Kept) : Type 0 where
  pub cell : cell_in kind (with_cell c k) ≡ c
  pub tree : behind kind (with_cell c k) ≡ k

pub reads_back : (kind : CellKind) (c : Option Cell) (k : Kept) → CellFits kind c → ReadsBack kind c k
unfolding datum_cell payload_cell behind_datum behind_payload
reads_back keeps_none c k h = record { cell = sym h; tree = ap (λ c. with_cell c k) h }
reads_back keeps_datum c k h = subst (λ c. ReadsBack keeps_datum c k) (sym h.1) (record {
  cell = ap (λ l. option_map datum (datum_cell_at l)) (outs-Datum h.0 k);
  tree = ap behind_datum_at (outs-Datum h.0 k);
})
reads_back keeps_payload c k h = subst (λ c. ReadsBack keeps_payload c k) (sym h.1) (record {
  cell = ap (λ l. option_map payload (payload_cell_at l)) (outs-Payload h.0 k);
  tree = ap behind_payload_at (outs-Payload h.0 k);
})

-- a line that has a value keeps a cell of this kind
abbrev Fits : CellKind → Line → Type 0
Fits kind l = (v : Now) → l.value ≡ Ok v → CellFits kind l.next

unless_fits : {X : Type 0} (kind : CellKind) (f : X → Line) → ((x : X) → Fits kind (f x)) → (r : Result X Bad) → Fits kind (line_unless_refused f r)
unless_fits kind f h (Err b) v e = absurd cc
unless_fits kind f h (Ok x) v e = h x v e

none_fits : {X : Type 0} (f : X → Line) → ((x : X) → (f x).next ≡ None) → (r : Result X Bad) → (line_unless_refused f r).next ≡ None
none_fits f h (Err b) = refl
none_fits f h (Ok x) = h x

once_fits : (spent : Bool) (o : Option Value) → Fits keeps_datum (once_line spent o)
once_fits true o v e = (value.Bool true, refl)
once_fits false o v e = (value.Bool _, refl)

pub operator_fits : (o : Operator) (cell : Option Cell) (xs : List Seen) → is_late (operates o) ≡ false → Fits (cell_kind (of_operator o)) (state_now (of_operator o) cell xs no_call)
operator_fits (operator.Prim p) cell xs late v e = refl
operator_fits operator.MergeE cell xs late v e = none_fits _ (λ o. refl) (leftmost xs)
operator_fits operator.Hold cell xs late v e = unless_fits keeps_datum _ (λ o. unless_fits keeps_datum _ (λ base v e. (unwrap_or o base, refl)) (base_of cell (part xs 1))) (event_of (part xs 0)) v e
operator_fits operator.Changes cell xs late v e = unless_fits keeps_datum _ (λ x v e. (x, refl)) (datum_in (part xs 0)) v e
operator_fits operator.OnceE cell xs late v e = unless_fits keeps_datum _ (once_fits (is_spent cell)) (event_of (part xs 0)) v e
operator_fits operator.Delay cell xs late v e = absurd (false≢true (sym late))
operator_fits operator.DelayE cell xs late v e = absurd (false≢true (sym late))

module _ (call : Call) where
  map_fits : (r : Result (Option Value) Bad) → (finished call (handler_end handler.MapE) (begun_unless_refused asks_payload r)).next ≡ None
  map_fits (Err b) = refl
  map_fits (Ok None) = refl
  map_fits (Ok (Some v)) = none_fits _ (λ x. refl) (datum_in (call (plain v ∷ [])).value)

  filter_fits : (r : Result (Option Value) Bad) → (finished call (handler_end handler.FilterE) (begun_unless_refused asks_payload r)).next ≡ None
  filter_fits (Err b) = refl
  filter_fits (Ok None) = refl
  filter_fits (Ok (Some v)) = none_fits _ (λ x. refl) (test_of (call (plain v ∷ [])).value)

  collect_b_fits : (r : Result (Option Value) Bad) (s : Result Value Bad)
      → Fits keeps_datum (finished call (handler_end handler.CollectB) (begun_unless_refused (λ o. begun_unless_refused (asks_both keeps o) s) r))
  collect_b_fits (Err b) s v e = absurd cc
  collect_b_fits (Ok o) (Err b) v e = absurd cc
  collect_b_fits (Ok None) (Ok base) v e = (base, refl)
  collect_b_fits (Ok (Some p)) (Ok base) v e = unless_fits keeps_datum keeps (λ x v e. (x, refl)) (datum_in (call (plain p ∷ plain base ∷ [])).value) v e

  collect_e_fits : (r : Result (Option Value) Bad) (s : Result Value Bad)
      → Fits keeps_datum (finished call (handler_end handler.CollectE) (begun_unless_refused (λ o. begun_unless_refused (asks_both stays o) s) r))
  collect_e_fits (Err b) s v e = absurd cc
  collect_e_fits (Ok o) (Err b) v e = absurd cc
  collect_e_fits (Ok None) (Ok base) v e = (base, refl)
  collect_e_fits (Ok (Some p)) (Ok base) v e = unless_fits keeps_datum (λ v. gives (occurs (Some v)) (Some (datum v))) (λ x v e. (x, refl)) (datum_in (call (plain p ∷ plain base ∷ [])).value) v e

pub handler_fits : (h : Handler) (cell : Option Cell) (xs : List Seen) (call : Call) → Fits (cell_kind (of_handler h)) (state_now (of_handler h) cell xs call)
handler_fits handler.MapE cell xs call v e = map_fits call (event_of (part xs 0))
handler_fits handler.FilterE cell xs call v e = filter_fits call (event_of (part xs 0))
handler_fits handler.CollectB cell xs call v e = collect_b_fits call (event_of (part xs 0)) (base_of cell (part xs 1)) v e
handler_fits handler.CollectE cell xs call v e = collect_e_fits call (event_of (part xs 0)) (base_of cell (part xs 1)) v e
