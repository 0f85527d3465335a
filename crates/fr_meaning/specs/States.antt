-- The state form table: for each form whose value follows from the values of its parts its value now, and its cell next where it has one.
use Rattle.std.specs.Prelude.{ℕ, Bool, true, false, if◌then◌else◌, List, [], ◌∷◌, Option, Some, None, Result, Ok, Err, unwrap_or, is_some}
use Rattle.std.specs.Option.{option_or}
use Rattle.fr_value.specs.declared.value.Value.{Value}
use Rattle.fr_value.specs.declared.value.Value.TheVariants as value
use Rattle.fr_value.specs.declared.now.Now.TheVariants.{Plain}
use Rattle.fr_value.specs.declared.now.Bad.{Bad}
use Rattle.fr_value.specs.declared.now.Bad.TheVariants.{Deep}
use Rattle.fr_value.specs.Same.{is_same}
use Rattle.fr_core.specs.declared.core_form.Operator.{Operator}
use Rattle.fr_core.specs.declared.core_form.Operator.TheVariants as operator
use Rattle.fr_core.specs.declared.core_form.Handler.{Handler}
use Rattle.fr_core.specs.declared.core_form.Handler.TheVariants as handler
use Rattle.fr_meaning.specs.Words.{Seen, First, plain, occurs, part, event_of, datum_in, test_of}
use Rattle.fr_meaning.specs.Primitives.{applied}
use Rattle.fr_meaning.specs.Cells.{Cell, datum, payload, CellKind, keeps_none, keeps_datum, keeps_payload}

-- a form of the table
pub data StateForm : Type 0 where
  of_operator : Operator → StateForm
  of_handler : Handler → StateForm
  of_feedback : StateForm

-- the kind of a form's cell
abbrev pub cell_kind : StateForm → CellKind
cell_kind (of_operator (operator.Prim p)) = keeps_none
cell_kind (of_operator operator.MergeE) = keeps_none
cell_kind (of_operator operator.DelayE) = keeps_payload
cell_kind (of_operator o) = keeps_datum
cell_kind (of_handler handler.MapE) = keeps_none
cell_kind (of_handler handler.FilterE) = keeps_none
cell_kind (of_handler h) = keeps_datum
cell_kind of_feedback = keeps_datum

-- what a form gives: its value now, its cell next, the cost and the first error of a handler's call, and the refusal of a part beside a value that isn't Bad
pub record Line : Type 0 where
  pub value : Seen
  pub next : Option Cell
  pub cost : ℕ
  pub inner : First
  pub refusal : Option Bad

-- a line without a handler's call
abbrev pub gives : Seen → Option Cell → Line
gives v c = record { value = v; next = c; cost = 0; inner = None; refusal = None }

-- a line with a plain value that its cell keeps
abbrev pub keeps : Value → Line
keeps v = gives (plain v) (Some (datum v))

-- Bad ends the line
abbrev pub line_unless_refused : {X : Type 0} → (X → Line) → Result X Bad → Line
line_unless_refused f (Err b) = gives (Err b) None
line_unless_refused f (Ok x) = f x

-- the cell, else INIT, which must then be data; a Bad INIT is Bad in any case
abbrev pub base_of : Option Cell → Seen → Result Value Bad
base_of cell (Err b) = Err b
base_of (Some (datum v)) (Ok n) = Ok v
base_of cell (Ok n) = datum_in (Ok n)

-- of events the leftmost occurrence; every one of them must be an event
abbrev pub either_event : Option Value → Result (Option Value) Bad → Result (Option Value) Bad
either_event o (Err b) = Err b
either_event None (Ok p) = Ok p
either_event (Some v) (Ok p) = Ok (Some v)

abbrev pub before_events : Result (Option Value) Bad → Result (Option Value) Bad → Result (Option Value) Bad
before_events (Err b) rest = Err b
before_events (Ok o) rest = either_event o rest

abbrev pub leftmost : List Seen → Result (Option Value) Bad
leftmost [] = Ok None
leftmost (x ∷ xs) = before_events (event_of x) (leftmost xs)

-- a value where a cell is kept and isn't the same
abbrev pub change : Option Cell → Value → Option Value
change (Some (datum old)) v = if is_same old v then None else Some v
change cell v = None

-- whether an event that is kept once has occurred
abbrev pub is_spent : Option Cell → Bool
is_spent (Some (datum (value.Bool b))) = b
is_spent cell = false

abbrev pub once_line : Bool → Option Value → Line
once_line true o = gives (occurs None) (Some (datum (value.Bool true)))
once_line false o = gives (occurs o) (Some (datum (value.Bool (is_some o))))

abbrev pub plain_or_bad : Result Value Bad → Seen
plain_or_bad (Err b) = Err b
plain_or_bad (Ok v) = plain v

-- the occurrence that a cell kept
abbrev pub occurrence : Option Cell → Option Value
occurrence (Some (payload o)) = o
occurrence cell = None

-- what the name of a `feedback` is bound to
abbrev pub fed : Option Cell → Seen → Seen
fed (Some (datum v)) init = plain v
fed cell init = init

abbrev pub datum_next : Result Value Bad → Result Cell Bad
datum_next (Err b) = Err b
datum_next (Ok v) = Ok (datum v)

abbrev pub payload_next : Result (Option Value) Bad → Result Cell Bad
payload_next (Err b) = Err b
payload_next (Ok o) = Ok (payload o)

-- for the forms whose cell takes the last part's value behind the instant, which have it last: what they show before that, their own value or that of a `feedback`'s name
abbrev pub early_value : StateForm → Option Cell → List Seen → Seen
early_value (of_operator operator.Delay) cell xs = plain_or_bad (base_of cell (part xs 0))
early_value (of_operator operator.DelayE) cell xs = occurs (occurrence cell)
early_value of_feedback cell xs = fed cell (part xs 0)
early_value form cell xs = Err Deep

-- and the cell that they have next, or the refusal of the last part
abbrev pub state_next : StateForm → List Seen → Result Cell Bad
state_next (of_operator operator.Delay) xs = datum_next (datum_in (part xs 1))
state_next (of_operator operator.DelayE) xs = payload_next (event_of (part xs 0))
state_next of_feedback xs = datum_next (datum_in (part xs 1))
state_next form xs = Err Deep

-- a value now, beside the next cell or the refusal of the last part
abbrev pub beside : Seen → Result Cell Bad → Line
beside v (Err b) = record { value = v; next = None; cost = 0; inner = None; refusal = Some b }
beside v (Ok c) = gives v (Some c)

abbrev pub refusal_in : Result Value Bad → Option Bad
refusal_in (Err b) = Some b
refusal_in (Ok v) = None

-- with the refusal of an earlier part
abbrev pub refused_by : Option Bad → Line → Line
refused_by r l = record { value = l.value; next = l.next; cost = l.cost; inner = l.inner; refusal = option_or r l.refusal }

-- a line, or the arguments of a handler's call that it waits for
pub data Begun : Type 0 where
  known : Line → Begun
  asks : List Seen → Begun

abbrev pub begun_unless_refused : {X : Type 0} → (X → Begun) → Result X Bad → Begun
begun_unless_refused f (Err b) = known (gives (Err b) None)
begun_unless_refused f (Ok x) = f x

-- an event's payload is handed on where it occurs
abbrev pub asks_payload : Option Value → Begun
asks_payload None = known (gives (occurs None) None)
asks_payload (Some v) = asks (plain v ∷ [])

abbrev pub event_begin : List Seen → Begun
event_begin xs = begun_unless_refused asks_payload (event_of (part xs 0))

-- an event's payload and the state are handed on where it occurs
abbrev pub asks_both : (Value → Line) → Option Value → Value → Begun
asks_both quiet None base = known (quiet base)
asks_both quiet (Some v) base = asks (plain v ∷ plain base ∷ [])

abbrev pub collect_begin : (Value → Line) → Option Cell → List Seen → Begun
collect_begin quiet cell xs = begun_unless_refused (λ o. begun_unless_refused (asks_both quiet o) (base_of cell (part xs 1))) (event_of (part xs 0))

-- no occurrence, and this state
abbrev pub stays : Value → Line
stays base = gives (occurs None) (Some (datum base))

-- what a form with a handler gives before the handler's call
abbrev pub handler_begin : Handler → Option Cell → List Seen → Begun
handler_begin handler.MapE cell xs = event_begin xs
handler_begin handler.FilterE cell xs = event_begin xs
handler_begin handler.CollectB cell xs = collect_begin keeps cell xs
handler_begin handler.CollectE cell xs = collect_begin stays cell xs

-- what a handler's call gives
pub record Called : Type 0 where
  pub value : Seen
  pub cost : ℕ
  pub first : First

-- a handler, called with these arguments
abbrev pub Call : Type 0
Call = List Seen → Called

-- the first argument where the test holds
abbrev pub passed : List Seen → Bool → Option Value
passed (Ok (Plain v) ∷ args) true = Some v
passed args t = None

-- what a form makes of the value that its handler gives for these arguments
abbrev pub handler_line : Handler → List Seen → Seen → Line
handler_line handler.MapE args v = line_unless_refused (λ v. gives (occurs (Some v)) None) (datum_in v)
handler_line handler.FilterE args v = line_unless_refused (λ t. gives (occurs (passed args t)) None) (test_of v)
handler_line handler.CollectB args v = line_unless_refused keeps (datum_in v)
handler_line handler.CollectE args v = line_unless_refused (λ v. gives (occurs (Some v)) (Some (datum v))) (datum_in v)

-- a line behind a handler's call
abbrev pub behind_call : Called → Line → Line
behind_call c l = record { value = l.value; next = l.next; cost = c.cost; inner = c.first; refusal = l.refusal }

-- the line of a form with a handler, behind the handler's call
abbrev pub handler_end : Handler → List Seen → Called → Line
handler_end h args c = behind_call c (handler_line h args c.value)

-- the line, where the handler's call is made if it is asked for
abbrev pub finished : Call → (List Seen → Called → Line) → Begun → Line
finished call end (known l) = l
finished call end (asks args) = end args (call args)

-- no handler is called
abbrev pub no_call : Call
no_call args = record { value = Err Deep; cost = 0; first = None }

-- the table: a form's line from its cell, the values of its parts in their order, and its handler
abbrev pub state_now : StateForm → Option Cell → List Seen → Call → Line
-- a primitive has its value
state_now (of_operator (operator.Prim p)) cell xs call = gives (applied p xs) None
-- `merge-e` has the occurrence of the leftmost part that occurs; every part must be an event
state_now (of_operator operator.MergeE) cell xs call = line_unless_refused (λ o. gives (occurs o) None) (leftmost xs)
-- `hold` is E's payload where it occurs, else the cell, else INIT
state_now (of_operator operator.Hold) cell xs call = line_unless_refused (λ o. line_unless_refused (λ base. keeps (unwrap_or o base)) (base_of cell (part xs 1))) (event_of (part xs 0))
-- `changes` occurs with B's value where a cell is kept and isn't the same
state_now (of_operator operator.Changes) cell xs call = line_unless_refused (λ v. gives (occurs (change cell v)) (Some (datum v))) (datum_in (part xs 0))
-- `once-e` has E's occurrence where the cell isn't `#t`; the cell is `#t` once E has occurred
state_now (of_operator operator.OnceE) cell xs call = line_unless_refused (once_line (is_spent cell)) (event_of (part xs 0))
-- `delay` is the cell, else INIT; the cell next is B's value
state_now (of_operator operator.Delay) cell xs call = beside (early_value (of_operator operator.Delay) cell xs) (state_next (of_operator operator.Delay) xs)
-- `delay-e` has the occurrence in the cell; the cell next is E's state
state_now (of_operator operator.DelayE) cell xs call = beside (early_value (of_operator operator.DelayE) cell xs) (state_next (of_operator operator.DelayE) xs)
-- `map-e` occurs with the handler's result where E occurs, and `filter-e` has E's occurrence where that isn't `#f`; `collect-b` is the base, or where E occurs the handler's result of payload and base, and `collect-e` occurs with that result and keeps the base else
state_now (of_handler h) cell xs call = finished call (handler_end h) (handler_begin h cell xs)
-- `feedback` is BODY's value, which the cell keeps
state_now of_feedback cell xs call = refused_by (refusal_in (base_of cell (part xs 0))) (beside (part xs 1) (state_next of_feedback xs))
