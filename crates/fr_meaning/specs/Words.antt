-- What an evaluation answers.
use Rattle.std.specs.Prelude.{ℕ, List, [], ◌∷◌, Bool, slice_get, Option, Some, None, Result, Ok, Err}
use Rattle.fr_value.specs.declared.now.Now.{Now}
use Rattle.fr_value.specs.declared.now.Now.TheVariants.{Plain, Occ}
use Rattle.fr_value.specs.declared.now.Bad.{Bad}
use Rattle.fr_value.specs.declared.now.Bad.TheVariants.{WrongType, NotData, NotEvent, Deep}
use Rattle.fr_value.specs.declared.value.Value.{Value}
use Rattle.fr_prims.specs.Data.{is_true}
use Rattle.fr_core.specs.declared.kept.Kept.{Kept}

-- a plain value, the state of an event, or Bad with its kind
abbrev pub Seen : Type 0
Seen = Result Now Bad

-- the values of the variables in scope, from the outermost on
abbrev pub Env : Type 0
Env = List Seen

-- the path and the kind of the first error, or none
abbrev pub First : Type 0
First = Option (List ℕ × Bad)

-- an evaluation: its value, what it keeps, its cost, and its first error; it errs where there is one
pub record Done : Type 0 where
  pub value : Seen
  pub kept : Kept
  pub cost : ℕ
  pub first : First

-- the first error of part number i, as one of the whole
abbrev pub under : ℕ → First → First
under i None = None
under i (Some f) = Some (i ∷ f.0, f.1)

-- the error of an expression that gives this value
abbrev pub own : Seen → First
own (Ok v) = None
own (Err b) = Some ([], b)

-- a value as a plain value
abbrev pub plain : Value → Seen
plain v = Ok (Plain v)

-- an event that occurs with this payload, or doesn't occur
abbrev pub occurs : Option Value → Seen
occurs o = Ok (Occ o)

-- what has no meaning in a program whose numbers are in scope, and whose forms have their parts
abbrev pub found : Option Seen → Seen
found None = Err Deep
found (Some v) = v

-- the value of part number i
abbrev pub part : List Seen → ℕ → Seen
part vs i = found (slice_get vs i)

-- what a function makes of what there is; where there is none, why
abbrev pub on_ok : {X Y : Type 0} → (X → Y) → Result X Bad → Result Y Bad
on_ok f (Err b) = Err b
on_ok f (Ok x) = Ok (f x)

-- an event's state, or why there is none
abbrev pub event_of : Seen → Result (Option Value) Bad
event_of (Err b) = Err b
event_of (Ok (Plain v)) = Err NotEvent
event_of (Ok (Occ o)) = Ok o

-- a plain value, or why there is none
abbrev pub datum_in : Seen → Result Value Bad
datum_in (Err b) = Err b
datum_in (Ok (Plain v)) = Ok v
datum_in (Ok (Occ o)) = Err NotData

-- whether a test holds, or why that can't be told
abbrev pub test_of : Seen → Result Bool Bad
test_of (Err b) = Err b
test_of (Ok (Plain v)) = Ok (is_true v)
test_of (Ok (Occ o)) = Err WrongType
