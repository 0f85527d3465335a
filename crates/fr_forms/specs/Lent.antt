-- What code has of cells and lines.
use Rattle.std.specs.Prelude.{List, [], ◌∷◌, Option, Some, None}
use Rattle.std.specs.Option.{option_copied, option_map}
use denote.Ref.{Bor}
use Rattle.fr_value.specs.declared.value.Value.{Value}
use Rattle.fr_meaning.specs.Words.{Seen, plain}
use Rattle.fr_meaning.specs.Cells.{Cell as FormCell, datum, payload, CellKind as FormCellKind, keeps_none, keeps_datum, keeps_payload}
use Rattle.fr_meaning.specs.States.{Line as FormLine}
use Rattle.fr_forms.specs.declared.lines.Cell.{Cell}
use Rattle.fr_forms.specs.declared.lines.Cell.TheVariants as cell
use Rattle.fr_forms.specs.declared.lines.LentCell.{LentCell}
use Rattle.fr_forms.specs.declared.lines.LentCell.TheVariants as lent_cell
use Rattle.fr_forms.specs.declared.lines.CellKind.{CellKind}
use Rattle.fr_forms.specs.declared.lines.CellKind.TheVariants as kind
use Rattle.fr_forms.specs.declared.lines.Line.{Line}

-- a value that is borrowed
abbrev pub lent : Bor Value → Value
lent v = v.now

-- the values of the variables that a value is bound to, where there is one
abbrev pub bound : Option (Bor Value) → List Seen
bound None = []
bound (Some v) = plain v.now ∷ []

-- a cell that the code holds
abbrev pub cell_of : Cell → FormCell
cell_of (cell.Datum v) = datum v
cell_of (cell.Payload o) = payload o

-- a cell that is borrowed
abbrev pub cell_lent : LentCell → FormCell
cell_lent (lent_cell.Datum v) = datum v.now
cell_lent (lent_cell.Payload o) = payload (option_copied o)

-- a next cell that the code holds, and an earlier one that is borrowed
abbrev pub next_of : Option Cell → Option FormCell
next_of o = option_map cell_of o

abbrev pub earlier : Option LentCell → Option FormCell
earlier o = option_map cell_lent o

-- the kind of a cell
abbrev pub kind_of : CellKind → FormCellKind
kind_of kind.KeepsNone = keeps_none
kind_of kind.KeepsDatum = keeps_datum
kind_of kind.KeepsPayload = keeps_payload

-- a line that the code holds, without a handler's call
abbrev pub form_line : Line → FormLine
form_line l = record { value = l.value; next = next_of l.next; cost = 0; inner = None; refusal = l.refusal }
