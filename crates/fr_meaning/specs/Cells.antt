-- Kept trees, by what a form reads from them. It is read level by level: where the tree that is met isn't the one that is wanted, what would stand there counts as Nothing.
use Rattle.std.specs.Prelude.{ℕ, Bool, true, false, if◌then◌else◌, slice_get, unwrap_or, Option, Some, None}
use Rattle.std.specs.Option.{option_map}
use Rattle.fr_value.specs.declared.value.Value.{Value}
use Rattle.fr_core.specs.declared.kept.Key.{Key}
use Rattle.fr_core.specs.declared.kept.Key.TheVariants as key
use Rattle.fr_core.specs.declared.kept.Kept.{Kept, out-Kept}
use Rattle.fr_core.specs.declared.kept.Kept.TheOpen.{Kept-F}
use Rattle.fr_core.specs.declared.kept.Kept.TheVariants as kept

abbrev pub child_at : Kept-F Kept → ℕ → Kept
child_at (Kept-F.Group ks) i = unwrap_or (slice_get ks i) kept.Nothing
child_at k i = kept.Nothing

-- what part number i kept, in a tree of parts
unfoldable pub child : Kept → ℕ → Kept
child k i = child_at (out-Kept k) i

abbrev pub datum_cell_at : Kept-F Kept → Option Value
datum_cell_at (Kept-F.Datum v k) = Some v
datum_cell_at k = None

-- the datum in a form's cell
unfoldable pub datum_cell : Kept → Option Value
datum_cell k = datum_cell_at (out-Kept k)

abbrev pub payload_cell_at : Kept-F Kept → Option (Option Value)
payload_cell_at (Kept-F.Payload o k) = Some o
payload_cell_at k = None

-- the event's state in a form's cell
unfoldable pub payload_cell : Kept → Option (Option Value)
payload_cell k = payload_cell_at (out-Kept k)

abbrev pub behind_datum_at : Kept-F Kept → Kept
behind_datum_at (Kept-F.Datum v k) = k
behind_datum_at k = kept.Nothing

-- what the parts of a form with a datum in its cell kept
unfoldable pub behind_datum : Kept → Kept
behind_datum k = behind_datum_at (out-Kept k)

abbrev pub behind_payload_at : Kept-F Kept → Kept
behind_payload_at (Kept-F.Payload o k) = k
behind_payload_at k = kept.Nothing

-- what the parts of a form with an event's state in its cell kept
unfoldable pub behind_payload : Kept → Kept
behind_payload k = behind_payload_at (out-Kept k)

-- what a form's cell holds
pub data Cell : Type 0 where
  datum : Value → Cell
  payload : Option Value → Cell

-- the kind of cell that a form has
pub data CellKind : Type 0 where
  keeps_none : CellKind
  keeps_datum : CellKind
  keeps_payload : CellKind

-- a form's cell of this kind
abbrev pub cell_in : CellKind → Kept → Option Cell
cell_in keeps_none k = None
cell_in keeps_datum k = option_map datum (datum_cell k)
cell_in keeps_payload k = option_map payload (payload_cell k)

-- what the parts of a form with a cell of this kind kept
abbrev pub behind : CellKind → Kept → Kept
behind keeps_none k = k
behind keeps_datum k = behind_datum k
behind keeps_payload k = behind_payload k

-- a form's cell before what its parts keep
abbrev pub with_cell : Option Cell → Kept → Kept
with_cell None k = k
with_cell (Some (datum v)) k = kept.Datum v k
with_cell (Some (payload o)) k = kept.Payload o k

abbrev pub same_test : Bool → Bool → Bool
same_test true b = b
same_test false true = false
same_test false false = true

-- whether a switch chose by the same
abbrev pub same_key : Key → Key → Bool
same_key (key.Test a) (key.Test b) = same_test a b

abbrev pub under_key_at : Key → Kept-F Kept → Kept
under_key_at new (Kept-F.Switch old k) = if same_key old new then k else kept.Nothing
under_key_at new k = kept.Nothing

-- what the choice of a switch kept, where the switch chose by the same as now
unfoldable pub under_key : Key → Kept → Kept
under_key new k = under_key_at new (out-Kept k)
