-- What a node is made of, by how it is kept and how it is read.
use Rattle.std.specs.Prelude.{ℕ, List, [], ◌∷◌, map, Option, Some, None}
use Rattle.fr_value.specs.declared.now.Held.{Held}
use Rattle.fr_store.specs.declared.cell.Cell.{Cell}
use Rattle.fr_store.specs.declared.cell.CellRow.{CellRow}
use Rattle.fr_store.specs.declared.cell.SeenCell.{SeenCell}
use Rattle.fr_store.specs.declared.inputs.Row.{Row}
use Rattle.fr_store.specs.declared.inputs.Row.TheVariants.{Few, Many, Steady, Mixed}
use Rattle.fr_store.specs.declared.inputs.Input.{Input}
use Rattle.fr_store.specs.declared.source.SourceRow.{SourceRow}

-- The signals of nodes by their numbers.
abbrev pub signals : List ℕ → List Held
signals ids = map (λ id. Held.Signal (record { 0 = id })) ids

-- The inputs that a row keeps.
abbrev pub held_in : Row → List Held
held_in (Few ids) = signals ids.items
held_in (Many ids) = signals ids.items
held_in (Steady value) = Held.Steady value ∷ []
held_in (Mixed inputs) = inputs.items

-- The input that was read.
abbrev pub held_of : Input → Held
held_of (Input.Steady value) = Held.Steady value.now
held_of (Input.Signal id) = Held.Signal id

-- The source that a row keeps, if it keeps one.
abbrev pub source_in : SourceRow → Option Held
source_in SourceRow.Nothing = None
source_in (SourceRow.Steady value) = Some (Held.Steady value)
source_in (SourceRow.Signal id) = Some (Held.Signal id)

-- The cell that a row keeps, if it keeps one.
abbrev pub cell_in : CellRow → Option Cell
cell_in CellRow.Nothing = None
cell_in (CellRow.Kept value) = Some (Cell.Kept value)
cell_in CellRow.Silent = Some (Cell.Payload None)
cell_in (CellRow.Payload value) = Some (Cell.Payload (Some value))

-- The cell that was read.
abbrev pub cell_of : SeenCell → Cell
cell_of (SeenCell.Kept value) = Cell.Kept value.now
cell_of SeenCell.Silent = Cell.Payload None
cell_of (SeenCell.Payload value) = Cell.Payload (Some value.now)
