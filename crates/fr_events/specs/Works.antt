-- What a node of the store is in the graph of signals: its work, and what its cell holds.
use Rattle.std.specs.Prelude.{ℕ, ◌<◌, Bool, false, length, Option, Some, None}
use Rattle.std.specs.Option.{option_map}
use Rattle.fr_core.specs.declared.core_form.Operator.TheVariants as operator
use Rattle.fr_core.specs.declared.core_form.Handler.TheVariants as handler
use Rattle.fr_core.specs.declared.core_form.Loop.TheVariants as loop
use Rattle.fr_store.specs.declared.node.Code.{Code}
use Rattle.fr_store.specs.declared.node.Code.TheVariants as code
use Rattle.fr_store.specs.declared.node.NodeKind.{NodeKind}
use Rattle.fr_store.specs.declared.node.NodeKind.TheVariants as kind
use Rattle.fr_store.specs.declared.cell.Cell.{Cell as StoredCell}
use Rattle.fr_store.specs.declared.cell.Cell.TheVariants as stored
use Rattle.fr_store.specs.declared.cell.SeenCell.{SeenCell}
use Rattle.fr_store.specs.Rows.{cell_of as cell_seen}
use Rattle.fr_meaning.specs.Cells.{Cell, datum, payload}
use Rattle.fr_kernel.specs.Kernels.{Kernels}
use Rattle.fr_graph.specs.Graph.{Work, operates, handles, loops, runs, feeds, is_late}
use Rattle.fr_events.specs.declared.works.NodeWork.{NodeWork}
use Rattle.fr_events.specs.declared.works.NodeWork.TheVariants as node_work

-- the work of a kernel's node
abbrev pub code_work : Code → Work
code_work (code.Prim p) = operates (operator.Prim p)
code_work (code.Kern id) = runs id.0
code_work (code.Fold id) = loops loop.Fold id.0
code_work (code.Repeat id) = loops loop.Repeat id.0

-- the work of a node; a source, a watch and the result of one have none
abbrev pub work_of : NodeKind → Option Work
work_of kind.Now = None
work_of kind.Input = None
work_of kind.Event = None
work_of (kind.Kernel c) = Some (code_work c)
work_of (kind.IfWatch site held) = None
work_of kind.Result = None
work_of (kind.MapE id) = Some (handles handler.MapE id.0)
work_of (kind.FilterE id) = Some (handles handler.FilterE id.0)
work_of kind.MergeE = Some (operates operator.MergeE)
work_of kind.Hold = Some (operates operator.Hold)
work_of (kind.CollectB id) = Some (handles handler.CollectB id.0)
work_of (kind.CollectE id) = Some (handles handler.CollectE id.0)
work_of kind.Changes = Some (operates operator.Changes)
work_of kind.OnceE = Some (operates operator.OnceE)
work_of kind.Delay = Some (operates operator.Delay)
work_of kind.DelayE = Some (operates operator.DelayE)
work_of kind.Feedback = Some feeds

-- a work takes its last part's value behind the instant, and a node that is no work doesn't
abbrev pub is_late_in : Option Work → Bool
is_late_in None = false
is_late_in (Some w) = is_late w

-- the kernel that a work runs is one of these
abbrev pub HasKernel : Kernels → Work → Type 0
HasKernel t (operates o) = Unit {0}
HasKernel t (handles h id) = id < length t.kernels
HasKernel t (loops l id) = id < length t.kernels
HasKernel t (runs id) = id < length t.kernels
HasKernel t feeds = Unit {0}

-- a work as the code has it
abbrev pub graph_work : NodeWork → Work
graph_work (node_work.Operates o) = operates o
graph_work (node_work.Handles h id) = handles h id.0
graph_work (node_work.Loops l id) = loops l id.0
graph_work (node_work.Runs id) = runs id.0
graph_work node_work.Feeds = feeds

-- what a node's cell holds
abbrev pub cell_of : StoredCell → Cell
cell_of (stored.Kept v) = datum v
cell_of (stored.Payload o) = payload o

-- a cell that is read, if there is one
abbrev pub cell_at : Option SeenCell → Option Cell
cell_at o = option_map cell_of (option_map cell_seen o)
