-- What a node has come to by its rule, before it is written.
use Rattle.std.specs.Prelude.{◌≡◌, ◌≢◌, ◌⊎◌, ℕ, ◌+◌, ◌<◌, Bool, true, false, List, [], ◌∷◌, slice_get, Option, Some, None, Result, Ok, Err, if◌then◌else◌}
use Rattle.std.specs.Option.{option_map}
use Rattle.fr_value.specs.declared.now.Now.{Now}
use Rattle.fr_meaning.specs.Words.{Seen, test_of}
use Rattle.fr_meaning.specs.Cells.{Cell}
use Rattle.fr_meaning.specs.States.{Line}
use Rattle.fr_kernel.specs.Kernels.{Kernels}
use Rattle.fr_kernel.specs.declared.fuel.KernStop.{KernStop}
use Rattle.fr_kernel.specs.declared.fuel.KernStop.TheVariants as stop
use Rattle.fr_store.specs.declared.cell.Cell.{Cell as StoredCell}
use Rattle.fr_store.specs.declared.node.NodeKind.{NodeKind}
use Rattle.fr_store.specs.declared.node.NodeKind.TheVariants as node
use Rattle.fr_graph.specs.Graph.{Part, Work, Kind, source, works, watch, result, Graph, part_value, part_values, IsClean, work_line, is_late}
use Rattle.fr_graph.specs.Known.{Reads, Rule}
use Rattle.fr_graph.specs.Walk.{Plan}
pub use Rattle.fr_events.specs.Works.{is_late_in}
use Rattle.fr_events.specs.Works.{HasKernel, cell_of}
use Rattle.fr_events.specs.declared.lines.Stepped.{Stepped}
use Rattle.fr_way.specs.Frame.{is_watch}
use Rattle.fr_way.specs.Way.{Way, cell_in}
use Rattle.fr_nodes.specs.Signals.{Writes}
use Rattle.fr_engine.specs.declared.computing.Role.{Role}
use Rattle.fr_engine.specs.declared.computing.Role.TheVariants as role

-- each live work's kernel is among these, and each live source is one of so many
pub record HasKernels (t : Kernels) (many : ℕ) (g : Graph) : Type 0 where
  pub kernels : (m : ℕ) (w : Work) → g.live m ≡ true → g.kind m ≡ works w → HasKernel t w
  pub sources : (m s : ℕ) → g.live m ≡ true → g.kind m ≡ source s → s < many

-- what a stored node is for
abbrev pub role_of : NodeKind → Role
role_of node.Now = role.Fed
role_of node.Input = role.Fed
role_of node.Event = role.Fed
role_of (node.IfWatch site held) = role.Watched
role_of node.Result = role.Passed
role_of k = role.Worked

-- the rule of a node holds once this value and this cell are written
abbrev pub Obeys : Kernels → List Now → (ℕ → Option Cell) → Way → ℕ → Now → Option Cell → Type 0
Obeys t sources before at m now next = (after : Way) → Writes at after m now next → Rule after.graph t sources before m (after.graph.kind m) (after.graph.inputs m)

-- a work's line is clean and gives this value, and this is its next cell; the cell of a late work stays
pub record GivesLine (l : Line) (w : Work) (before : Option Cell) (now : Now) (next : Option Cell) : Type 0 where
  pub value : l.value ≡ Ok now
  pub clean : IsClean l
  pub follows : is_late w ≡ false → next ≡ l.next
  pub stays : is_late w ≡ true → next ≡ before

-- a value tells a key
pub record IsKey (now : Now) : Type 0 where
  pub holds : Bool
  pub told : test_of (Ok now) ≡ Ok holds

-- a value tells the key that a test gives
pub record GivesKey (tested : Seen) (now : Now) : Type 0 where
  pub holds : Bool
  pub told : test_of (Ok now) ≡ Ok holds
  pub test : test_of tested ≡ Ok holds

-- the only one of some parts
abbrev pub only_of : List Part → Option Part
only_of [] = None
only_of (q ∷ []) = Some q
only_of (q ∷ r ∷ ps) = None

-- a watch's value tells the key of its test, where it has one
abbrev pub GivesTold : Graph → Option Part → Now → Type 0
GivesTold g None now = IsKey now
GivesTold g (Some q) now = GivesKey (part_value g q) now

-- a result has the value of its input, where it has one
abbrev pub GivesPassed : Graph → Option Part → Now → Type 0
GivesPassed g None now = Unit {0}
GivesPassed g (Some q) now = part_value g q ≡ Ok now

-- the rule of a node of a kind, with these inputs, gives this value and this cell
abbrev pub Gives : Graph → Kernels → List Now → ℕ → Kind → List Part → Now → Option Cell → Type 0
Gives g t sources m (source s) ins now next = slice_get sources s ≡ Some now
Gives g t sources m (works w) ins now next = GivesLine (work_line t (g.level m) w (g.cell m) (part_values g ins)) w (g.cell m) now next
Gives g t sources m (watch a b env) ins now next = GivesTold g (only_of ins) now
Gives g t sources m result ins now next = GivesPassed g (only_of ins) now

-- a test can't be told
abbrev pub IsUntold : Graph → Option Part → Type 0
IsUntold g None = ⊥
IsUntold g (Some q) = (holds : Bool) → test_of (part_value g q) ≡ Ok holds → ⊥

-- the rule of a node of a kind, with these inputs, gives nothing: its line isn't clean, or its test can't be told
abbrev pub Refuses : Graph → Kernels → ℕ → Kind → List Part → Type 0
Refuses g t m (source s) ins = ⊥
Refuses g t m (works w) ins = IsClean (work_line t (g.level m) w (g.cell m) (part_values g ins)) → ⊥
Refuses g t m (watch a b env) ins = IsUntold g (only_of ins)
Refuses g t m result ins = ⊥

-- what the rule of a node of a kind, with these inputs, costs: nothing unless it is a work
abbrev pub rule_cost : Graph → Kernels → ℕ → Kind → List Part → ℕ
rule_cost g t m (source s) ins = 0
rule_cost g t m (works w) ins = (work_line t (g.level m) w (g.cell m) (part_values g ins)).cost
rule_cost g t m (watch a b env) ins = 0
rule_cost g t m result ins = 0

-- a work's line gives this, and exactly its cost was spent
pub record PaysLine (s : Stepped) (before after : ℕ) (w : Work) (kept : Option Cell) (l : Line) : Type 0 where
  pub gives : GivesLine l w kept s.value (option_map cell_of s.cell)
  pub paid : after + l.cost ≡ before

-- what is told of a work's line: it gives this, it isn't clean, or it costs more than what was left; want of memory tells nothing
abbrev pub WorkComes : Result Stepped KernStop → ℕ → ℕ → Work → Option Cell → Line → Type 0
WorkComes (Ok s) before after w kept l = PaysLine s before after w kept l
WorkComes (Err (stop.Memory e)) before after w kept l = Unit {0}
WorkComes (Err (stop.Bad b)) before after w kept l = IsClean l → ⊥
WorkComes (Err stop.Fuel) before after w kept l = before < l.cost

-- the cell of a late work stays, whatever a step gave; and what stopped the step is told
abbrev pub KeepsCell : Bool → Option StoredCell → Result Stepped KernStop → Result Stepped KernStop → Type 0
KeepsCell late before (Ok s) r = r ≡ Ok (record { value = s.value; cell = if late then before else s.cell })
KeepsCell late before (Err e) r = r ≡ Err e

-- what is told of a watch's test: this tells the key that it gives, or it can't be told
abbrev pub WatchComes : Result Stepped KernStop → Graph → Option Part → Type 0
WatchComes (Ok s) g q = GivesTold g q s.value
WatchComes (Err (stop.Memory e)) g q = Unit {0}
WatchComes (Err (stop.Bad b)) g q = IsUntold g q
WatchComes (Err stop.Fuel) g q = ⊥

-- this follows from a node's rule, and exactly its cost was spent
pub record Comes (s : Stepped) (before after : ℕ) (g : Graph) (t : Kernels) (sources : List Now) (m : ℕ) (k : Kind) (ins : List Part) : Type 0 where
  pub gives : Gives g t sources m k ins s.value (option_map cell_of s.cell)
  pub paid : after + rule_cost g t m k ins ≡ before

-- what is told of a node's rule, where so much fuel was left before and after: this follows from it, it gives nothing, or its cost is above what was left; want of memory tells nothing
abbrev pub ComesOr : Result Stepped KernStop → ℕ → ℕ → Graph → Kernels → List Now → ℕ → Kind → List Part → Type 0
ComesOr (Ok s) before after g t sources m k ins = Comes s before after g t sources m k ins
ComesOr (Err (stop.Memory e)) before after g t sources m k ins = Unit {0}
ComesOr (Err (stop.Bad b)) before after g t sources m k ins = Refuses g t m k ins
ComesOr (Err stop.Fuel) before after g t sources m k ins = before < rule_cost g t m k ins

-- a node has come to this: its rule holds once that is written, where it has the cell that it had before and doesn't read itself; a late work's cell stays, a watch's value tells a key, and exactly the rule's cost was spent
pub record Computed (s : Stepped) (before after : ℕ) (t : Kernels) (sources : List Now) (at : Way) (m : ℕ) : Type 0 where
  pub obeys : (cells : ℕ → Option Cell) → cells m ≡ at.graph.cell m → (Reads m (at.graph.inputs m) → ⊥) → Obeys t sources cells at m s.value (option_map cell_of s.cell)
  pub late : (w : Work) → at.graph.kind m ≡ works w → is_late w ≡ true → option_map cell_of s.cell ≡ at.graph.cell m
  pub key : is_watch (at.graph.kind m) ≡ true → IsKey s.value
  pub paid : after + rule_cost at.graph t m (at.graph.kind m) (at.graph.inputs m) ≡ before

-- what is told where a node is computed: it has come to this, its rule gives nothing, or the rule's cost is above what was left; want of memory tells nothing
abbrev pub ComputedOr : Result Stepped KernStop → ℕ → ℕ → Kernels → List Now → Way → ℕ → Type 0
ComputedOr (Ok s) before after t sources at m = Computed s before after t sources at m
ComputedOr (Err (stop.Memory e)) before after t sources at m = Unit {0}
ComputedOr (Err (stop.Bad b)) before after t sources at m = Refuses at.graph t m (at.graph.kind m) (at.graph.inputs m)
ComputedOr (Err stop.Fuel) before after t sources at m = before < rule_cost at.graph t m (at.graph.kind m) (at.graph.inputs m)

-- what was computed of a node fits it: its rule holds once that is written, a late work's cell stays, and a watch has the key that it had
pub record Fits (p : Plan) (sources : List Now) (old : Graph) (at : Way) (m : ℕ) (now : Now) (next : Option Cell) : Type 0 where
  pub obeys : Obeys p.table sources (cell_in old) at m now next
  pub late : (w : Work) → at.graph.kind m ≡ works w → is_late w ≡ true → next ≡ at.graph.cell m
  pub same_key : is_watch (at.graph.kind m) ≡ true → (old.live m ≡ true) × (test_of (Ok now) ≡ test_of (at.graph.value m))

-- a watch that hasn't chosen yet has a result without an input
abbrev pub AreUnread : Graph → Way → Type 0
AreUnread old at = (w : ℕ) → at.graph.live w ≡ true → is_watch (at.graph.kind w) ≡ true → at.done w ≡ false → old.live w ≡ false → at.graph.inputs (at.graph.result_of w) ≡ []

-- there is a part among these
abbrev pub has_any : List Part → Bool
has_any [] = false
has_any (q ∷ ps) = true

-- a watch has chosen before, by the key that this value tells; or it hasn't, or had another key
abbrev pub KeepsKey : Bool → Graph → ℕ → Now → Type 0
KeepsKey true g w now = (g.inputs (g.result_of w) ≢ []) × (test_of (Ok now) ≡ test_of (g.value w))
KeepsKey false g w now = (g.inputs (g.result_of w) ≡ []) ⊎ (test_of (Ok now) ≢ test_of (g.value w))
