-- What is known to be right of a graph: everything at the end of an instant, and what stands below a height while one is under way.
use Rattle.std.specs.Prelude.{◌≡◌, ◌⊎◌, ℕ, Bool, true, false, List, [], ◌∷◌, slice_get, Option, Some, Result, Ok, Err}
use Rattle.fr_value.specs.declared.now.Now.{Now}
use Rattle.fr_value.specs.declared.now.Bad.{Bad}
use Rattle.fr_value.specs.declared.now.Bad.TheVariants.{Deep}
use Rattle.fr_core.specs.declared.core_form.Operator.TheVariants as operator
use Rattle.fr_meaning.specs.States.{datum_next, payload_next}
use Rattle.fr_core.specs.declared.lowered.Low.{Low}
use Rattle.fr_meaning.specs.Words.{Seen, datum_in, event_of, test_of}
use Rattle.fr_meaning.specs.Cells.{Cell}
use Rattle.fr_kernel.specs.Kernels.{Kernels}
use Rattle.fr_graph.specs.Graph.{Part, steady, signal, Work, operates, feeds, Kind, source, works, watch, result, Graph, part_value, part_values, IsClean, work_line, is_late}
use Rattle.fr_graph.specs.Walk.{Plan}
use Rattle.fr_graph.specs.Wired.{Chosen, EraStands}

-- a node is among the signals of parts
abbrev pub Reads : ℕ → List Part → Type 0
Reads j [] = ⊥
Reads j (steady v ∷ ps) = Reads j ps
Reads j (signal m ∷ ps) = (m ≡ j) ⊎ Reads j ps

-- what a known node stands on is known: its inputs, and the watch of a result
pub record IsClosed (g : Graph) (known : ℕ → Type 0) : Type 0 where
  pub input : (m j : ℕ) → known m → g.live m ≡ true → Reads j (g.inputs m) → known j
  pub watched : (w : ℕ) (a b : Low) (env : List Part) → g.live w ≡ true → g.kind w ≡ watch a b env → known (g.result_of w) → known w

-- a part whose value is known
abbrev pub IsKnown : (ℕ → Type 0) → Part → Type 0
IsKnown known (steady v) = Unit {0}
IsKnown known (signal m) = known m

-- all of these are known
abbrev pub AllKnown : (ℕ → Type 0) → List Part → Type 0
AllKnown known [] = Unit {0}
AllKnown known (p ∷ ps) = IsKnown known p × AllKnown known ps

-- the known ones among parts have these values
abbrev pub Have : Graph → (ℕ → Type 0) → List Part → List Seen → Type 0
Have g known [] [] = Unit {0}
Have g known (p ∷ ps) (v ∷ vs) = (IsKnown known p → part_value g p ≡ v) × Have g known ps vs
Have g known [] (v ∷ vs) = ⊥
Have g known (p ∷ ps) [] = ⊥

-- a watch's value is a key, by the value of its test
pub record IsWatched (g : Graph) (m : ℕ) (tested : Part) : Type 0 where
  pub holds : Bool
  pub value : test_of (g.value m) ≡ Ok holds
  pub test : test_of (part_value g tested) ≡ Ok holds

-- a source's node has the value that the source has
pub record IsFed (g : Graph) (sources : List Now) (m s : ℕ) : Type 0 where
  pub now : Now
  pub there : slice_get sources s ≡ Some now
  pub value : g.value m ≡ Ok now

-- a work has its value by those of its inputs and by the cell before, without an error, and its next cell, unless its last part gives that behind the instant
pub record IsWorked (g : Graph) (t : Kernels) (before : Option Cell) (m : ℕ) (w : Work) (ins : List Part) : Type 0 where
  pub value : g.value m ≡ (work_line t (g.level m) w before (part_values g ins)).value
  pub clean : IsClean (work_line t (g.level m) w before (part_values g ins))
  pub cell : is_late w ≡ false → g.cell m ≡ (work_line t (g.level m) w before (part_values g ins)).next

-- the rule for the value of a node of a kind, with these inputs
abbrev pub Rule : Graph → Kernels → List Now → (ℕ → Option Cell) → ℕ → Kind → List Part → Type 0
Rule g t sources before m (source s) ins = IsFed g sources m s
Rule g t sources before m (works w) ins = IsWorked g t (before m) m w ins
Rule g t sources before m (watch a b env) (test ∷ []) = IsWatched g m test
Rule g t sources before m result (q ∷ []) = g.value m ≡ part_value g q
Rule g t sources before m k ins = Unit {0}

-- each known node that lives obeys its rule
abbrev pub SettledOn : Graph → (ℕ → Type 0) → Kernels → List Now → (ℕ → Option Cell) → Type 0
SettledOn g known t sources before = (m : ℕ) → known m → g.live m ≡ true → Rule g t sources before m (g.kind m) (g.inputs m)

-- the era of each known watch that lives stands
abbrev pub ErasStandOn : Graph → (ℕ → Type 0) → Plan → Type 0
ErasStandOn g known p = (w : ℕ) (a b : Low) (env : List Part) → known w → g.live w ≡ true → g.kind w ≡ watch a b env
    → Chosen (test_of (g.value w)) (EraStands g p w a env) (EraStands g p w b env)

-- what the cell of a work takes behind the instant from the value of its last part
abbrev pub latch : Work → Seen → Result Cell Bad
latch (operates operator.Delay) v = datum_next (datum_in v)
latch (operates operator.DelayE) v = payload_next (event_of v)
latch feeds v = datum_next (datum_in v)
latch w v = Err Deep

-- a work's cell took the value of its last part
pub record IsLatched (g : Graph) (m : ℕ) (w : Work) (last : Part) : Type 0 where
  pub taken : Cell
  pub takes : latch w (part_value g last) ≡ Ok taken
  pub kept : g.cell m ≡ Some taken

-- an instant has ended: the works that take their last part's value have taken it
pub record HasEnded (g : Graph) : Type 0 where
  pub latched : (m : ℕ) (w : Work) (last : Part) → g.live m ≡ true → g.kind m ≡ works w → is_late w ≡ true → g.later m ≡ Some last → IsLatched g m w last
