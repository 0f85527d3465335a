-- What the computing of a node tells of its line.
use Rattle.std.specs.Prelude.{◌≡◌, ℕ, ◌+◌, Option, Some, None, Result, Ok, Err}
use Rattle.std.specs.Option.{option_map, option_or}
use Rattle.fr_value.specs.declared.now.Bad.{Bad}
use Rattle.fr_meaning.specs.Words.{First, own}
use Rattle.fr_meaning.specs.Cells.{Cell}
use Rattle.fr_meaning.specs.States.{Line}
use Rattle.fr_meaning.specs.Evaluation.{refusal_first}
use Rattle.fr_kernel.specs.declared.fuel.KernStop.{KernStop}
use Rattle.fr_kernel.specs.Answers.{StopsBy}
use Rattle.fr_graph.specs.Graph.{IsClean}
use Rattle.fr_store.specs.declared.cell.Cell.{Cell as StoredCell}
use Rattle.fr_events.specs.declared.lines.Stepped.{Stepped}
use Rattle.fr_events.specs.declared.latching.LatchStop.{LatchStop}
use Rattle.fr_events.specs.declared.latching.LatchStop.TheVariants as latch_stop
use Rattle.fr_events.specs.Works.{cell_of}

-- the first error of a line: that of its handler's call, its own, or that of a part that it refuses
abbrev pub line_first : Line → First
line_first l = option_or l.inner (option_or (own l.value) (refusal_first l.refusal))

-- a line is clean, these are its value and its next cell, and exactly its cost was spent
pub record Steps (s : Stepped) (before after : ℕ) (l : Line) : Type 0 where
  pub value : l.value ≡ Ok s.value
  pub clean : IsClean l
  pub next : l.next ≡ option_map cell_of s.cell
  pub paid : after + l.cost ≡ before

-- what is told of a line, where so much fuel was left before and after: it is clean and this is its outcome, its first error is of that kind, or its cost is above what was left; want of memory tells nothing
abbrev pub StepRan : Result Stepped KernStop → ℕ → ℕ → Line → Type 0
StepRan (Ok s) before after l = Steps s before after l
StepRan (Err e) before after l = StopsBy e before l.cost (line_first l)

-- what is told of a cell that a value should give: it is this one, or the value is refused with that kind; want of memory tells nothing
abbrev pub Latched : Result StoredCell LatchStop → Result Cell Bad → Type 0
Latched (Ok c) r = r ≡ Ok (cell_of c)
Latched (Err (latch_stop.Memory e)) r = Unit {0}
Latched (Err (latch_stop.Bad b)) r = r ≡ Err b

-- a line's next cell is this one, or it has none and refuses a part with that kind
abbrev pub Leaves : Line → Result Cell Bad → Type 0
Leaves l (Ok c) = l.next ≡ Some c
Leaves l (Err b) = (l.next ≡ None) × (l.refusal ≡ Some b)
