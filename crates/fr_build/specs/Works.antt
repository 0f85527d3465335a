-- What the parts of works are told of.
use Rattle.std.specs.Prelude.{◌≡◌, ℕ, true, false, List, [], ◌∷◌, ◌++◌, Option, Some, None}
use Rattle.std.specs.Option.{option_copied}
use denote.Ref.{Bor}
use Rattle.fr_value.specs.declared.now.Held.{Held}
use Rattle.fr_core.specs.declared.lowered.Slot.{Slot}
use Rattle.fr_meaning.specs.Words.{Seen}
use Rattle.fr_graph.specs.Graph.{Part, steady, Work, IsClean, work_line}
use Rattle.fr_graph.specs.Walk.{all_steady, steady_values, slot_parts}
use Rattle.fr_nodes.specs.Kinds.{part_of, parts_of}
use Rattle.fr_build.specs.Ready.{Planned, plan_of}

-- these are the values of parts of which none varies, or one of the parts varies
abbrev pub AreSteadyValues : List Part → Option (List Seen) → Type 0
AreSteadyValues ps (Some vs) = (all_steady ps ≡ true) × (vs ≡ steady_values ps)
AreSteadyValues ps None = all_steady ps ≡ false

-- the values of some steady parts
abbrev pub ArePlain : List Seen → Type 0
ArePlain vs = (ps : List Held) × (all_steady (parts_of ps) ≡ true) × (vs ≡ steady_values (parts_of ps))

-- a part that is borrowed, if there is one
abbrev pub behind_by : Option Held → List Part
behind_by None = []
behind_by (Some h) = part_of h ∷ []

abbrev pub behind_of : Option (Bor Held) → List Part
behind_of o = behind_by (option_copied o)

-- the parts of a form, and behind them what stands for the slots of its kernel
abbrev pub inputs_with : Planned → List Held → List Held → List Slot → List Part
inputs_with planned env parts slots = parts_of parts ++ slot_parts (plan_of planned) (parts_of env) slots

-- the line of a work over these values isn't clean
abbrev pub IsUnclean : Planned → ℕ → Work → List Seen → Type 0
IsUnclean planned n w vs = IsClean (work_line planned.table n w None vs) → ⊥

-- a part is the value of the work's line over these values, which is clean
abbrev pub IsLineValue : Planned → ℕ → Work → List Seen → Part → Type 0
IsLineValue planned n w vs part =
    let line = work_line planned.table n w None vs in
    (part ≡ steady line.value) × IsClean line

-- what the work's line over these values costs
abbrev pub line_cost : Planned → ℕ → Work → List Seen → ℕ
line_cost planned n w vs = (work_line planned.table n w None vs).cost
