-- What building takes for granted of what it builds.
use Rattle.std.specs.Prelude.{◌≡◌, ℕ, ◌<◌, List, [], ◌∷◌, slice_get, Some, refl}
use Rattle.std.specs.Coded.{Coded, code_by, coded×, coded_ℕ, coded_list}
use Rattle.fr_core.specs.contracts.lowered.LowFunction as function_row
use Rattle.fr_core.specs.declared.lowered.Low.{Low, out-Low}
use Rattle.fr_core.specs.declared.lowered.Low.TheOpen.{Low-F}
use Rattle.fr_core.specs.declared.lowered.LowFunction.{LowFunction}
use Rattle.fr_core.specs.declared.lowered.Slot.{Slot}
use Rattle.fr_core.specs.declared.lowered.Slot.TheVariants as slot
use Rattle.fr_kernel.specs.Kernels.{Kernels, Kernel, kernels_code}
use Rattle.fr_kernel.specs.Purity.{IsPureOver}
use Rattle.fr_kernel.specs.Erasure.{Place, Everywhere}
use Rattle.fr_graph.specs.Walk.{Plan}
use Rattle.fr_graph.specs.Sound.{IsSoundAt}
use Rattle.fr_nodes.specs.Kinds.{Sites}

-- the functions and kernels of a lowered program, and the number of its sources
pub record Planned : Type 0 where
  pub functions : List LowFunction
  pub table : Kernels
  pub sources : ℕ

-- it is stored as these three, each in the next
abbrev pub planned_code : Coded Planned
planned_code =
    code_by (List LowFunction × (Kernels × ℕ)) (coded× (coded_list function_row.the_row.coded) (coded× kernels_code coded_ℕ))
    (λ p. (p.functions, (p.table, p.sources))) (λ t. record { functions = t.0; table = t.1.0; sources = t.1.1 }) (λ _. refl)

-- what a walk of it goes by: the node of each source has the source's number
abbrev pub plan_of : Planned → Plan
plan_of planned = record { functions = planned.functions; table = planned.table; node_of = λ s. s }

-- what a slot stands for is in scope, or one of so many sources
abbrev pub IsSlotIn : ℕ → ℕ → Slot → Type 0
IsSlotIn variables sources (slot.Var x) = x.0 < variables
IsSlotIn variables sources (slot.Source s) = s.0 < sources

abbrev pub AreSlotsIn : ℕ → ℕ → List Slot → Type 0
AreSlotsIn variables sources [] = Unit {0}
AreSlotsIn variables sources (x ∷ xs) = IsSlotIn variables sources x × AreSlotsIn variables sources xs

-- what an expression itself names is in scope, or one of so many sources
abbrev pub NamesInScope : ℕ → ℕ → Low-F Low → Type 0
NamesInScope variables sources (Low-F.Var x) = x.0 < variables
NamesInScope variables sources (Low-F.Source s) = s.0 < sources
NamesInScope variables sources (Low-F.Handler h es id ss) = AreSlotsIn variables sources ss
NamesInScope variables sources (Low-F.Loop l es id ss) = AreSlotsIn variables sources ss
NamesInScope variables sources (Low-F.Collapse id ss) = AreSlotsIn variables sources ss
NamesInScope variables sources l = Unit {0}

-- at a place an expression is sound and names what is there
pub record IsReadyAt (table : Kernels) (sources : ℕ) (s : Place) : Type 0 where
  pub sound : IsSoundAt table s
  pub names : NamesInScope s.variables sources (out-Low s.expr)

-- a fact holds at all places of each of these, where so many variables are in scope
abbrev pub EachEverywhere : (Place → Type 0) → ℕ → List Low → Type 0
EachEverywhere P n [] = Unit {0}
EachEverywhere P n (e ∷ es) = Everywhere P (record { variables = n; expr = e }) × EachEverywhere P n es

-- an expression can be built, where so many variables are in scope
abbrev pub IsReady : Planned → ℕ → Low → Type 0
IsReady planned n e = Everywhere (IsReadyAt planned.table planned.sources) (record { variables = n; expr = e })

abbrev pub AreReady : Planned → ℕ → List Low → Type 0
AreReady planned n es = EachEverywhere (IsReadyAt planned.table planned.sources) n es

-- the bodies of all functions can be built, and every kernel is pure
pub record IsPlanReady (planned : Planned) : Type 0 where
  pub pure : (i : ℕ) (k : Kernel) → slice_get planned.table.kernels i ≡ Some k → IsPureOver planned.table.functions k.expr
  pub bodies : (i : ℕ) (f : LowFunction) → slice_get planned.functions i ≡ Some f → IsReady planned f.params f.body

-- the choices at a site are those of the switch that carries it
abbrev pub HasChoices : Sites → Low-F Low → Type 0
HasChoices sites (Low-F.If site test a b) = sites site.0 ≡ record { yes = a; no = b }
HasChoices sites l = Unit {0}

-- so it is at all places of an expression
abbrev pub Matches : Sites → ℕ → Low → Type 0
Matches sites n e = Everywhere (λ s. HasChoices sites (out-Low s.expr)) (record { variables = n; expr = e })

-- so it is of each of these
abbrev pub AllMatch : Sites → ℕ → List Low → Type 0
AllMatch sites n es = EachEverywhere (λ s. HasChoices sites (out-Low s.expr)) n es

-- and of all functions
pub record PlanMatches (sites : Sites) (planned : Planned) : Type 0 where
  pub bodies : (i : ℕ) (f : LowFunction) → slice_get planned.functions i ≡ Some f → Matches sites f.params f.body
