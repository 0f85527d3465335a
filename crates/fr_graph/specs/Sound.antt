-- What is so of a lowered program whatever it runs over.
use Rattle.std.specs.Prelude.{◌≡◌, ◌≤◌, ℕ, true, List, ◌++◌, map, length, slice_get, Some}
use Rattle.fr_value.specs.declared.now.Now.{Now}
use Rattle.fr_core.specs.declared.kept.Kept.{Kept}
use Rattle.fr_meaning.specs.Words.{Seen, Done}
use Rattle.fr_meaning.specs.Evaluation.{world_of, eval_to}
use Rattle.fr_graph.specs.Graph.{kernel_run}
use Rattle.fr_core.specs.Classes.{IsPureExpr}
use Rattle.fr_core.specs.Shapes.{operator_takes, handler_parts}
use Rattle.fr_core.specs.declared.lowered.Low.{Low, out-Low}
use Rattle.fr_core.specs.declared.lowered.Low.TheOpen.{Low-F}
use Rattle.fr_core.specs.declared.lowered.LowFunction.{LowFunction}
use Rattle.fr_core.specs.declared.program.Program.{Program}
use Rattle.fr_kernel.specs.Kernels.{Kernels, Kernel, slot_seen}
use Rattle.fr_kernel.specs.Slots.{slots_of}
use Rattle.fr_kernel.specs.Erasure.{Place, Everywhere, FitsPlace, erased_function}
use Rattle.fr_graph.specs.Walk.{Plan}

-- an operator, a handler and a loop have their number of parts
abbrev pub HasParts : {X : Type 0} → Low-F X → Type 0
HasParts (Low-F.Operator o es) = operator_takes o (length es) ≡ true
HasParts (Low-F.Handler h es id ss) = length es ≡ handler_parts h
HasParts (Low-F.Loop l es id ss) = length es ≡ 2
HasParts f = Unit {0}

-- at a place an expression has its parts, and the kernel that it names is there and fits
pub record IsSoundAt (t : Kernels) (s : Place) : Type 0 where
  pub parts : HasParts (out-Low s.expr)
  pub fits : FitsPlace t.kernels s

-- an expression is sound at all its places, where so many variables are in scope
abbrev pub Sound : Kernels → ℕ → Low → Type 0
Sound t n e = Everywhere (IsSoundAt t) (record { variables = n; expr = e })

-- the program that a plan is the lowered form of
pub record IsPlanOf (pr : Program) (p : Plan) : Type 0 where
  pub functions : pr.functions ≡ map (erased_function p.table.kernels) p.functions
  pub table : p.table.functions ≡ pr.functions
  pub pure : (i : ℕ) (k : Kernel) → slice_get p.table.kernels i ≡ Some k → IsPureExpr pr k.expr
  pub slots : (i : ℕ) (k : Kernel) → slice_get p.table.kernels i ≡ Some k → k.slots ≡ slots_of k.first k.expr
  pub bodies : (i : ℕ) (f : LowFunction) → slice_get p.functions i ≡ Some f → Sound p.table f.params f.body

-- two evaluations give the same value at the same cost, and the same first error
pub record AreAlike (a b : Done) : Type 0 where
  pub value : a.value ≡ b.value
  pub cost : a.cost ≡ b.cost
  pub first : a.first ≡ b.first

-- the run of a kernel gives what the expression does that it was made from, over the variables and sources that its slots stand for and any kept tree
abbrev pub KernelsMean : Plan → Program → List Now → Type 0
KernelsMean p pr sources = (n i : ℕ) (k : Kernel) → n ≤ 2001 → slice_get p.table.kernels i ≡ Some k → (vs args : List Seen) → length vs ≡ k.first → length args ≡ k.params → (tree : Kept)
    → AreAlike (kernel_run p.table n i (map (slot_seen sources vs) k.slots) args) (eval_to n (world_of pr sources) k.expr (vs ++ args) tree)
