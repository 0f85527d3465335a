-- The kernels of a program, as contracts see them.
use Rattle.std.specs.Prelude.{◌≡◌, ℕ, ◌+◌, List, ◌++◌, map, length, slice_get, Ok, refl}
use Rattle.std.specs.Coded.{Coded, code_by, coded×, coded_ℕ, coded_list}
use Rattle.fr_value.specs.declared.now.Now.{Now}
use Rattle.fr_core.specs.declared.core_form.Core.{Core}
use Rattle.fr_core.specs.declared.lowered.Slot.{Slot}
use Rattle.fr_core.specs.declared.lowered.Slot.TheVariants as slot
use Rattle.fr_core.specs.declared.program.Function.{Function}
use Rattle.fr_core.specs.contracts.core_form.Core as core_row
use Rattle.fr_core.specs.contracts.lowered.Slot as slot_row
use Rattle.fr_core.specs.contracts.program.Function as function_row
use Rattle.fr_meaning.specs.Words.{Seen, Env, part}
use Rattle.fr_meaning.specs.Evaluation.{World, source_seen}
use Rattle.fr_kernel.specs.Slots.{slots_of}

-- a kernel: the expression that it was made from, the number of its first parameter, how many parameters it has, and what the slots behind the parameters stand for
pub record Kernel : Type 0 where
  pub expr : Core
  pub first : ℕ
  pub params : ℕ
  pub slots : List Slot

-- the functions of a program and kernels, whose numbers are their places
pub record Kernels : Type 0 where
  pub functions : List Function
  pub kernels : List Kernel

-- a kernel is stored as the tuple of its fields
abbrev pub kernel_code : Coded Kernel
kernel_code =
    code_by (Core × (ℕ × (ℕ × List Slot))) (coded× core_row.the_row.coded (coded× coded_ℕ (coded× coded_ℕ (coded_list slot_row.the_row.coded))))
    (λ k. (k.expr, (k.first, (k.params, k.slots)))) (λ t. record { expr = t.0; first = t.1.0; params = t.1.1.0; slots = t.1.1.1 }) (λ _. refl)

-- kernels are stored as the pair of the functions and a list
abbrev pub kernels_code : Coded Kernels
kernels_code =
    code_by (List Function × List Kernel) (coded× (coded_list function_row.the_row.coded) (coded_list kernel_code))
    (λ t. (t.functions, t.kernels)) (λ p. record { functions = p.0; kernels = p.1 }) (λ _. refl)

-- the functions of kernels, where the program's sources have these values
abbrev pub world_at : Kernels → List Now → World
world_at t sources = record { functions = t.functions; sources = sources }

-- the kernel of an expression whose parameters are so many variables from `first` on
abbrev pub kernel_for : ℕ → ℕ → Core → Kernel
kernel_for first params e = record { expr = e; first = first; params = params; slots = slots_of first e }

-- the number of values that a kernel is run over
abbrev pub inputs_of : Kernel → ℕ
inputs_of k = k.params + length k.slots

-- the value of what a slot stands for
abbrev pub slot_seen : List Now → Env → Slot → Seen
slot_seen sources env (slot.Var x) = part env x.0
slot_seen sources env (slot.Source x) = source_seen (slice_get sources x.0)

-- the values that a kernel is run over, where the variables around its expression, its parameters and the sources have these: first those of the parameters, then those of its other slots
pub record AreInputs (k : Kernel) (sources : List Now) (env args : Env) (inputs : List Now) : Type 0 where
  pub around : length env ≡ k.first
  pub params : length args ≡ k.params
  pub values : map (λ v. Ok v) inputs ≡ args ++ map (slot_seen sources env) k.slots

-- the values that a loop is run over behind the first accumulator and the list or count, where the variables around its body and the sources have these: those of the slots of the body other than its parameters
pub record AreOthers (k : Kernel) (sources : List Now) (env : Env) (others : List Now) : Type 0 where
  pub around : length env ≡ k.first
  pub values : map (λ v. Ok v) others ≡ map (slot_seen sources env) k.slots
