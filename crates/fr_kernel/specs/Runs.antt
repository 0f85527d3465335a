-- What a run of a kernel of a table, or of a loop over one, tells.
use Rattle.std.specs.Prelude.{◌≡◌, ℕ, ◌+◌, List, ◌∷◌, [], ◌++◌, drop, length, slice_get, Some, Result}
use Rattle.fr_value.specs.declared.now.Now.{Now}
use Rattle.fr_core.specs.Classes.{IsPureExpr}
use Rattle.fr_core.specs.Shapes.{loop_binds}
use Rattle.fr_core.specs.declared.core_form.Core.{Core}
use Rattle.fr_core.specs.declared.core_form.Loop.{Loop}
use Rattle.fr_core.specs.declared.kept.Kept.{Kept}
use Rattle.fr_core.specs.declared.program.Program.{Program}
use Rattle.fr_meaning.specs.Words.{Seen, Env}
use Rattle.fr_meaning.specs.Evaluation.{world_of, body_with, eval, eval_to}
use Rattle.fr_meaning.specs.Agreement.{Agree}
use Rattle.fr_kernel.specs.declared.fuel.KernStop.{KernStop}
use Rattle.fr_kernel.specs.Answers.{Ran}
use Rattle.fr_kernel.specs.Kernels.{Kernel, Kernels, kernel_for, inputs_of, world_at, AreInputs, AreOthers}
use Rattle.fr_kernel.specs.Loops.{loop_over, loop_at}
use Rattle.fr_kernel.specs.Numbers.{numbered}
use Rattle.fr_kernel.specs.Placed.{scheme_for}

-- the kernel of this number
abbrev pub IsAt : Kernels → ℕ → Kernel → Type 0
IsAt t id k = slice_get t.kernels id ≡ Some k

-- the kernels with one more behind them
abbrev pub with_kernel : Kernels → Kernel → Kernels
with_kernel t k = record t { kernels = t.kernels ++ k ∷ [] }

-- so many values are the inputs of this kernel
abbrev pub TakesInputs : Kernels → ℕ → ℕ → Type 0
TakesInputs t id count = (k : Kernel) → IsAt t id k → count ≡ inputs_of k

-- this kernel is the body of such a loop, and so many values are the inputs of the loop
abbrev pub TakesTurns : Kernels → ℕ → Loop → ℕ → Type 0
TakesTurns t id l count = (k : Kernel) → IsAt t id k → (k.params ≡ loop_binds l) × (count ≡ 2 + length k.slots)

-- a run of a kernel over these inputs at a nest, with so much fuel before and after, tells of the evaluation of its expression, wherever it has these inputs and whatever was kept
abbrev pub KernelRan : Kernels → ℕ → List Now → ℕ → ℕ → ℕ → Result Now KernStop → Type 0
KernelRan t id inputs nest before after r =
    (k : Kernel) (sources : List Now) (env args : Env) → IsAt t id k → AreInputs k sources env args inputs
    → (kept : Kept) → Ran r before after (eval (world_at t sources) nest k.expr (env ++ args) kept)

-- a run of a loop whose body is this kernel tells of the evaluation of its turns over these values, wherever its body has the others
abbrev pub LoopRan : Kernels → ℕ → Loop → List Now → ℕ → ℕ → ℕ → Result Now KernStop → Type 0
LoopRan t id l inputs nest before after r =
    (k : Kernel) (sources : List Now) (env : Env) → IsAt t id k → AreOthers k sources env (drop 2 inputs)
    → Ran r before after (loop_at (world_at t sources) nest l k.expr env inputs)

-- the code of a kernel: its expression, whose variables and sources became slots
abbrev pub code_of : Kernel → Core
code_of k = numbered (scheme_for k.first k.params k.expr) k.expr

-- a run of a kernel's code to so many levels tells of its evaluation over the values of its slots, those of its parameters behind the others, whatever was kept
abbrev pub CodeRan : Kernels → ℕ → List Seen → List Seen → ℕ → ℕ → ℕ → Result Now KernStop → Type 0
CodeRan t id slots args levels before after r =
    (k : Kernel) → IsAt t id k → (kept : Kept) → Ran r before after (eval_to levels (world_at t []) (code_of k) (slots ++ args) kept)

-- a run of a loop whose body is this kernel's code, which may nest so many levels, tells of the evaluation of its turns over these values, where the slots other than the parameters have those
abbrev pub CodeLooped : Kernels → ℕ → Loop → List Seen → List Seen → ℕ → ℕ → ℕ → Result Now KernStop → Type 0
CodeLooped t id l values slots levels before after r =
    (k : Kernel) → IsAt t id k → Ran r before after (loop_over l (body_with (eval_to levels (world_at t [])) slots (code_of k)) values)

-- a pure expression tells the same at two places where its kernel has the same inputs
abbrev pub EqualInputsAgree : Type 0
EqualInputsAgree =
    (p : Program) (first params : ℕ) (e : Core) (inputs sources others : List Now) (env args far more : Env) → IsPureExpr p e
    → AreInputs (kernel_for first params e) sources env args inputs → AreInputs (kernel_for first params e) others far more inputs
    → (nest : ℕ) (k other : Kept) → Agree (eval (world_of p sources) nest e (env ++ args) k) (eval (world_of p others) nest e (far ++ more) other)
