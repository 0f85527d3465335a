-- What the code has of the kernels of a program.
use Rattle.std.specs.Prelude.{◌≡◌, List, [], ◌∷◌}
use Rattle.fr_core.specs.declared.core_form.Core.{Core}
use Rattle.fr_core.specs.declared.program.Function.{Function}
use Rattle.fr_kernel.specs.declared.table.Kern.{Kern}
use Rattle.fr_kernel.specs.Kernels.{Kernel}
use Rattle.fr_kernel.specs.Numbers.{numbered, restored}
use Rattle.fr_kernel.specs.Placed.{scheme_of, scheme_for}
use Rattle.fr_kernel.specs.Purity.{IsPureOver}
use Rattle.fr_kernel.specs.Slots.{slots_for}

-- the expression that a kernel was made from
abbrev pub expr_of : Kern → Core
expr_of k = restored (scheme_of k.names) k.code

-- a kernel as contracts see it
abbrev pub kernel_of : Kern → Kernel
kernel_of k = record { expr = expr_of k; first = k.names.first; params = k.names.params; slots = slots_for k.names.outer k.names.sources }

-- a kernel is that of a pure expression: its code is that expression over its slots, which are those that the expression needs
pub record IsKernel (fs : List Function) (k : Kern) : Type 0 where
  pub code : k.code ≡ numbered (scheme_of k.names) (expr_of k)
  pub names : scheme_of k.names ≡ scheme_for k.names.first k.names.params (expr_of k)
  pub pure : IsPureOver fs (expr_of k)

-- each of these is
abbrev pub AreKernels : List Function → List Kern → Type 0
AreKernels fs [] = Unit {0}
AreKernels fs (k ∷ ks) = IsKernel fs k × AreKernels fs ks
