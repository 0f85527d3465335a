-- What it is for values not to occur where kernels are run.
use Rattle.std.specs.Prelude.{◌≡◌, ℕ, false, List, [], ◌∷◌}
use Rattle.fr_meaning.specs.Words.{Seen}
use Rattle.fr_kernel.specs.Kernels.{Kernels}
use Rattle.fr_graph.specs.Graph.{kernel_run}
use Rattle.fr_way.specs.Frame.{occurs_now}

-- none of these values is an occurrence
abbrev pub Quiet : List Seen → Type 0
Quiet [] = Unit {0}
Quiet (x ∷ xs) = (occurs_now x ≡ false) × Quiet xs

-- over values of which none occurs no kernel gives an occurrence
abbrev pub KernelsCalm : Kernels → Type 0
KernelsCalm t = (n i : ℕ) (slots args : List Seen) → Quiet slots → Quiet args → occurs_now (kernel_run t n i slots args).value ≡ false
