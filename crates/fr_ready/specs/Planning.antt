-- What is known of a lowered program, and what building and the laws of graphs take of it.
use Rattle.std.specs.Prelude.{◌≡◌, ℕ, ◌+◌, List, [], ◌∷◌, length}
use Rattle.fr_core.specs.declared.lowered.LowItem.{LowItem}
use Rattle.fr_core.specs.declared.lowered.LowItem.TheVariants as low_item
use Rattle.fr_core.specs.declared.lowered.Lowered.{Lowered}
use Rattle.fr_core.specs.declared.program.Program.{Program}
use Rattle.fr_core.specs.Sites.{HasSitesOnce}
use Rattle.fr_kernel.specs.Kernels.{Kernels}
use Rattle.fr_kernel.specs.Erasure.{erased, AllFit}
use Rattle.fr_lower.specs.Making.{HasSoundKernels}
use Rattle.fr_ready.specs.Ready.{Planned, IsReady}

-- what lowering tells of what it gives: a lowered program and its kernels
pub record IsLoweredFrom (p : Program) (l : Lowered) (t : Kernels) : Type 0 where
  pub erasure : erased t.kernels l ≡ p
  pub functions : t.functions ≡ p.functions
  pub fits : AllFit t.kernels l
  pub sound : HasSoundKernels t
  pub sites : HasSitesOnce l

-- the number of sources, `now` among them
abbrev pub many_sources : Lowered → ℕ
many_sources l = length l.inputs + length l.events + 1

-- what building goes by of a lowered program with its kernels
abbrev pub planned_of : Lowered → Kernels → Planned
planned_of l t = record { functions = l.functions; table = t; sources = many_sources l }

-- items can be built one after the other, where so many variables are in scope before the first
abbrev pub ItemsReady : Planned → ℕ → List LowItem → Type 0
ItemsReady planned n [] = Unit {0}
ItemsReady planned n (low_item.Define e ∷ is) = IsReady planned n e × ItemsReady planned (n + 1) is
ItemsReady planned n (low_item.Show name e ∷ is) = IsReady planned n e × ItemsReady planned n is
