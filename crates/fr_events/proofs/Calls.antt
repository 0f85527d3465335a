-- What a run of a kernel's code, or of a loop over it, tells of a work's line.
use Rattle.std.proofs.Common.{◌≡◌, ◌<◌, ◌+◌, ℕ, zero, suc, add-one, List, [], ◌∷◌, length, drop, slice_get, refl, sym, ap, subst, arith, Option, Some, None, Result}
use Rattle.fr_value.specs.declared.now.Now.{Now}
use Rattle.fr_core.specs.declared.core_form.Loop.{Loop}
use Rattle.fr_core.specs.declared.kept.Kept.TheVariants as kept
use Rattle.fr_meaning.specs.Words.{Seen, part}
use Rattle.fr_meaning.specs.Cells.{Cell}
use Rattle.fr_meaning.specs.Evaluation.{Turns, ended, all_turns, rounds}
use Rattle.fr_kernel.specs.declared.fuel.KernStop.{KernStop}
use Rattle.fr_kernel.specs.Answers.{Ran}
use Rattle.fr_kernel.specs.Kernels.{Kernel, Kernels}
use Rattle.fr_kernel.specs.Runs.{CodeRan, CodeLooped}
use Rattle.fr_graph.specs.Graph.{loops, runs, run_of, kernel_run, work_line}
use Rattle.fr_events.specs.declared.lines.Stepped.{Stepped}
use Rattle.fr_events.specs.Steps.{StepRan}
use Rattle.fr_events.proofs.Outcomes.{Alone, done_told, turns_told}

inside : {X : Type 0} (xs : List X) (i : ℕ) → i < length xs → slice_get xs i ≡ None → ⊥
inside [] i h e = absurd (omega (arith, h))
inside (x ∷ xs) zero h e = cc
inside (x ∷ xs) (suc i) h e = inside xs i (omega (arith, h)) e

module _ (t : Kernels) (id : ℕ) (within : id < length t.kernels) (run : Result Now KernStop) (before after n : ℕ) where
  pub code_ran : (slots args : List Seen) → CodeRan t id slots args n before after run → Ran run before after (kernel_run t n id slots args)
  code_ran slots args h = by_kernel (slice_get t.kernels id) refl
    where
      by_kernel : (o : Option Kernel) → slice_get t.kernels id ≡ o → Ran run before after (run_of t n o slots args)
      by_kernel None e = absurd (inside t.kernels id within e)
      by_kernel (Some k) e = h k e kept.Nothing

  abbrev turns_of : Loop → List Seen → Option Kernel → Turns
  turns_of l xs o = all_turns (run_of t n o (drop 2 xs)) (part xs 0) (rounds l (part xs 1))

  loop_ran : (l : Loop) (xs slots : List Seen) → slots ≡ drop 2 xs → CodeLooped t id l xs slots n before after run
      → let ts = turns_of l xs (slice_get t.kernels id) in Ran run before after (ended ts.value kept.Nothing ts.cost ts.first)
  loop_ran l xs slots same h = by_kernel (slice_get t.kernels id) refl
    where
      by_kernel : (o : Option Kernel) → slice_get t.kernels id ≡ o → let ts = turns_of l xs o in Ran run before after (ended ts.value kept.Nothing ts.cost ts.first)
      by_kernel None e = absurd (inside t.kernels id within e)
      by_kernel (Some k) e = subst (λ ss. CodeLooped t id l xs ss n before after run) same h k e

  pub loop_told : (r : Result Stepped KernStop) (l : Loop) (c : Option Cell) (xs slots : List Seen) → Alone r run → slots ≡ drop 2 xs → CodeLooped t id l xs slots n before after run
      → StepRan r before after (work_line t n (loops l id) c xs)
  loop_told r l c xs slots alone same h = turns_told r run before after (turns_of l xs (slice_get t.kernels id)) kept.Nothing alone (loop_ran l xs slots same h)

  pub kernel_told : (r : Result Stepped KernStop) (m : ℕ) (c : Option Cell) (xs : List Seen) → n ≡ m + 1 → Alone r run → Ran run before after (kernel_run t n id xs [])
      → StepRan r before after (work_line t m (runs id) c xs)
  kernel_told r m c xs more alone h =
      let more' : n ≡ suc m = omega (arith, more) in
      done_told r run before after (kernel_run t (suc m) id xs []) alone (subst (λ j. Ran run before after (kernel_run t j id xs [])) more' h)
