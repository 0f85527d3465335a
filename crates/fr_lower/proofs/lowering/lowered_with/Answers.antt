use Rattle.std.proofs.Common.{ap, sym, subst, ◌∙◌}
use Rattle.fr_kernel.specs.Kernels.{Kernels}
use Rattle.fr_lower.specs.Making.{given, HasSoundKernels}
use Rattle.fr_lower.proofs.Added.{sound_none}
use Rattle.fr_lower.proofs.Whole.{lowered_whole}
use Rattle.fr_lower.proofs.lowering.lowered_with.Goals as goal

pub returns : goal.returns
returns c =
    lowered_whole c.args.program.now (given c.args.classes) (record { table = c.in_ok-new.field-0; sites = 0 }) c.lowered_functions.new.made c.lowered_items.new.made _ (ap (λ (t : Kernels). t.functions) c.in_ok-new.ensures) (subst HasSoundKernels (sym c.in_ok-new.ensures) (sound_none c.args.program.now.functions))
    (c.in_ok-inputs.ensures ∙ c.as_slice.ensures) (c.in_ok-events.ensures ∙ c.as_slice-2.ensures) c.in_ok-functions.ensures c.in_ok-body.ensures
