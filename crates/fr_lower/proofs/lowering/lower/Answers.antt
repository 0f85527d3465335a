use Rattle.std.proofs.Common.{Some}
use Rattle.fr_kernel.specs.Erasure.{AllFit, CollapsesRegions}
use Rattle.fr_lower.specs.Making.{HasSoundKernels}
use Rattle.fr_lower.specs.Tops.{IsLowered}
use Rattle.fr_lower.proofs.Added.{if_ok}
use Rattle.fr_lower.proofs.Whole.{all_fit, collapses_regions}
use Rattle.fr_lower.proofs.lowering.lower.Goals as goal

pub returns-clause-kernels : goal.returns-clause-kernels
returns-clause-kernels c =
    if_ok (λ r. IsLowered c.args.program.now (Some c.args.classes.now) r.0 r.1) (λ r. AllFit r.1.kernels r.0) c.lowered_with.result (λ r h. all_fit c.args.program.now (Some c.args.classes.now) r.0 r.1 h) c.lowered_with.ensures

pub returns-clause-regions : goal.returns-clause-regions
returns-clause-regions c =
    if_ok (λ r. IsLowered c.args.program.now (Some c.args.classes.now) r.0 r.1) (λ r. CollapsesRegions c.args.program.now r.1.kernels r.0) c.lowered_with.result
    (λ r h. collapses_regions c.args.program.now c.args.classes.now r.0 r.1 c.requires.classes h) c.lowered_with.ensures

pub returns-clause-sound : goal.returns-clause-sound
returns-clause-sound c = if_ok (λ r. IsLowered c.args.program.now (Some c.args.classes.now) r.0 r.1) (λ r. HasSoundKernels r.1) c.lowered_with.result (λ r h. h.sound) c.lowered_with.ensures
