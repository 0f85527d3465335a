use Rattle.std.proofs.Common.{refl}
use Rattle.fr_value.proofs.Runs.{run_items}
use Rattle.fr_value.proofs.slices.run_of.Goals as goal

pub returns : goal.returns
returns c = run_items c.args.items.now c.args.at c.index-items-at.result _ c.requires c.index-items-at.is refl
