use Rattle.fr_core.proofs.Found.{found_right}
use Rattle.fr_core.proofs.lowered.Lowered.site.Goals as goal

pub returns-in-None : goal.returns-in-None
returns-in-None c = found_right c.args.site _ _ _ (rw c.as_slice.ensures at c.in-None.ensures) (rw c.as_slice-in-None.ensures at c.site_in_items.ensures)
