use Rattle.fr_prims.proofs.Limits.{car_first}
use Rattle.fr_prims.proofs.lists.first_item.Goals as goal

pub returns : goal.returns
returns c = rw (car_first c.args.list.now c.in-Some.first.now c.in-Some.ensures) c.shared.ensures
