use Rattle.std.proofs.Common.{subst}
use Rattle.std.specs.Result.{IfOk}
use Rattle.std.proofs.Common.{◌≡◌}
use Rattle.fr_prims.proofs.Limits.{item_found}
use Rattle.fr_prims.proofs.lists.item_from.Goals as goal

pub returns-in-Some : goal.returns-in-Some
returns-in-Some c = subst (λ a. IfOk c.shared.result (λ r. r ≡ a)) (item_found c.in-Some.item.now _ c.in-Some.ensures) c.shared.ensures
