use Rattle.std.proofs.Common.{◌==◌, ◌∙◌}
use Rattle.std.proofs.lemmas.List.Filters.{dedup_is}
use Rattle.fr_kernel.proofs.InOrder.{in_order_from}
use Rattle.fr_kernel.proofs.naming.in_order.Goals as goal

pub returns : goal.returns
returns c =
    c.from_vec.ensures ∙ dedup_is (λ a b. a == b) _ _ c.dedup.ensures.filtered
    ∙ in_order_from c.args.numbers.items c.sort_unstable.new.self.items c.sort_unstable.ensures.permutation c.sort_unstable.ensures.sorted
