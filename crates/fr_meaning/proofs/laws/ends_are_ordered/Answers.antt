use Rattle.fr_meaning.proofs.Order.{never_itself, transitive, total_order, part_before}
use Rattle.fr_meaning.proofs.laws.ends_are_ordered.Goals as goal

pub returns : goal.returns
returns c = record { never_itself = never_itself; transitive = transitive; total = total_order; parts_first = part_before }
