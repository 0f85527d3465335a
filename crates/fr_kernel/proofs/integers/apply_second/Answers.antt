use Rattle.std.proofs.lemmas.Int.{to_z-of_z}
use mir.Syntax.{w64}
use Rattle.fr_kernel.proofs.Operands.{pair_then}
use Rattle.fr_kernel.proofs.integers.apply_second.Goals as goal

pub returns : goal.returns
returns c = λ start d h. pair_then c.args.kind c.apply_held.result start c.args.m.now c.value_of.new.m c.push_two.new.m c.apply_held.new.m c.args.prim c.args.x c.in-Some.second d h c.in-Some.ensures
    (rw (to_z-of_z w64 c.args.x c.ranges.x) at c.if-not-push_two.ensures) (rw c.len-from.ensures at c.apply_held.ensures)
