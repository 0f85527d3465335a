use Rattle.fr_lower.proofs.Added.{added_kernel, added_grows}
use Rattle.fr_lower.proofs.making.add_kernel.Goals as goal

pub returns-clause-kernel : goal.returns-clause-kernel
returns-clause-kernel c = added_kernel c.args.made.now.table c.add.new.self c.args.first c.args.params c.args.expr.now c.add.result c.add.ensures.number c.add.ensures.slots c.add.ensures.appended

pub returns-clause-grows : goal.returns-clause-grows
returns-clause-grows c = added_grows c.args.made.now c.add.new.self c.args.first c.args.params c.args.expr.now c.add.result c.requires c.add.ensures.appended
