use Rattle.std.proofs.Common.{◌∙◌, sym}
use Rattle.fr_engine.proofs.Inputs.{only_first}
use Rattle.fr_engine.proofs.values.only_input.Goals as goal

pub returns-then-len-eq1 : goal.returns-then-len-eq1
returns-then-len-eq1 c = only_first c.args.inputs.now c.get.result (sym c.len.ensures ∙ c.if-len-eq1.true) c.get.ensures
