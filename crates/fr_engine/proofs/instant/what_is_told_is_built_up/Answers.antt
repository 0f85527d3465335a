use Rattle.fr_engine.proofs.Built.{built_up}
use Rattle.fr_engine.proofs.instant.what_is_told_is_built_up.Goals as goal

pub returns : goal.returns
returns g c = λ is ms old told.
    let s = g.C.Choices.sites c.args.choices.now in
    built_up (g.C.Choices.can c.args.choices.now) (g.C.Choices.plan c.args.choices.now) (g.C.Choices.many c.args.choices.now) is ms old (g.N.Nodes.way c.args.nodes.now s) c.args.late.now told
