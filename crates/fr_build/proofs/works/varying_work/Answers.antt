use Rattle.fr_build.proofs.Made.{builds_untied, builds_tied}
use Rattle.fr_build.proofs.works.varying_work.Goals as goal

pub returns-in_default-clause-builds : goal.returns-in_default-clause-builds
returns-in_default-clause-builds g c = λ sites w e.
    builds_untied (g.N.Nodes.way c.args.nodes.now sites) (g.N.Nodes.way c.make.new.self sites) sites c.in_ok-id.id.0 c.args.setting.now.era.0 c.args.setting.now.below c.args.kind w c.args.inputs.now
    c.requires.below e (c.requires.taken sites) (c.requires.there sites) (c.in_ok-id.ensures.makes sites) c.args.last c.in_default.is

pub returns-clause-builds : goal.returns-clause-builds
returns-clause-builds g c = λ sites w e.
    builds_tied (g.N.Nodes.way c.args.nodes.now sites) (g.N.Nodes.way c.make.new.self sites) sites c.in_ok-id.id.0 c.args.setting.now.era.0 c.args.setting.now.below c.args.kind w c.args.inputs.now
    c.requires.below e (c.requires.taken sites) (c.requires.there sites) (c.in_ok-id.ensures.makes sites) (g.N.Nodes.way c.tie.new.self sites) c.args.last c.in-Some.last c.in_ok-share_held.field-0
    c.in-Some.is c.in_ok-share_held.ensures (c.requires.behind sites) (c.tie.ensures.ties sites)
