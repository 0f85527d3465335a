use Rattle.fr_expand.proofs.Among.{one_more}
use Rattle.fr_expand.proofs.name_set.NameSet.add.Goals as goal

pub returns : goal.returns
returns c = one_more c.self.inside.names.keys c.insert.new.self.keys c.as_str.result c.args.self.now c.args.name.now c.as_str.ensures c.self.view_is c.requires c.in_ok-insert.ensures.keys
