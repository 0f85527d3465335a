use Rattle.std.proofs.Common.{◌∙◌, refl}
use Rattle.fr_expand.proofs.Among.{any_among}
use Rattle.fr_expand.proofs.name_set.NameSet.has.Goals as goal

pub returns : goal.returns
returns c = c.contains.ensures ∙ any_among c.as_str.result c.self.inside.names.keys ∙ rw (c.as_str.ensures, c.self.view_is) refl
