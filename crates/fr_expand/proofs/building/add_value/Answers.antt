use Rattle.std.proofs.Common.{◌∙◌, ap, sym}
use Rattle.fr_expand.specs.Shaped.{names_in}
use Rattle.fr_expand.specs.Items.{values_behind}
use Rattle.fr_expand.proofs.Values.{ok_follows, names_more, named_more}
use Rattle.fr_expand.proofs.building.add_value.Goals as goal

pub returns-in-Define-clause-added : goal.returns-in-Define-clause-added
returns-in-Define-clause-added c =
    ok_follows c.push.result (λ h. ap names_in h ∙ names_more c.args.values.now c.in-Define.name ∙ ap (values_behind (names_in c.args.values.now)) (sym c.in-Define.is)) c.push.ensures.pushed

pub returns-in-Define-clause-named : goal.returns-in-Define-clause-named
returns-in-Define-clause-named c = ok_follows c.push.result (λ h. rw h (named_more c.args.values.now c.in-Define.name c.requires.named)) c.push.ensures.pushed
