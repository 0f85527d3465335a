use Rattle.fr_expand.proofs.Values.{ok_follows, named_more, value_added}
use Rattle.fr_expand.proofs.earlier.EarlierNames.add.Goals as goal

pub returns-in_ok-add-in-Define-clause-added : goal.returns-in_ok-add-in-Define-clause-added
returns-in_ok-add-in-Define-clause-added c =
    ok_follows c.push.result (value_added c.args.self.now c.add.new.self c.push.new.self c.args.form.now c.in-Define.name c.in-Define.field-1 c.in-Define.is c.in_ok-add-in-Define.ensures) c.push.ensures.pushed

pub returns-in_ok-add-in-Define-clause-named : goal.returns-in_ok-add-in-Define-clause-named
returns-in_ok-add-in-Define-clause-named c = ok_follows c.push.result (λ h. rw h (named_more c.args.self.now.values c.in-Define.name c.requires.named)) c.push.ensures.pushed
