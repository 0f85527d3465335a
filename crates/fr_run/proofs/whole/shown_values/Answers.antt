use Rattle.std.proofs.Common.{◌∙◌, ap, List, ◌∷◌, [], ◌++◌}
use Rattle.fr_value.specs.declared.now.Now.{Now}
use Rattle.fr_afresh.specs.Stands.{shown_of}
use Rattle.fr_run.proofs.Each.{one_more}
use Rattle.fr_run.proofs.whole.shown_values.Goals as goal

pub loop-show-preserved : goal.loop-show-preserved
loop-show-preserved c =
    c.in_ok-push.ensures.items ∙ ap (λ (vs : List Now). vs ++ c.in_ok-shown.field-0 ∷ []) c.loop-show.invariant
    ∙ one_more (shown_of c.args.afresh.now) c.loop-show.show c.in_ok-shown.field-0 c.in_ok-shown.ensures
