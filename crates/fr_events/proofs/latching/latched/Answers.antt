use Rattle.std.proofs.Common.{◌≡◌, ap, subst, ◌∙◌, Ok}
use Rattle.fr_value.specs.declared.now.Now.{Now}
use Rattle.fr_graph.specs.Known.{latch}
use Rattle.fr_events.specs.Steps.{Latched}
use Rattle.fr_events.proofs.latching.latched.Goals as goal

pub returns-in-Ok : goal.returns-in-Ok
returns-in-Ok c = λ w e. subst (λ (n : Now). Latched c.latched_by.result (latch w (Ok n))) c.in-Ok.ensures (c.latched_by.ensures w (c.work_of.ensures ∙ e))
