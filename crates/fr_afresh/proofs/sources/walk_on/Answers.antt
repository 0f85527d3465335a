use Rattle.std.proofs.Common.{sym, ◌∙◌}
use Rattle.fr_afresh.proofs.Walks.{input_behind, event_behind, input_step, event_step}
use Rattle.fr_afresh.proofs.sources.walk_on.Goals as goal

pub returns-in_ok-now-clause-behind : goal.returns-in_ok-now-clause-behind
returns-in_ok-now-clause-behind c = input_behind c.args.inputs.now c.args.next c.args.before (sym c.is_source.ensures.value ∙ c.if-is_source.true) c.requires.behind

pub returns-in_ok-now-clause-left : goal.returns-in_ok-now-clause-left
returns-in_ok-now-clause-left c = input_step c.args.inputs.now c.args.values.now c.args.sets.now c.args.next c.args.before c.in_ok-now.now (sym c.is_source.ensures.value ∙ c.if-is_source.true) c.in_ok-now.ensures

pub returns-in_ok-now-2-clause-behind : goal.returns-in_ok-now-2-clause-behind
returns-in_ok-now-2-clause-behind c = event_behind c.args.inputs.now c.args.next c.args.before (sym c.is_source.ensures.value ∙ c.if-is_source.false) c.requires.behind

pub returns-in_ok-now-2-clause-left : goal.returns-in_ok-now-2-clause-left
returns-in_ok-now-2-clause-left c = event_step c.args.inputs.now c.args.values.now c.args.sets.now c.args.next c.args.before c.in_ok-now-2.now (sym c.is_source.ensures.value ∙ c.if-is_source.false) c.requires.behind c.in_ok-now-2.ensures
