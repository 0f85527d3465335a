use Rattle.std.proofs.Common.{sym, ap, ◌∙◌, arith}
use Rattle.fr_sources.specs.declared.sources.Sources.{Sources}
use Rattle.fr_sources.specs.Writes.{with_at, written}
use Rattle.fr_sources.proofs.Steps.{keeps_event, keeps_input, keeps_itself}
use Rattle.fr_sources.proofs.Wrote.{past_end}
use Rattle.fr_sources.proofs.sources.Sources.set.Goals as goal
use Rattle.fr_sources.proofs.sources.Sources.set.Goals.{then-is_event+in_ok-push-2, else-is_event}

pub returns-then-source-len-clause-values : goal.returns-then-source-len-clause-values
returns-then-source-len-clause-values c = sym (past_end (written c.args.value) c.args.self.now.values.items c.args.source.0 (omega (arith, c.args.self.now.values.ok.0)))

pub returns-then-source-len-clause-keeps : goal.returns-then-source-len-clause-keeps
returns-then-source-len-clause-keeps c = keeps_itself c.args.self.now

pub returns-clause-keeps : goal.returns-clause-keeps
returns-clause-keeps c = elim c.if-is_event.branch [
  | then-is_event+in_ok-push-2 w ↦ keeps_event c.args.self.now _ c.args.source c.args.value
      (omega (arith, c.args.self.now.values.ok.0))
      (c.write.ensures ∙ ap (λ (s : Sources). with_at (written c.args.value) c.args.source.0 s.values.items) w.self-is)
      (ap (λ (s : Sources). s.touched.items) w.self-is ∙ c.in_ok-push.ensures.items)
      (ap (λ (s : Sources). s.occurring.items) w.self-is ∙ w.in_ok-push-2.ensures.items)
  | else-is_event w ↦ keeps_input c.args.self.now _ c.args.source c.args.value
      (omega (arith, c.args.self.now.values.ok.0))
      (c.write.ensures ∙ ap (λ (s : Sources). with_at (written c.args.value) c.args.source.0 s.values.items) w.self-is)
      (ap (λ (s : Sources). s.touched.items) w.self-is ∙ c.in_ok-push.ensures.items)
      (ap (λ (s : Sources). s.occurring.items) w.self-is)
      (rw c.deref.ensures.value at (sym c.is_event.ensures ∙ w.if-is_event.false))
]
