use Rattle.fr_meaning.specs.Afresh.{instant}
use Rattle.fr_runtime.proofs.Ends.{ok_map, err_map}
use Rattle.fr_runtime.proofs.evaluator.GraphEvaluatorEvaluator.instant.Goals as goal

pub advance-requires-clause-stands : goal.advance-requires-clause-stands
advance-requires-clause-stands g c = (c.args.self.program.now, (c.requires.stands.0, c.requires.stands.1.state))

pub stand_behind-requires : goal.stand_behind-requires
stand_behind-requires g c =
    let s = c.requires.stands.0 in
    (instant c.args.self.program.now s c.args.inputs.now, c.in-Ok.ensures.ok c.args.self.program.now s c.requires.stands.1.state)

pub returns-in-Ok-clause-ok : goal.returns-in-Ok-clause-ok
returns-in-Ok-clause-ok g c =
    ok_map c.stand_behind.result _ _ (λ e h s st. h (instant c.args.self.program.now s c.args.inputs.now) (c.in-Ok.ensures.ok c.args.self.program.now s st.state)) c.stand_behind.ensures.behind

pub returns-in-Ok-clause-changed : goal.returns-in-Ok-clause-changed
returns-in-Ok-clause-changed g c = ok_map c.stand_behind.result _ _ (λ e h. h c.args.self.shown.items) c.stand_behind.ensures.changed

pub returns-in-Ok-clause-err : goal.returns-in-Ok-clause-err
returns-in-Ok-clause-err g c = err_map c.stand_behind.result _ _ (λ stop h s st. h (instant c.args.self.program.now s c.args.inputs.now)) c.stand_behind.ensures.memory
