use Rattle.std.proofs.Common.{refl, sym, ap, length, arith}
use Rattle.std.proofs.lemmas.Result.{IfOk-weaker}
use Rattle.fr_script.proofs.LineEnds.{end_within}
use Rattle.fr_script.proofs.Goes.{again_goes, full_steps_at}
use Rattle.fr_script.proofs.Settles.{met_passes, line_passes_at}
use Rattle.fr_script.proofs.line_reader.LineReader.step.Goals as goal

pub returns-in-Some-clause-ok : goal.returns-in-Some-clause-ok
returns-in-Some-clause-ok c = again_goes c.args.self.now c.args.self.now c.in-Some.line c.in-Some.kind c.in-Some.is refl

pub take_line-requires-clause-line : goal.take_line-requires-clause-line
take_line-requires-clause-line c =
    omega (arith, end_within c.args.self.now.rest c.in-Some-line_end.n (sym c.in-Some-line_end.ensures.value), ap length c.line_end.ensures.same)

pub take_line-requires-clause-within : goal.take_line-requires-clause-within
take_line-requires-clause-within c =
    omega (arith, end_within c.args.self.now.rest c.in-Some-line_end.n (sym c.in-Some-line_end.ensures.value), ap length c.line_end.ensures.same)

pub returns-in-Some-line_end-clause-ok : goal.returns-in-Some-line_end-clause-ok
returns-in-Some-line_end-clause-ok c =
    IfOk-weaker c.take_line.result _ _
    (λ t h. full_steps_at c.args.self.now c.line_end.new.self c.take_line.new.self c.in-Some-line_end.n t c.line_end.ensures.same c.in_default.is (sym c.in-Some-line_end.ensures.value)
    (end_within c.args.self.now.rest c.in-Some-line_end.n (sym c.in-Some-line_end.ensures.value)) h.0 h.1)
    c.take_line.ensures.ok

pub returns-in-Some-clause-passes : goal.returns-in-Some-clause-passes
returns-in-Some-clause-passes c = met_passes c.args.self.now (c.in-Some.line, c.in-Some.kind) c.in-Some.is

pub returns-in-Some-line_end-clause-passes : goal.returns-in-Some-line_end-clause-passes
returns-in-Some-line_end-clause-passes c =
    IfOk-weaker c.take_line.result _ _
    (λ t h. line_passes_at c.args.self.now c.line_end.new.self c.take_line.new.self c.in-Some-line_end.n t c.line_end.ensures.same c.in_default.is (sym c.in-Some-line_end.ensures.value) h.0 h.1)
    c.take_line.ensures.ok
