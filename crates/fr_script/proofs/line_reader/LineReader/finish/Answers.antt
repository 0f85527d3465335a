use Rattle.std.proofs.Common.{sym, ◌∙◌, ap, arith}
use Rattle.std.proofs.lemmas.Result.{IfOk-weaker}
use Rattle.fr_script.proofs.Goes.{finish_steps, take_steps, end_goes, with_past, without_last}
use Rattle.fr_script.proofs.Settles.{finish_passes, empty_passes}
use Rattle.fr_script.proofs.line_reader.LineReader.finish.Goals as goal

pub returns-then-n-gt0-clause-ok : goal.returns-then-n-gt0-clause-ok
returns-then-n-gt0-clause-ok c =
    IfOk-weaker c.take_line.result _ _
    (λ t h. finish_steps c.args.self.now c.take_line.new.self c.len-n.result t c.requires.told c.requires.good c.requires.rest c.len-n.ensures c.if-n-gt0.true h.0 h.1)
    c.take_line.ensures.ok

pub returns-in-Some-clause-ok : goal.returns-in-Some-clause-ok
returns-in-Some-clause-ok c =
    take_steps c.args.self.now c.in-Some.last (with_past c.args.self.now c.take.new.self) c.requires.told c.requires.good (omega (arith, c.len-n.ensures, c.if-n-gt0.false))
    (sym c.in-Some.ensures.value) (ap (with_past c.args.self.now) c.take.ensures.rest)

pub returns-in-None-clause-ok : goal.returns-in-None-clause-ok
returns-in-None-clause-ok c =
    end_goes c.args.self.now (with_past c.args.self.now c.take.new.self) c.requires.told c.requires.good (omega (arith, c.len-n.ensures, c.if-n-gt0.false))
    (sym c.in-None.ensures.value) (ap (with_past c.args.self.now) (c.take.ensures.rest ∙ without_last c.args.self.now.past (sym c.in-None.ensures.value)))

pub returns-then-n-gt0-clause-passes : goal.returns-then-n-gt0-clause-passes
returns-then-n-gt0-clause-passes c =
    IfOk-weaker c.take_line.result _ _
    (λ t h. finish_passes c.args.self.now c.take_line.new.self c.len-n.result t c.requires.told c.requires.good c.requires.rest c.len-n.ensures c.if-n-gt0.true h.0 h.1)
    c.take_line.ensures.ok

pub returns-in-Some-clause-passes : goal.returns-in-Some-clause-passes
returns-in-Some-clause-passes c = empty_passes c.args.self.now c.requires.good c.requires.rest (omega (arith, c.len-n.ensures, c.if-n-gt0.false))

pub returns-in-None-clause-passes : goal.returns-in-None-clause-passes
returns-in-None-clause-passes c = empty_passes c.args.self.now c.requires.good c.requires.rest (omega (arith, c.len-n.ensures, c.if-n-gt0.false))
