use Rattle.std.proofs.Common.{refl, sym, ◌∙◌, ap}
use Rattle.fr_script.specs.Kinds.{is_long}
use Rattle.fr_script.proofs.Goes.{empty_goes, long_goes, many_goes, more_goes}
use Rattle.fr_script.proofs.line_reader.LineReader.pause.Goals as goal

pub returns-then-left-eq0-clause-goes : goal.returns-then-left-eq0-clause-goes
returns-then-left-eq0-clause-goes c = empty_goes c.args.self.now c.args.self.now c.requires.told c.requires.good (sym c.len-left.ensures ∙ c.if-left-eq0.true) refl

pub returns-then-is_long-clause-goes : goal.returns-then-is_long-clause-goes
returns-then-is_long-clause-goes c =
    long_goes c.args.self.now c.refuse.new.self c.refuse.result c.len-left.result c.requires.good c.requires.rest c.len-left.ensures c.if-left-eq0.false
    (ap (is_long c.args.self.now.past.bytes) (sym c.front.ensures) ∙ sym c.is_long.ensures ∙ c.if-is_long.true) c.refuse.ensures.turn c.refuse.ensures.after

pub returns-then-is_beyond-clause-goes : goal.returns-then-is_beyond-clause-goes
returns-then-is_beyond-clause-goes c =
    many_goes c.args.self.now c.refuse-then-is_beyond.new.self c.refuse-then-is_beyond.result c.len-left.result c.requires.good c.requires.rest c.len-left.ensures c.if-left-eq0.false
    (ap (is_long c.args.self.now.past.bytes) (sym c.front.ensures) ∙ sym c.is_long.ensures ∙ c.if-is_long.false) (sym c.is_beyond.ensures ∙ c.if-is_beyond.true)
    c.refuse-then-is_beyond.ensures.turn c.refuse-then-is_beyond.ensures.after

pub returns-clause-goes : goal.returns-clause-goes
returns-clause-goes c =
    more_goes c.args.self.now c.args.self.now c.len-left.result c.requires.told c.requires.good c.requires.rest c.len-left.ensures
    (ap (is_long c.args.self.now.past.bytes) (sym c.front.ensures) ∙ sym c.is_long.ensures ∙ c.if-is_long.false) (sym c.is_beyond.ensures ∙ c.if-is_beyond.false) refl
