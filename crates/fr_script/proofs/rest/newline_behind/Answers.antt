use Rattle.std.proofs.Common.{◌+◌, sym, ◌∙◌, ap}
use Rattle.std.specs.Option.{option_map}
use Rattle.std.proofs.lemmas.List.{take_rest}
use Rattle.fr_script.proofs.LineEnds.{behind, before}
use Rattle.fr_script.proofs.rest.newline_behind.Goals as goal

pub returns-in-Some-clause-value : goal.returns-in-Some-clause-value
returns-in-Some-clause-value c = ap (option_map (λ n. c.args.seen + n)) (rw take_rest at c.in-Some.ensures.value) ∙ behind c.args.seen c.args.bytes.now c.requires.clear c.requires.within

pub returns-in-Some-clause-before : goal.returns-in-Some-clause-before
returns-in-Some-clause-before c =
    before c.args.bytes.now (c.args.seen + c.in-Some.n)
    (sym (ap (option_map (λ n. c.args.seen + n)) (rw take_rest at c.in-Some.ensures.value) ∙ behind c.args.seen c.args.bytes.now c.requires.clear c.requires.within))

pub returns-in-None-clause-value : goal.returns-in-None-clause-value
returns-in-None-clause-value c = ap (option_map (λ n. c.args.seen + n)) (rw take_rest at c.in-None.ensures.value) ∙ behind c.args.seen c.args.bytes.now c.requires.clear c.requires.within
