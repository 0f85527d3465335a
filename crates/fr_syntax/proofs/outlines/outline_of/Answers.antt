use Rattle.std.proofs.Common.{sym, ◌∙◌, ap}
use Rattle.fr_syntax.specs.Outlines.{given, outline_of}
use Rattle.fr_syntax.proofs.Firsts.{first_two}
use Rattle.fr_syntax.proofs.outlines.outline_of.Goals as goal

pub returns-in-Some-Some : goal.returns-in-Some-Some
returns-in-Some-Some c =
    let w = c.in-Some-Some in
    c.given.ensures ∙ (ap (λ k. given k w.second.now) c.keyword_of.ensures) ∙ first_two c.in-List.list w.head.now w.second.now w.ensures w.ensures' ∙ ap outline_of (sym c.in-List.is)
