use Rattle.std.proofs.Common.{sym, ◌∙◌, ap}
use Rattle.fr_syntax.specs.Outlines.{head_symbol}
use Rattle.fr_syntax.proofs.Firsts.{first_symbol}
use Rattle.fr_syntax.proofs.outlines.head_symbol.Goals as goal

pub returns-in-Some : goal.returns-in-Some
returns-in-Some c = c.symbol_of.ensures ∙ first_symbol c.in-List.list c.in-Some.head.now c.in-Some.ensures ∙ ap head_symbol (sym c.in-List.is)
