use Rattle.std.proofs.Common.{[]}
use Rattle.fr_way.proofs.Lives.{placed_lives, shown_lives}
use Rattle.fr_way.proofs.looping.what_is_shown_lives.Goals as goal

pub returns-clause-placed : goal.returns-clause-placed
returns-clause-placed c = λ g p x n. placed_lives g p x n

pub returns-clause-shown : goal.returns-clause-shown
returns-clause-shown c = λ g p is ms. shown_lives g p 0 2000 is [] ms (λ j rd. absurd rd)
