use Rattle.std.proofs.Common.{◌∙◌, ap, List, ℕ, ◌++◌, ◌∷◌, [], sym}
use Rattle.fr_show.proofs.Numbers.{all_more}
use Rattle.fr_show.proofs.shows.all_numbers.Goals as goal

pub loop-number-preserved : goal.loop-number-preserved
loop-number-preserved c =
    c.in_ok-push.ensures.items ∙ ap (λ (ns : List ℕ). ns ++ c.loop-number.number ∷ []) c.loop-number.invariant ∙ sym (all_more c.loop-number.number)
