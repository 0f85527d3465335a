use Rattle.std.proofs.Common.{◌≡◌, drop}
use Rattle.fr_show.specs.Shows.{kept_at}
use Rattle.fr_show.proofs.shows.keep_each.Given as goal

abbrev pub invariant-loop-at : goal.invariant-loop-at
invariant-loop-at l = kept_at l.shows (drop l.at l.numbers) (drop l.at l.texts) ≡ kept_at l.fn.shows l.fn.numbers l.fn.texts
