use Rattle.std.proofs.Common.{◌≡◌, ◌++◌, drop}
use Rattle.fr_show.specs.Output.{shows_of}
use Rattle.fr_show.proofs.shows.shows_in.Given as goal

abbrev pub invariant-loop-item : goal.invariant-loop-item
invariant-loop-item l = l.shows.items ++ shows_of (drop l.item-index l.items) ≡ shows_of l.items
