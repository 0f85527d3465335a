use Rattle.std.proofs.Common.{length, arith}
use Rattle.fr_show.proofs.Numbers.{number_within}
use Rattle.fr_show.proofs.shows.keep_each.Goals as goal

pub keep_at-requires : goal.keep_at-requires
keep_at-requires c =
    let below = number_within 0 (length c.args.shows.now) c.loop-at.at 0 c.args.numbers.now c.requires.rising (omega arith) in
    record { within = omega arith }
