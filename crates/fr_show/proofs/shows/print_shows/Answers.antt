use Rattle.std.proofs.Common.{arith}
use Rattle.fr_show.specs.Shows.{text_at, plain_text, value_at}
use Rattle.fr_show.proofs.Numbers.{number_within, joined_more, mapped_more}
use Rattle.fr_show.proofs.shows.print_shows.Goals as goal

pub print_show-requires-clause-within : goal.print_show-requires-clause-within
print_show-requires-clause-within c = number_within 0 _ c.loop-number.number-index 0 c.args.numbers.now c.requires.rising (omega arith)

pub loop-number-preserved : goal.loop-number-preserved
loop-number-preserved c =
    let ns = c.args.numbers.now in
    let i = c.loop-number.number-index in
    record {
      bytes = joined_more (text_at c.args.time c.args.shows.now c.args.values.now) c.loop-number.printed.bytes.items _ ns i (omega arith) c.in_ok-print_show.ensures.bytes c.loop-number.invariant.bytes;
      texts = mapped_more (λ n. plain_text (value_at c.args.values.now n)) c.loop-number.printed.texts.items _ ns i (omega arith) c.in_ok-print_show.ensures.texts c.loop-number.invariant.texts;
    }
