use Rattle.std.proofs.Common.{◌≡◌, ◌++◌, drop, map}
use Rattle.std.specs.List.{flat_map}
use Rattle.fr_show.specs.Shows.{text_at, plain_text, value_at}
use Rattle.fr_show.proofs.shows.print_shows.Given as goal

abbrev pub invariant-loop-number : goal.invariant-loop-number
invariant-loop-number l = record {
  bytes : l.printed.bytes.items ++ flat_map (text_at l.time l.shows l.values) (drop l.number-index l.numbers) ≡ flat_map (text_at l.time l.shows l.values) l.numbers;
  texts : l.printed.texts.items ++ map (λ n. plain_text (value_at l.values n)) (drop l.number-index l.numbers) ≡ map (λ n. plain_text (value_at l.values n)) l.numbers;
}
