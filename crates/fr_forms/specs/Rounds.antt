-- What is left of the rounds of a loop.
use Rattle.std.specs.Prelude.{ℕ, ◌+◌, ◌-◌, List, [], ◌∷◌, ◌++◌, map, length, take, drop, replicate}
use Rattle.fr_value.specs.declared.value.Datum.{Datum}
use Rattle.fr_value.specs.declared.value.Value.{Value}
use Rattle.fr_value.specs.Data.{data_of, value_of}
use Rattle.fr_meaning.specs.Words.{Seen, plain}
use Rattle.fr_forms.specs.declared.rounds.Rounds.{Rounds}
use Rattle.fr_forms.specs.declared.rounds.Rounds.TheVariants as rounds

-- the items of a list from number n on, where these are at hand
abbrev pub ahead : List Datum → ℕ → List Value → List Datum
ahead ds n at_hand = data_of at_hand ++ drop (n + length at_hand) ds

-- what is bound beside the accumulator in a round over an item
abbrev pub on_item : Datum → List Seen
on_item d = plain (value_of d) ∷ []

-- what is bound beside the accumulator in each round that is left
abbrev pub rounds_left : Rounds → List (List Seen)
rounds_left (rounds.Over number at_hand items) = map on_item (take (length items.now - number) (ahead items.now number at_hand.now))
rounds_left (rounds.Times number count) = replicate (count - number) []

-- the number of the next round
abbrev pub number_of : Rounds → ℕ
number_of (rounds.Over number at_hand items) = number
number_of (rounds.Times number count) = number
