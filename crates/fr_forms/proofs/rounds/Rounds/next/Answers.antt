use Rattle.std.proofs.Common.{◌≡◌, ◌∷◌, ◌+◌, ◌-◌, ◌<◌, ℕ, List, [], suc, refl, length, map, take, replicate, arith}
use Rattle.fr_value.specs.Data.{datum_of, value_of-datum_of}
use Rattle.fr_value.specs.declared.value.Datum.{Datum}
use Rattle.fr_value.specs.declared.value.Value.{Value}
use Rattle.fr_meaning.specs.Words.{Seen, plain}
use Rattle.fr_forms.specs.Rounds.{ahead, on_item}
use Rattle.fr_forms.proofs.rounds.Rounds.next.Goals as goal

one_item : (ds : List Datum) (n : ℕ) (h rest : List Value) (v : Value) → n < length ds → ahead ds n h ≡ datum_of v ∷ ahead ds (n + 1) rest
    → map on_item (take (length ds - n) (ahead ds n h)) ≡ (plain v ∷ []) ∷ map on_item (take (length ds - (n + 1)) (ahead ds (n + 1) rest))
one_item ds n h rest v within e =
    let left : length ds - n ≡ suc (length ds - (n + 1)) = omega arith in
    rw (left, e, value_of-datum_of v) refl

one_more : (n count : ℕ) → n < count → replicate {A = List Seen} (count - n) [] ≡ [] ∷ replicate (count - (n + 1)) []
one_more n count h =
    let left : count - n ≡ suc (count - (n + 1)) = omega arith in
    rw left refl

pub returns-else-number-len : goal.returns-else-number-len
returns-else-number-len c =
    let within : c.in-Over.number < length c.in-Over.list.now = omega arith in
    rw c.in-Over.is (one_item c.in-Over.list.now c.in-Over.number c.in-Over.at_hand.now c.item_of.result.1.now c.item_of.result.0.now within c.item_of.ensures, refl, refl)

pub returns-else-number-count : goal.returns-else-number-count
returns-else-number-count c = rw c.in-Times.is (one_more c.in-Times.number c.in-Times.count c.if-number-count.false, refl, refl)
