use Rattle.std.proofs.Common.{◌≡◌, ◌+◌, ◌*◌, ◌++◌, ◌∷◌, ◌-◌, length, take}
use Rattle.fr_value.specs.Data.{data_of, data_size, value_size}
use Rattle.fr_value.specs.Text.{behind_texts}
use Rattle.fr_value.proofs.Parts.{Walk}
use Rattle.fr_value.proofs.text.+text.Given as goal

abbrev pub decreases-text_into : goal.decreases-text_into
decreases-text_into l = 5 * value_size l.v.now + 4

abbrev pub decreases-list_into : goal.decreases-list_into
decreases-list_into l = 5 * data_size l.list.now + 3

abbrev pub decreases-behind_into : goal.decreases-behind_into
decreases-behind_into l = 5 * data_size l.list.now + 2

abbrev pub decreases-run_into : goal.decreases-run_into
decreases-run_into l = 5 * data_size (data_of (l.first.now ∷ l.others.now)) + 1

abbrev pub decreases-others_into : goal.decreases-others_into
decreases-others_into l = 5 * data_size (data_of l.items.now)

abbrev pub invariant-others_into-loop-item : goal.invariant-others_into-loop-item
invariant-others_into-loop-item l = l.out.items ≡ l.fn.out.items ++ behind_texts (take l.item-index l.items)

abbrev pub invariant-behind_into-loop-at : goal.invariant-behind_into-loop-at
invariant-behind_into-loop-at l = Walk l.fn.out.items l.out.items l.list l.at

abbrev pub decreases-behind_into-loop-at : goal.decreases-behind_into-loop-at
decreases-behind_into-loop-at l = length l.list - l.at
