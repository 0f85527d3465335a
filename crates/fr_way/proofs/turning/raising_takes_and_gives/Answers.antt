use Rattle.fr_way.proofs.TurnOrder.{levelled_but_from, levelled_all, too_low_is_above, raises_by}
use Rattle.fr_way.proofs.turning.raising_takes_and_gives.Goals as goal

pub returns-clause-from_signal : goal.returns-clause-from_signal
returns-clause-from_signal c = levelled_but_from

pub returns-clause-from_value : goal.returns-clause-from_value
returns-clause-from_value c = levelled_all

pub returns-clause-low : goal.returns-clause-low
returns-clause-low c = too_low_is_above

pub returns-clause-raises : goal.returns-clause-raises
returns-clause-raises c = raises_by
