-- What a switch goes on with.
use Rattle.fr_meaning.specs.Evaluation.{Choice as PartChoice}
use Rattle.fr_afresh.specs.declared.places.Choice.{Choice}

-- what a switch goes on with, as the code has it
abbrev pub choice_of : Choice → PartChoice
choice_of c = record { key = c.key; number = c.number; expr = c.expr.now }
