-- Why a run over the graph stops, and what that tells.
use Rattle.fr_engine.specs.declared.stops.RunStop.{RunStop}
use Rattle.fr_engine.specs.declared.stops.RunStop.TheVariants as stop

-- it stopped with an error only where this is so; the other stops tell nothing
abbrev pub StopsWhere : RunStop → Type 0 → Type 0
StopsWhere (stop.Bad b) A = A
StopsWhere s A = Unit {0}
