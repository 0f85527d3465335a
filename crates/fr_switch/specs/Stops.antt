-- Why a choice wasn't built.
use Rattle.fr_build.specs.declared.stops.BuildStop.{BuildStop}
use Rattle.fr_build.specs.declared.stops.BuildStop.TheVariants as build_stop
use Rattle.fr_engine.specs.declared.stops.RunStop.{RunStop}
use Rattle.fr_engine.specs.declared.stops.RunStop.TheVariants as stop

-- what stops building stops the run
abbrev pub stop_of : BuildStop → RunStop
stop_of (build_stop.Memory e) = stop.Memory e
stop_of (build_stop.Bad b) = stop.Bad b
stop_of build_stop.Fuel = stop.Fuel
stop_of build_stop.TooMany = stop.TooMany
