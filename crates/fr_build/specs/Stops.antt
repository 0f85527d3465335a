-- Why building stops, and what that tells.
use Rattle.std.specs.Prelude.{ℕ, ◌<◌}
use Rattle.fr_kernel.specs.declared.fuel.KernStop.{KernStop}
use Rattle.fr_kernel.specs.declared.fuel.KernStop.TheVariants as kern_stop
use Rattle.fr_store.specs.declared.store.MakeStop.{MakeStop}
use Rattle.fr_store.specs.declared.store.MakeStop.TheVariants as make_stop
use Rattle.fr_build.specs.declared.stops.BuildStop.{BuildStop}
use Rattle.fr_build.specs.declared.stops.BuildStop.TheVariants as stop

-- what stops the making of a node stops building
abbrev pub made_stop : MakeStop → BuildStop
made_stop (make_stop.Memory e) = stop.Memory e
made_stop make_stop.TooMany = stop.TooMany

-- what stops the run of a kernel stops building
abbrev pub run_stop : KernStop → BuildStop
run_stop (kern_stop.Memory e) = stop.Memory e
run_stop (kern_stop.Bad b) = stop.Bad b
run_stop kern_stop.Fuel = stop.Fuel

-- building stopped with an error only where this is so; the other stops tell nothing
abbrev pub StopsWhere : BuildStop → Type 0 → Type 0
StopsWhere (stop.Bad b) A = A
StopsWhere s A = Unit {0}

-- building stopped for want of fuel only where this is more than what was left; the other stops tell nothing
abbrev pub CostsMore : BuildStop → ℕ → ℕ → Type 0
CostsMore stop.Fuel left cost = left < cost
CostsMore s left cost = Unit {0}
