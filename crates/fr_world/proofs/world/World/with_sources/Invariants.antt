use Rattle.fr_world.specs.Calls.{Sourced}
use Rattle.fr_world.proofs.world.World.with_sources.Given as goal

abbrev pub invariant-loop-source : goal.invariant-loop-source
invariant-loop-source g l = Sourced l.world.store l.world.eras (g.A.Agenda.queued l.world.agenda) l.world.instant l.world.whole l.source-index
