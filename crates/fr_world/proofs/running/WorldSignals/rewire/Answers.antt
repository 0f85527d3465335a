use Rattle.std.proofs.Common.{[], ◌∷◌}
use Rattle.fr_world.proofs.Heights.{are_live}
use Rattle.fr_world.proofs.Whole.{lives_there, lives_whole}
use Rattle.fr_world.proofs.Written.{way_rewired, world_rewired}
use Rattle.fr_world.specs.World.{way_of}
use Rattle.fr_world.proofs.running.WorldSignals.rewire.Goals as goal

pub rewire-requires-clause-there : goal.rewire-requires-clause-there
rewire-requires-clause-there g c = lives_there c.args.self.now.whole c.args.self.now.store c.args.self.now.eras (g.A.Agenda.queued c.args.self.now.agenda) c.args.self.now.instant c.args.id.0 c.requires.there

pub rewire-requires-clause-live : goal.rewire-requires-clause-live
rewire-requires-clause-live g c =
    are_live c.args.self.now.whole c.args.self.now.store c.args.self.now.eras (g.A.Agenda.queued c.args.self.now.agenda) c.args.self.now.instant (c.args.input ∷ [])
    (lives_whole c.args.self.now.whole (λ sites. way_of sites c.args.self.now.store c.args.self.now.eras (g.A.Agenda.queued c.args.self.now.agenda) c.args.self.now.instant) c.args.id.0 c.requires.there) c.requires.input

pub invariant_of-self : goal.invariant_of-self
invariant_of-self g c = record {
  is = λ e. world_rewired c.args.self.now.store c.rewire.new.self c.args.self.now.eras (g.A.Agenda.queued c.args.self.now.agenda) c.args.self.now.instant c.args.id.0 c.args.self.now.highest c.args.input (lives_there c.args.self.now.whole c.args.self.now.store c.args.self.now.eras (g.A.Agenda.queued c.args.self.now.agenda) c.args.self.now.instant c.args.id.0 c.requires.there) c.rewire.ensures (c.args.self.now.is e);
}

pub returns-clause-rewires : goal.returns-clause-rewires
returns-clause-rewires g c = way_rewired c.args.self.now.store c.rewire.new.self c.args.self.now.eras (g.A.Agenda.queued c.args.self.now.agenda) c.args.self.now.instant c.args.id.0 c.args.self.now.whole c.requires.there c.args.input c.rewire.ensures
