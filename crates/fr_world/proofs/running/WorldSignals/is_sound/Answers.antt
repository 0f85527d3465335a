use Rattle.fr_world.proofs.Sound.{sound_world}
use Rattle.fr_world.proofs.running.WorldSignals.is_sound.Goals as goal

pub returns : goal.returns
returns g c = sound_world c.args.self.now.whole c.args.self.now.store c.args.self.now.eras (g.A.Agenda.queued c.args.self.now.agenda) c.args.self.now.instant c.args.self.now.highest c.args.self.now.is
