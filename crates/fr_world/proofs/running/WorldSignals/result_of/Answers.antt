use Rattle.fr_world.proofs.Calls.{result_is, result_lives, result_next}
use Rattle.fr_world.proofs.Whole.{lives_whole}
use Rattle.std.proofs.Common.{Some, None}
use Rattle.fr_world.specs.World.{way_of}
use Rattle.fr_world.proofs.running.WorldSignals.result_of.Goals as goal

pub unreachable-requires : goal.unreachable-requires
unreachable-requires g c =
    let none = result_next c.args.self.now.store c.args.self.now.eras c.args.watch.0 None (result_lives c.args.self.now.whole c.args.self.now.store c.args.self.now.eras (g.A.Agenda.queued c.args.self.now.agenda) c.args.self.now.instant c.args.watch.0 (lives_whole c.args.self.now.whole (λ sites. way_of sites c.args.self.now.store c.args.self.now.eras (g.A.Agenda.queued c.args.self.now.agenda) c.args.self.now.instant) c.args.watch.0 c.requires.there) c.requires.result) c.in-None.ensures in
    absurd (cc)

pub returns : goal.returns
returns g c =
    result_is c.args.self.now.whole c.args.self.now.store c.args.self.now.eras (g.A.Agenda.queued c.args.self.now.agenda) c.args.self.now.instant c.args.watch.0 c.in-Some.result (lives_whole c.args.self.now.whole (λ sites. way_of sites c.args.self.now.store c.args.self.now.eras (g.A.Agenda.queued c.args.self.now.agenda) c.args.self.now.instant) c.args.watch.0 c.requires.there)
    (result_next c.args.self.now.store c.args.self.now.eras c.args.watch.0 (Some c.in-Some.result) (result_lives c.args.self.now.whole c.args.self.now.store c.args.self.now.eras (g.A.Agenda.queued c.args.self.now.agenda) c.args.self.now.instant c.args.watch.0 (lives_whole c.args.self.now.whole (λ sites. way_of sites c.args.self.now.store c.args.self.now.eras (g.A.Agenda.queued c.args.self.now.agenda) c.args.self.now.instant) c.args.watch.0 c.requires.there) c.requires.result) c.in-Some.ensures)
