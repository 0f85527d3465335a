use Rattle.std.proofs.Common.{arith}
use Rattle.fr_world.proofs.Calls.{earlier, way_renewed, world_renewed}
use Rattle.fr_world.proofs.Whole.{lives_live, lives_there, lives_whole}
use Rattle.fr_world.specs.World.{way_of}
use Rattle.fr_world.proofs.running.WorldSignals.renew.Goals as goal

pub end_owned-requires-clause-there : goal.end_owned-requires-clause-there
end_owned-requires-clause-there g c = (c.args.self.now.is (lives_whole c.args.self.now.whole (λ sites. way_of sites c.args.self.now.store c.args.self.now.eras (g.A.Agenda.queued c.args.self.now.agenda) c.args.self.now.instant) c.args.watch.0 c.requires.there)).joined.there

pub end_owned-requires-clause-earlier : goal.end_owned-requires-clause-earlier
end_owned-requires-clause-earlier g c = earlier c.args.self.now.store c.args.self.now.eras (g.A.Agenda.queued c.args.self.now.agenda) c.args.self.now.instant c.args.self.now.highest c.args.watch.0 (c.args.self.now.is (lives_whole c.args.self.now.whole (λ sites. way_of sites c.args.self.now.store c.args.self.now.eras (g.A.Agenda.queued c.args.self.now.agenda) c.args.self.now.instant) c.args.watch.0 c.requires.there)) c.args.self.now.whole (lives_whole c.args.self.now.whole (λ sites. way_of sites c.args.self.now.store c.args.self.now.eras (g.A.Agenda.queued c.args.self.now.agenda) c.args.self.now.instant) c.args.watch.0 c.requires.there) c.requires.done c.requires.earlier

pub begin-requires-clause-small : goal.begin-requires-clause-small
begin-requires-clause-small g c =
    let w = (c.args.self.now.is (lives_whole c.args.self.now.whole (λ sites. way_of sites c.args.self.now.store c.args.self.now.eras (g.A.Agenda.queued c.args.self.now.agenda) c.args.self.now.instant) c.args.watch.0 c.requires.there)) in
    let low = w.small c.args.watch.0 (lives_there c.args.self.now.whole c.args.self.now.store c.args.self.now.eras (g.A.Agenda.queued c.args.self.now.agenda) c.args.self.now.instant c.args.watch.0 c.requires.there) in
    let few = w.few in
    omega arith

pub invariant_of-self-2 : goal.invariant_of-self-2
invariant_of-self-2 g c = record {
  is = λ e. world_renewed c.args.self.now.store c.args.self.now.eras (g.A.Agenda.queued c.args.self.now.agenda) c.args.self.now.instant c.args.self.now.highest c.args.watch.0 (c.args.self.now.is (lives_whole c.args.self.now.whole (λ sites. way_of sites c.args.self.now.store c.args.self.now.eras (g.A.Agenda.queued c.args.self.now.agenda) c.args.self.now.instant) c.args.watch.0 c.requires.there)) c.args.self.now.whole (lives_whole c.args.self.now.whole (λ sites. way_of sites c.args.self.now.store c.args.self.now.eras (g.A.Agenda.queued c.args.self.now.agenda) c.args.self.now.instant) c.args.watch.0 c.requires.there) c.requires.done c.requires.earlier c.end_owned.new.eras c.begin.new.self (g.A.Agenda.queued c.end_owned.new.agenda) (lives_live c.args.self.now.whole c.args.self.now.store c.args.self.now.eras (g.A.Agenda.queued c.args.self.now.agenda) c.args.self.now.instant c.args.watch.0 c.requires.there) c.end_owned.ensures.ends c.in_ok-era.ensures.begins;
}

pub returns-clause-kills : goal.returns-clause-kills
returns-clause-kills g c =
    way_renewed c.args.self.now.store c.args.self.now.eras (g.A.Agenda.queued c.args.self.now.agenda) c.args.self.now.instant c.args.self.now.highest c.args.watch.0 (c.args.self.now.is (lives_whole c.args.self.now.whole (λ sites. way_of sites c.args.self.now.store c.args.self.now.eras (g.A.Agenda.queued c.args.self.now.agenda) c.args.self.now.instant) c.args.watch.0 c.requires.there)) c.args.self.now.whole (lives_whole c.args.self.now.whole (λ sites. way_of sites c.args.self.now.store c.args.self.now.eras (g.A.Agenda.queued c.args.self.now.agenda) c.args.self.now.instant) c.args.watch.0 c.requires.there) c.requires.done c.requires.earlier c.end_owned.new.eras c.begin.new.self (g.A.Agenda.queued c.end_owned.new.agenda) (lives_live c.args.self.now.whole c.args.self.now.store c.args.self.now.eras (g.A.Agenda.queued c.args.self.now.agenda) c.args.self.now.instant c.args.watch.0 c.requires.there) c.end_owned.ensures.ends c.in_ok-era.ensures.begins
