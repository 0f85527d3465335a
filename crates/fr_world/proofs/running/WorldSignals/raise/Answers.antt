use Rattle.std.proofs.Common.{◌+◌, arith, refl, ◌∙◌}
use Rattle.fr_world.proofs.Calls.{levelled_by, ordered_by, raises_by, world_risen}
use Rattle.fr_world.proofs.Whole.{lives_there, lives_whole}
use Rattle.fr_world.specs.World.{way_of}
use Rattle.fr_world.proofs.running.WorldSignals.raise.Goals as goal

pub overflow_add-top : goal.overflow_add-top
overflow_add-top g c = let mild = (c.args.self.now.is (lives_whole c.args.self.now.whole (λ sites. way_of sites c.args.self.now.store c.args.self.now.eras (g.A.Agenda.queued c.args.self.now.agenda) c.args.self.now.instant) c.args.from.0 c.requires.there)).mild in omega arith

pub raise_from-requires-clause-live : goal.raise_from-requires-clause-live
raise_from-requires-clause-live g c = (c.args.self.now.is (lives_whole c.args.self.now.whole (λ sites. way_of sites c.args.self.now.store c.args.self.now.eras (g.A.Agenda.queued c.args.self.now.agenda) c.args.self.now.instant) c.args.from.0 c.requires.there)).joined.there

pub raise_from-requires-clause-there : goal.raise_from-requires-clause-there
raise_from-requires-clause-there g c = lives_there c.args.self.now.whole c.args.self.now.store c.args.self.now.eras (g.A.Agenda.queued c.args.self.now.agenda) c.args.self.now.instant c.args.from.0 c.requires.there

pub raise_from-requires-clause-mild : goal.raise_from-requires-clause-mild
raise_from-requires-clause-mild g c = λ i.
    let w = (c.args.self.now.is (lives_whole c.args.self.now.whole (λ sites. way_of sites c.args.self.now.store c.args.self.now.eras (g.A.Agenda.queued c.args.self.now.agenda) c.args.self.now.instant) c.args.from.0 c.requires.there)) in
    let low = w.below i in
    let mild = w.mild in
    omega arith

pub raise_from-requires-clause-queue : goal.raise_from-requires-clause-queue
raise_from-requires-clause-queue g c = (c.args.self.now.is (lives_whole c.args.self.now.whole (λ sites. way_of sites c.args.self.now.store c.args.self.now.eras (g.A.Agenda.queued c.args.self.now.agenda) c.args.self.now.instant) c.args.from.0 c.requires.there)).queue.right

pub raise_from-requires-clause-levelled : goal.raise_from-requires-clause-levelled
raise_from-requires-clause-levelled g c = levelled_by c.args.self.now.store c.args.self.now.eras (g.A.Agenda.queued c.args.self.now.agenda) c.args.self.now.instant c.args.from.0 (c.args.self.now.is (lives_whole c.args.self.now.whole (λ sites. way_of sites c.args.self.now.store c.args.self.now.eras (g.A.Agenda.queued c.args.self.now.agenda) c.args.self.now.instant) c.args.from.0 c.requires.there)).joined c.args.self.now.whole (lives_whole c.args.self.now.whole (λ sites. way_of sites c.args.self.now.store c.args.self.now.eras (g.A.Agenda.queued c.args.self.now.agenda) c.args.self.now.instant) c.args.from.0 c.requires.there) c.requires.levelled

pub raise_from-requires-clause-ordered : goal.raise_from-requires-clause-ordered
raise_from-requires-clause-ordered g c = ordered_by c.args.self.now.store c.args.self.now.eras (g.A.Agenda.queued c.args.self.now.agenda) c.args.self.now.instant c.args.from.0 (c.args.self.now.is (lives_whole c.args.self.now.whole (λ sites. way_of sites c.args.self.now.store c.args.self.now.eras (g.A.Agenda.queued c.args.self.now.agenda) c.args.self.now.instant) c.args.from.0 c.requires.there)).joined c.args.self.now.whole (lives_whole c.args.self.now.whole (λ sites. way_of sites c.args.self.now.store c.args.self.now.eras (g.A.Agenda.queued c.args.self.now.agenda) c.args.self.now.instant) c.args.from.0 c.requires.there) c.requires.ordered

pub invariant_of-self-2 : goal.invariant_of-self-2
invariant_of-self-2 g c = record {
  is = λ e. world_risen c.args.self.now.store c.raise_from.new.store c.args.self.now.eras c.raise_from.new.self (g.A.Agenda.queued c.args.self.now.agenda) (g.A.Agenda.queued c.raise_from.new.agenda) c.args.self.now.instant c.args.self.now.highest (c.args.self.now.highest + c.from.result) c.from.result c.args.from.0
      (c.args.self.now.is (lives_whole c.args.self.now.whole (λ sites. way_of sites c.args.self.now.store c.args.self.now.eras (g.A.Agenda.queued c.args.self.now.agenda) c.args.self.now.instant) c.args.from.0 c.requires.there)) c.in_ok-raise_from.ensures.same c.in_ok-raise_from.ensures.only c.in_ok-raise_from.ensures.queue c.in_ok-raise_from.ensures.raised
      (c.from.ensures ∙ c.count.ensures.value) refl (omega arith);
}

pub returns-clause-raises : goal.returns-clause-raises
returns-clause-raises g c =
    raises_by c.args.self.now.store c.args.self.now.eras (g.A.Agenda.queued c.args.self.now.agenda) c.args.self.now.instant c.args.from.0 (c.args.self.now.is (lives_whole c.args.self.now.whole (λ sites. way_of sites c.args.self.now.store c.args.self.now.eras (g.A.Agenda.queued c.args.self.now.agenda) c.args.self.now.instant) c.args.from.0 c.requires.there)).joined c.args.self.now.whole (lives_whole c.args.self.now.whole (λ sites. way_of sites c.args.self.now.store c.args.self.now.eras (g.A.Agenda.queued c.args.self.now.agenda) c.args.self.now.instant) c.args.from.0 c.requires.there) c.requires.results c.raise_from.new.store c.raise_from.new.self (g.A.Agenda.queued c.raise_from.new.agenda)
    c.in_ok-raise_from.ensures.same c.in_ok-raise_from.ensures.only c.in_ok-raise_from.ensures.queue c.in_ok-raise_from.ensures.raised
