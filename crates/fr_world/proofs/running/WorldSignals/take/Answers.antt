use Rattle.fr_world.proofs.Calls.{takes_if, takes_none}
use Rattle.fr_world.proofs.running.WorldSignals.take.Goals as goal

pub returns-clause-taken : goal.returns-clause-taken
returns-clause-taken g c =
    takes_if c.args.self.now.whole c.args.self.now.store c.args.self.now.eras (g.A.Agenda.queued c.args.self.now.agenda) (g.A.Agenda.queued c.take.new.self) c.args.self.now.instant c.take.result c.if-not-self.false c.take.ensures.taken

pub returns-clause-none : goal.returns-clause-none
returns-clause-none g c = λ none.
    takes_none c.args.self.now.whole c.args.self.now.store c.args.self.now.eras (g.A.Agenda.queued c.args.self.now.agenda) (g.A.Agenda.queued c.take.new.self) c.args.self.now.instant c.if-not-self.false (c.take.ensures.empty none) (c.take.ensures.same none)
