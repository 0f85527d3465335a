use Rattle.std.proofs.Common.{◌≡◌, false, true, refl}
use Rattle.std.specs.Result.{IsOk}
use Rattle.fr_eras.specs.Lives.{eras_in}
use Rattle.fr_eras.proofs.Results.{result_none, result_raised, result_there, result_wants}
use Rattle.fr_eras.proofs.raise.raise_result.Goals as goal

never : {A : Type 0} → false ≡ true → A
never e = cc

pub raise_one-requires-clause-upper : goal.raise_one-requires-clause-upper
raise_one-requires-clause-upper g c = result_there c.args.links.now.lists c.args.store.now c.args.lower.0 c.in-Some.upper.0 c.requires.live c.in-Some.ensures.is

pub returns-in_err-raise_one-clause-in_room : goal.returns-in_err-raise_one-clause-in_room
returns-in_err-raise_one-clause-in_room g c =
    result_wants (eras_in c.args.links.now.lists) c.args.lower.0 c.args.store.now c.in-Some.upper.0 c.in-Some.ensures.is
    (result_there c.args.links.now.lists c.args.store.now c.args.lower.0 c.in-Some.upper.0 c.requires.live c.in-Some.ensures.is)
    (g.A.Agenda.room c.args.agenda.now) c.args.work.now (IsOk c.from_residual.result) (λ has fits. never (c.in_err-raise_one.ensures.in_room has fits))

pub returns-in_ok-raise_one-clause-advances : goal.returns-in_ok-raise_one-clause-advances
returns-in_ok-raise_one-clause-advances g c =
    result_raised (eras_in c.args.links.now.lists) c.args.lower.0 c.args.store.now c.in-Some.upper.0 c.in-Some.ensures.is
    (result_there c.args.links.now.lists c.args.store.now c.args.lower.0 c.in-Some.upper.0 c.requires.live c.in-Some.ensures.is)
    c.raise_one.new.store (g.A.Agenda.queued c.args.agenda.now) (g.A.Agenda.queued c.raise_one.new.agenda) c.args.work.now.nodes c.raise_one.new.work.nodes
    c.requires.queue c.raise_one.ensures.keeps.only c.in-Some.ensures.only c.in_ok-raise_one.ensures.lifts c.in_ok-raise_one.ensures.queue

pub returns-in_default-clause-advances : goal.returns-in_default-clause-advances
returns-in_default-clause-advances g c =
    result_none (eras_in c.args.links.now.lists) c.args.lower.0 c.args.store.now (g.A.Agenda.queued c.args.agenda.now) c.args.work.now.nodes c.requires.queue
    (c.in_default.ensures.none refl)
