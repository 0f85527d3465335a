use Rattle.fr_world.proofs.Listed.{lists_late, then_told}
use Rattle.fr_world.proofs.running.WorldSignals.list_late.Goals as goal

pub returns : goal.returns
returns g c =
    let w = c.args.self.now in
    then_told c.list_late_members.result _ _ (λ is. lists_late w.whole w.store w.eras (g.A.Agenda.queued w.agenda) w.instant c.args.era.0 c.args.late.now.items c.list_late_members.new.late.items c.if-not-self.false is)
    c.list_late_members.ensures
