use Rattle.fr_eras.proofs.Lasting.{room_stays}
use Rattle.fr_eras.proofs.eras.Eras.kill.Goals as goal

pub invariant_of-self : goal.invariant_of-self
invariant_of-self g c = record {
  fit = c.end_with_nested.ensures.lives;
  wide =
      room_stays c.self.inside.links.lists c.end_with_nested.new.links.lists c.self.inside.begun.items c.end_with_nested.new.begun.items
      c.self.inside.work.room c.end_with_nested.ensures.came c.self.invariant.wide;
}
