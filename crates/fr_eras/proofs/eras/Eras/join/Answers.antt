use Rattle.std.proofs.Common.{◌≡◌, true, sym, subst, arith}
use Rattle.fr_links.specs.Lists.{Linked}
use Rattle.fr_eras.specs.Lives.{IsAlone, Lives, is_era}
use Rattle.fr_eras.specs.Kept.{AreEras, lives_of}
use Rattle.fr_eras.proofs.Lasting.{alone_now, joined_eras}
use Rattle.fr_eras.proofs.eras.Eras.join.Goals as goal

pub push_back-requires-clause-alone : goal.push_back-requires-clause-alone
push_back-requires-clause-alone c =
    alone_now c.self.inside.links.lists c.reserve.new.self.lists c.self.inside.begun.items 0 c.args.node.0 c.in_ok-reserve.ensures.lists
    (subst (λ (l : Lives). IsAlone l c.args.node.0) (sym c.self.view_is) c.requires.alone)

pub invariant_of-self-2 : goal.invariant_of-self-2
invariant_of-self-2 c =
    subst (λ (k : Linked). AreEras (lives_of k.lists c.self.inside.begun.items) c.make_room.new.self.room) (sym c.push_back.ensures)
    (joined_eras c.self.inside.links.lists c.reserve.new.self.lists c.self.inside.begun.items c.self.inside.work.room c.make_room.new.self.room c.args.era.0
    c.args.node.0 c.list_of_era.result c.in_ok-reserve.ensures.lists c.list_of_era.ensures
    (subst (λ (l : Lives). is_era l c.args.era.0 ≡ true) (sym c.self.view_is) c.requires.there)
    (subst (λ (l : Lives). IsAlone l c.args.node.0) (sym c.self.view_is) c.requires.alone)
    (omega arith) c.make_room.ensures.more c.in_ok-make_room.ensures.room c.self.invariant)
