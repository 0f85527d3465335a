use Rattle.std.proofs.Common.{◌≡◌, ◌+◌, ◌<◌, ◌^◌, Some, true, refl, sym, subst, arith}
use Rattle.fr_links.specs.Lists.{has_item, list_at}
use Rattle.fr_eras.specs.Lives.{Lives, members}
use Rattle.fr_eras.proofs.Moves.{stands_somewhere}
use Rattle.fr_eras.proofs.Places.{next_stands}
use Rattle.fr_eras.proofs.eras.Eras.next_member.Goals as goal

pub next-requires : goal.next-requires
next-requires c =
    stands_somewhere c.self.inside.links.lists (c.requires.era + 1) c.args.node.0 c.self.invariant.fit.apart
    (subst (λ (l : Lives). has_item (members l c.requires.era) c.args.node.0 ≡ true) (sym c.self.view_is) c.requires.has)

pub overflow_cast-result : goal.overflow_cast-result
overflow_cast-result c =
    let small : c.in_ok-next.next < 2 ^ 32 =
    c.self.invariant.fit.apart.small (c.requires.era + 1) c.in_ok-next.next
    (next_stands (list_at c.self.inside.links.lists (c.requires.era + 1)) c.args.node.0 (Some c.in_ok-next.next)
    (subst (λ (l : Lives). has_item (members l c.requires.era) c.args.node.0 ≡ true) (sym c.self.view_is) c.requires.has)
    (c.in_ok-next.ensures (c.requires.era + 1)) c.in_ok-next.next refl) in
    omega arith
