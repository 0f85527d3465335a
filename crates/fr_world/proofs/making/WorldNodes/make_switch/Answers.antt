use Rattle.std.proofs.Common.{◌≡◌, ℕ, ◌+◌, suc, not, ap, sym, ◌∙◌, arith}
use Rattle.fr_links.specs.Lists.{has_item}
use Rattle.fr_store.specs.Nodes.{height_in, node_at}
use Rattle.fr_eras.specs.Lives.{grave, is_era}
use Rattle.fr_world.specs.World.{way_of}
use Rattle.fr_world.proofs.Switched.{switches_by, test_live}
use Rattle.fr_world.proofs.Whole.{live_there, lives_whole}
use Rattle.fr_world.proofs.making.WorldNodes.make_switch.Goals as goal

pub floor-floor-requires-clause-whole : goal.floor-floor-requires-clause-whole
floor-floor-requires-clause-whole g c = (lives_whole c.args.self.now.whole (λ sites. way_of sites c.args.self.now.store c.args.self.now.eras (g.A.Agenda.queued c.args.self.now.agenda) c.args.self.now.instant) c.args.test.0 c.requires.there)

pub add-requires-clause-whole : goal.add-requires-clause-whole
add-requires-clause-whole g c = (lives_whole c.args.self.now.whole (λ sites. way_of sites c.args.self.now.store c.args.self.now.eras (g.A.Agenda.queued c.args.self.now.agenda) c.args.self.now.instant) c.args.test.0 c.requires.there)

pub add-requires-clause-live : goal.add-requires-clause-live
add-requires-clause-live g c = test_live c.args.self.now.whole c.args.self.now.store c.args.self.now.eras (g.A.Agenda.queued c.args.self.now.agenda) c.args.self.now.instant c.args.test c.requires.there

pub returns-clause-makes : goal.returns-clause-makes
returns-clause-makes g c =
    switches_by c.args.self.now.store c.add.new.self.store c.add-2.new.self.store c.args.self.now.eras c.add.new.self.eras c.add-2.new.self.eras
    (g.A.Agenda.queued c.args.self.now.agenda) (g.A.Agenda.queued c.add.new.self.agenda) (g.A.Agenda.queued c.add-2.new.self.agenda)
    c.args.self.now.instant c.add.new.self.instant c.add-2.new.self.instant c.in_ok-watch.watch.0 c.in_ok-result.result.0 c.floor-floor.result c.args.nest (c.node.result.now.height + 1)
    c.args.site c.in_ok-held.held c.args.env.now c.args.test c.args.era c.args.self.now.whole c.add-2.new.self.whole
    c.in_ok-watch.ensures.adds c.in_ok-result.ensures.adds
    (test_live c.args.self.now.whole c.args.self.now.store c.args.self.now.eras (g.A.Agenda.queued c.args.self.now.agenda) c.args.self.now.instant c.args.test c.requires.there)
    (λ o e. live_there (node_at c.args.self.now.store o) (not (has_item (grave c.args.self.now.eras) o))
    ((c.args.self.now.is (lives_whole c.args.self.now.whole (λ sites. way_of sites c.args.self.now.store c.args.self.now.eras (g.A.Agenda.queued c.args.self.now.agenda) c.args.self.now.instant) c.args.test.0 c.requires.there)).joined.owners o (ap (is_era c.args.self.now.eras) (let one : o + 1 ≡ suc o = omega arith in one ∙ sym e) ∙ c.requires.era)))
    c.floor-floor.ensures.above
    (ap (λ (n : ℕ). n + 1) (ap height_in (sym c.node.ensures)))
    c.in_ok-watch.ensures.instant c.in_ok-result.ensures.instant (c.in_ok-held.ensures ∙ c.in_ok-shared.ensures) (lives_whole c.args.self.now.whole (λ sites. way_of sites c.args.self.now.store c.args.self.now.eras (g.A.Agenda.queued c.args.self.now.agenda) c.args.self.now.instant) c.args.test.0 c.requires.there) c.in_ok-result.ensures.whole
