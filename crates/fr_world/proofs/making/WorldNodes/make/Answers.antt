use Rattle.std.proofs.Common.{◌≡◌, ◌+◌, suc, not, ap, sym, ◌∙◌, arith}
use Rattle.fr_links.specs.Lists.{has_item}
use Rattle.fr_store.specs.Nodes.{node_at}
use Rattle.fr_eras.specs.Lives.{grave, is_era}
use Rattle.fr_world.proofs.Heights.{are_live}
use Rattle.fr_world.proofs.Made.{makes_if}
use Rattle.fr_world.proofs.Whole.{live_there}
use Rattle.fr_world.proofs.making.WorldNodes.make.Goals as goal

pub add-requires-clause-live : goal.add-requires-clause-live
add-requires-clause-live g c = are_live c.args.self.now.whole c.args.self.now.store c.args.self.now.eras (g.A.Agenda.queued c.args.self.now.agenda) c.args.self.now.instant c.args.inputs.now c.if-not-self.false c.requires.there

pub returns-clause-makes : goal.returns-clause-makes
returns-clause-makes g c =
    makes_if c.args.self.now.store c.add.new.self.store c.args.self.now.eras c.add.new.self.eras (g.A.Agenda.queued c.args.self.now.agenda) (g.A.Agenda.queued c.add.new.self.agenda)
    c.args.self.now.instant c.add.new.self.instant c.floor-floor.result c.args.nest c.args.kind c.args.inputs.now c.args.era c.args.self.now.whole c.add.new.self.whole c.add.result
    c.add.ensures.adds c.add.ensures.instant c.if-not-self.false c.add.ensures.whole
    (are_live c.args.self.now.whole c.args.self.now.store c.args.self.now.eras (g.A.Agenda.queued c.args.self.now.agenda) c.args.self.now.instant c.args.inputs.now c.if-not-self.false c.requires.there)
    (λ w e. live_there (node_at c.args.self.now.store w) (not (has_item (grave c.args.self.now.eras) w))
    ((c.args.self.now.is c.if-not-self.false).joined.owners w (ap (is_era c.args.self.now.eras) (let one : w + 1 ≡ suc w = omega arith in one ∙ sym e) ∙ c.requires.era)))
    c.floor-floor.ensures.above
