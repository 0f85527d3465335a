use Rattle.std.proofs.Common.{max, ap, ◌∙◌, arith}
use Rattle.fr_store.specs.Nodes.{least_height, new_node}
use Rattle.fr_world.proofs.Added.{adds, height_of_made, world_added}
use Rattle.fr_world.proofs.world.World.add.Goals as goal

pub invariant_of-self-2 : goal.invariant_of-self-2
invariant_of-self-2 g c = record {
  is = λ e. world_added c.args.self.now.store c.make.new.self c.args.self.now.eras c.join.new.self (g.A.Agenda.queued c.args.self.now.agenda) (g.A.Agenda.queued c.add.new.self) c.args.self.now.instant c.args.self.now.highest c.max-self.result c.in_ok-id.id.0 c.args.floor c.args.nest c.args.kind
      c.args.inputs.now c.args.era (c.args.self.now.is c.requires.whole)
      (adds c.args.self.now.store c.make.new.self c.args.self.now.eras c.join.new.self (g.A.Agenda.queued c.args.self.now.agenda) (g.A.Agenda.queued c.add.new.self) c.in_ok-id.id.0 c.args.era.0 (new_node c.args.kind c.args.inputs.now c.args.era (least_height c.args.self.now.store.nodes c.args.floor c.args.inputs.now) c.args.nest c.args.self.now.instant) c.node.result.now (c.args.self.now.is c.requires.whole).joined c.in_ok-id.ensures.made c.in_ok-join.ensures.joins c.node.ensures c.in_ok-add.ensures.ok)
      c.requires.era c.requires.floor c.requires.nest (omega (arith, c.if-self-ge-MOST_HIGH.false))
      (c.max-self.ensures ∙ ap (max c.args.self.now.highest) (height_of_made c.args.self.now.store c.make.new.self c.in_ok-id.id.0 (new_node c.args.kind c.args.inputs.now c.args.era (least_height c.args.self.now.store.nodes c.args.floor c.args.inputs.now) c.args.nest c.args.self.now.instant) c.node.result.now c.in_ok-id.ensures.made c.node.ensures));
}

pub returns-clause-adds : goal.returns-clause-adds
returns-clause-adds g c =
    (adds c.args.self.now.store c.make.new.self c.args.self.now.eras c.join.new.self (g.A.Agenda.queued c.args.self.now.agenda) (g.A.Agenda.queued c.add.new.self) c.in_ok-id.id.0 c.args.era.0 (new_node c.args.kind c.args.inputs.now c.args.era (least_height c.args.self.now.store.nodes c.args.floor c.args.inputs.now) c.args.nest c.args.self.now.instant) c.node.result.now (c.args.self.now.is c.requires.whole).joined c.in_ok-id.ensures.made c.in_ok-join.ensures.joins c.node.ensures c.in_ok-add.ensures.ok)
