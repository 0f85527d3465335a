use Rattle.std.proofs.Common.{◌≤◌, ◌-◌, None, refl, sym, ◌∙◌, arith}
use Rattle.std.specs.Vec.{with_item}
use Rattle.fr_store.proofs.Tables.{freed_nodes, freed_table, some_counted}
use Rattle.fr_store.proofs.table.Table.remove.Goals as goal

pub returns-in-Some-clause-sound : goal.returns-in-Some-clause-sound
returns-in-Some-clause-sound c =
    let one : 1 ≤ c.args.self.now.count = some_counted c.args.self.now c.args.id.0 c.requires.sound c.requires.there in
    freed_table c.args.self.now _ c.args.id.0 c.in-Some.key c.requires.sound (record {
      at = sym c.key.ensures ∙ c.in-Some.is;
      free = c.push_reserved.ensures.items;
      keys = refl;
      nodes = c.discard.ensures;
      count = omega arith;
      room = c.push_reserved.ensures.capacity;
    })

pub returns-in-Some-clause-removed : goal.returns-in-Some-clause-removed
returns-in-Some-clause-removed c =
    let one : 1 ≤ c.args.self.now.count = some_counted c.args.self.now c.args.id.0 c.requires.sound c.requires.there in
    freed_nodes c.args.self.now (record {
      keys = with_item c.args.self.now.keys c.args.id.0 None;
      free = c.push_reserved.new.self;
      nodes = c.discard.new.nodes;
      count = c.args.self.now.count - 1;
    }) c.args.id.0 c.in-Some.key c.requires.sound (record {
      at = sym c.key.ensures ∙ c.in-Some.is;
      free = c.push_reserved.ensures.items;
      keys = refl;
      nodes = c.discard.ensures;
      count = omega arith;
      room = c.push_reserved.ensures.capacity;
    })
