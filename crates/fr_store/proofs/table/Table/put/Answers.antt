use Rattle.std.proofs.Common.{◌≤◌, ◌<◌, ℕ, ◌++◌, ◌+◌, length, Option, Some, refl, sym, ap, ◌∙◌, subst}
use Rattle.std.specs.Option.{option_to_list}
use Rattle.std.specs.Vec.{with_item}
use Rattle.fr_store.specs.Nodes.{placed}
use Rattle.fr_store.specs.Kept.{nodes_of}
use Rattle.fr_store.proofs.Tables.{added_placed, added_table, free_within, no_items, reused_placed, reused_table}
use Rattle.fr_store.proofs.table.Table.put.Goals as goal

pub index_mut-requires : goal.index_mut-requires
index_mut-requires c =
    let lt = free_within c.args.self.now c.pop.new.self.items c.in-Some.number c.requires.sound
    (c.pop.ensures.items ∙ ap (λ (o : Option ℕ). c.pop.new.self.items ++ option_to_list o) c.in-Some.is) in
    subst (λ (n : ℕ). c.in-Some.number < n) (sym c.args.self.now.keys.ok.0) lt

pub returns-in-Some-clause-sound : goal.returns-in-Some-clause-sound
returns-in-Some-clause-sound c =
    reused_table c.args.self.now _ c.in-Some.number c.insert_reserved.result c.args.node c.requires.sound (record {
      free = c.pop.ensures.items ∙ ap (λ (o : Option ℕ). c.pop.new.self.items ++ option_to_list o) c.in-Some.is;
      keys = refl;
      vacant = c.insert_reserved.ensures.was_vacant;
      nodes = c.insert_reserved.ensures.updates;
      count = refl;
      room = c.pop.ensures.capacity;
    })

pub returns-in-Some-clause-placed : goal.returns-in-Some-clause-placed
returns-in-Some-clause-placed c =
    reused_placed c.args.self.now (record {
      keys = with_item c.args.self.now.keys c.in-Some.number (Some c.insert_reserved.result);
      free = c.pop.new.self;
      nodes = c.insert_reserved.new.self;
      count = c.args.self.now.count + 1;
    }) c.in-Some.number c.insert_reserved.result c.args.node c.requires.sound (record {
      free = c.pop.ensures.items ∙ ap (λ (o : Option ℕ). c.pop.new.self.items ++ option_to_list o) c.in-Some.is;
      keys = refl;
      vacant = c.insert_reserved.ensures.was_vacant;
      nodes = c.insert_reserved.ensures.updates;
      count = refl;
      room = c.pop.ensures.capacity;
    })

pub returns-in-None-clause-sound : goal.returns-in-None-clause-sound
returns-in-None-clause-sound c =
    added_table c.args.self.now _ c.insert_reserved.result c.args.node c.requires.sound (record {
      none = no_items c.args.self.now.free.items (sym c.args.self.now.free.ok.0 ∙ c.in-None.ensures.cases.0);
      free = no_items c.pop.new.self.items (sym c.pop.new.self.ok.0 ∙ c.in-None.ensures.cases.1);
      keys = c.push_reserved.ensures.items;
      vacant = c.insert_reserved.ensures.was_vacant;
      nodes = c.insert_reserved.ensures.updates;
      count = refl;
      few = c.requires.few;
      room = subst (λ (n : ℕ). length c.args.self.now.keys.items + 1 ≤ n) (sym c.pop.ensures.capacity) c.requires.ready.free;
    })

pub returns-in-None-clause-placed : goal.returns-in-None-clause-placed
returns-in-None-clause-placed c =
    added_placed c.args.self.now (record {
      keys = c.push_reserved.new.self;
      free = c.pop.new.self;
      nodes = c.insert_reserved.new.self;
      count = c.args.self.now.count + 1;
    }) c.insert_reserved.result c.args.node c.requires.sound (record {
      none = no_items c.args.self.now.free.items (sym c.args.self.now.free.ok.0 ∙ c.in-None.ensures.cases.0);
      free = no_items c.pop.new.self.items (sym c.pop.new.self.ok.0 ∙ c.in-None.ensures.cases.1);
      keys = c.push_reserved.ensures.items;
      vacant = c.insert_reserved.ensures.was_vacant;
      nodes = c.insert_reserved.ensures.updates;
      count = refl;
      few = c.requires.few;
      room = subst (λ (n : ℕ). length c.args.self.now.keys.items + 1 ≤ n) (sym c.pop.ensures.capacity) c.requires.ready.free;
    })
    ∙ ap (λ (i : ℕ). placed (nodes_of c.args.self.now) i c.args.node) (sym (c.len-number.ensures ∙ c.args.self.now.keys.ok.0))
