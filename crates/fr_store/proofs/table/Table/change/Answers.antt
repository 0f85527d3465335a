use Rattle.std.proofs.Common.{refl, sym, ◌∙◌, arith}
use Rattle.fr_store.proofs.Tables.{nodes_written, some_of, table_written, under_key}
use Rattle.fr_store.proofs.table.Table.change.Goals as goal

pub returns-in-Some-clause-sound : goal.returns-in-Some-clause-sound
returns-in-Some-clause-sound c =
    let n = some_of _ c.requires.there in
    let at = sym c.key.ensures ∙ c.in-Some.is in
    table_written c.args.self.now _ c.args.id.0 c.in-Some.key _ c.requires.sound (record { keys = refl; free = refl; count = refl }) (omega arith) at
    (c.write.ensures n.0 (under_key c.args.self.now c.args.id.0 c.in-Some.key n.0 at n.1))

pub returns-in-Some-clause-changed : goal.returns-in-Some-clause-changed
returns-in-Some-clause-changed c = λ n e.
    let at = sym c.key.ensures ∙ c.in-Some.is in
    nodes_written c.args.self.now (record { keys = c.args.self.now.keys; free = c.args.self.now.free; nodes = c.write.new.nodes; count = c.args.self.now.count }) c.args.id.0 c.in-Some.key _ c.requires.sound (record { keys = refl; free = refl; count = refl }) at
    (c.write.ensures n (under_key c.args.self.now c.args.id.0 c.in-Some.key n at e))
