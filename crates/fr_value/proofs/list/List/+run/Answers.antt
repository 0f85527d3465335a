use Rattle.std.proofs.Common.{◌<◌, ◌-◌, length, arith, ap, sym, ◌∙◌}
use Rattle.std.proofs.lemmas.List.{length-map}
use Rattle.std.specs.Option.{option_map}
use Rattle.fr_value.specs.Data.{datum_of, data_of, tree_data, more_data, list_data}
use Rattle.fr_value.proofs.Runs.{part_one, part_two, part_three, part_bound, part_shorter}
use Rattle.fr_value.proofs.list.List.+run.Goals as goal

pub returns-then-at-near : goal.returns-then-at-near
returns-then-at-near t c = part_one (data_of c.in-Some.b.value.front.items) (more_data c.in-Some.b.value.more) c.args.self.now c.args.at _ _ (ap (λ s. list_data (option_map (λ r. r.value) s)) (sym c.in-Some.is) ∙ c.self.view_is)
    (rw (c.deref-then-at-near-2.ensures.value, c.deref-then-at-near.ensures) at c.run_of.ensures)

pub run-requires-else-at-len : goal.run-requires-else-at-len
run-requires-else-at-len t c =
    let bound : c.args.at - c.len-near.result - c.len-len.result < length c.in-Row.rest =
    part_bound (data_of c.in-Some.b.value.front.items) (more_data c.in-Some.b.value.more) (tree_data c.in-Row.tree.value) c.in-Row.rest c.args.self.now c.args.at c.len-near.result c.len-len.result (ap (λ s. list_data (option_map (λ r. r.value) s)) (sym c.in-Some.is) ∙ c.self.view_is) (rw c.deref-in-Some.ensures at (ap more_data c.in-Row.is))
    (omega (arith, rw c.deref.ensures at c.len-near.ensures, length-map c.in-Some.b.value.front.items datum_of)) (omega (arith, c.if-at-near.false)) (rw c.deref-in-Row.ensures at c.len-len.ensures) (omega (arith, c.if-at-len.false)) c.requires in
    (omega (arith, c.decreases, part_shorter (data_of c.in-Some.b.value.front.items) (more_data c.in-Some.b.value.more) (tree_data c.in-Row.tree.value) c.in-Row.rest c.args.self.now (ap (λ s. list_data (option_map (λ r. r.value) s)) (sym c.in-Some.is) ∙ c.self.view_is) (rw c.deref-in-Some.ensures at (ap more_data c.in-Row.is))), bound)

pub returns-then-at-len : goal.returns-then-at-len
returns-then-at-len t c = part_two (data_of c.in-Some.b.value.front.items) (more_data c.in-Some.b.value.more) (tree_data c.in-Row.tree.value) c.in-Row.rest c.args.self.now c.args.at c.len-near.result _ _ (ap (λ s. list_data (option_map (λ r. r.value) s)) (sym c.in-Some.is) ∙ c.self.view_is) (rw c.deref-in-Some.ensures at (ap more_data c.in-Row.is))
    (omega (arith, rw c.deref.ensures at c.len-near.ensures, length-map c.in-Some.b.value.front.items datum_of)) (omega (arith, c.if-at-near.false)) (rw c.deref-then-at-len.ensures at c.run.ensures)

pub returns-else-at-len : goal.returns-else-at-len
returns-else-at-len t c = part_three (data_of c.in-Some.b.value.front.items) (more_data c.in-Some.b.value.more) (tree_data c.in-Row.tree.value) c.in-Row.rest c.args.self.now c.args.at c.len-near.result c.len-len.result _ _ (ap (λ s. list_data (option_map (λ r. r.value) s)) (sym c.in-Some.is) ∙ c.self.view_is) (rw c.deref-in-Some.ensures at (ap more_data c.in-Row.is))
    (omega (arith, rw c.deref.ensures at c.len-near.ensures, length-map c.in-Some.b.value.front.items datum_of)) (omega (arith, c.if-at-near.false)) (rw c.deref-in-Row.ensures at c.len-len.ensures) (omega (arith, c.if-at-len.false)) c.run-else-at-len.ensures
