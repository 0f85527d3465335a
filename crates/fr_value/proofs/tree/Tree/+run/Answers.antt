use Rattle.std.proofs.Common.{◌≡◌, ◌<◌, ◌-◌, length, arith, ap, refl, subst, sym}
use Rattle.std.proofs.lemmas.List.{length-map}
use Rattle.fr_value.specs.Data.{datum_of, data_of, tree_data, kids_data, IsRun}
use Rattle.fr_value.proofs.Runs.{run_root, tree_run, part_one, part_two, part_three, part_bound, part_shorter}
use Rattle.fr_value.proofs.tree.Tree.+run.Goals as goal

pub returns-then-at-eq0 : goal.returns-then-at-eq0
returns-then-at-eq0 t c =
    let front : c.args.at ≡ 0 = omega (arith, c.if-at-eq0.true) in
    rw c.deref.ensures.value (subst (λ n. IsRun (tree_data c.args.self.now) n c.self.inside.item c.self.inside.chunk.items) (sym front) (run_root c.args.self.now c.self.inside.item c.self.inside.chunk.items (kids_data c.self.inside.kids) c.self.view_is))

pub returns-then-at-near : goal.returns-then-at-near
returns-then-at-near t c = tree_run c.args.self.now _ _ c.args.at _ _ c.self.view_is (omega (arith, c.if-at-eq0.false))
    (part_one (data_of c.self.inside.chunk.items) (kids_data c.self.inside.kids) _ (c.args.at - 1) _ _ refl (rw c.deref-then-at-near.ensures.value at c.run_of.ensures))

pub run-requires-else-at-near-2 : goal.run-requires-else-at-near-2
run-requires-else-at-near-2 t c =
    let bound : c.args.at - 1 - c.len-near.result - c.len-len.result < length (tree_data c.in-Two.b.value) =
    part_bound (data_of c.self.inside.chunk.items) (kids_data c.self.inside.kids) (tree_data c.in-Two.a.value) (tree_data c.in-Two.b.value) _ (c.args.at - 1) c.len-near.result c.len-len.result refl (ap kids_data c.in-Two.is)
    (omega (arith, c.len-near.ensures, length-map c.self.inside.chunk.items datum_of)) (omega (arith, c.if-at-near.false)) (rw c.deref-in-Two.ensures at c.len-len.ensures) (omega (arith, c.if-at-near-2.false))
    (omega (arith, c.requires, c.if-at-eq0.false, ap (λ x. length (tree_data x)) c.self.view_is)) in
    (omega (arith, c.decreases, ap (λ x. length (tree_data x)) c.deref-else-at-near-2.ensures, part_shorter (data_of c.self.inside.chunk.items) (kids_data c.self.inside.kids) (tree_data c.in-Two.a.value) (tree_data c.in-Two.b.value) _ refl (ap kids_data c.in-Two.is), ap (λ x. length (tree_data x)) c.self.view_is), rw c.deref-else-at-near-2.ensures bound)

pub returns-then-at-near-2 : goal.returns-then-at-near-2
returns-then-at-near-2 t c = tree_run c.args.self.now _ _ c.args.at _ _ c.self.view_is (omega (arith, c.if-at-eq0.false))
    (part_two (data_of c.self.inside.chunk.items) (kids_data c.self.inside.kids) (tree_data c.in-Two.a.value) (tree_data c.in-Two.b.value) _ (c.args.at - 1) c.len-near.result _ _ refl (ap kids_data c.in-Two.is)
    (omega (arith, c.len-near.ensures, length-map c.self.inside.chunk.items datum_of)) (omega (arith, c.if-at-near.false)) (rw c.deref-then-at-near-2.ensures at c.run.ensures))

pub returns-else-at-near-2 : goal.returns-else-at-near-2
returns-else-at-near-2 t c = tree_run c.args.self.now _ _ c.args.at _ _ c.self.view_is (omega (arith, c.if-at-eq0.false))
    (part_three (data_of c.self.inside.chunk.items) (kids_data c.self.inside.kids) (tree_data c.in-Two.a.value) (tree_data c.in-Two.b.value) _ (c.args.at - 1) c.len-near.result c.len-len.result _ _ refl (ap kids_data c.in-Two.is)
    (omega (arith, c.len-near.ensures, length-map c.self.inside.chunk.items datum_of)) (omega (arith, c.if-at-near.false)) (rw c.deref-in-Two.ensures at c.len-len.ensures) (omega (arith, c.if-at-near-2.false))
    (rw c.deref-else-at-near-2.ensures at c.run-else-at-near-2.ensures))
