use Rattle.std.proofs.Common.{◌≡◌, ◌+◌, ◌<◌, ℕ, false, length, sym, ap, ◌∙◌, subst, arith}
use Rattle.fr_links.specs.Lists.{has_item, list_at}
use Rattle.fr_store.specs.Kept.{first_at, room_at}
use Rattle.fr_store.proofs.Stores.{listed_table, next_below, next_idle, next_near}
use Rattle.fr_store.proofs.store.prepare.Goals as goal

pub widen-requires-clause-near : goal.widen-requires-clause-near
widen-requires-clause-near c =
    let a = next_near c.reserve.new.self c.reserve.ensures.sound in
    let e = c.next.ensures in
    let len : length c.reserve.new.self.keys.items ≡ length c.args.table.now.keys.items = ap length c.reserve.ensures.same.numbers.keys in
    let r = c.requires.runs in
    omega arith

pub widen-requires-clause-few : goal.widen-requires-clause-few
widen-requires-clause-few c =
    let e = c.next.ensures in
    let n = c.reserve.ensures.same.numbers.count in
    let few = c.requires.few in
    let lt : c.reserve.new.self.count < 4194304 = omega arith in
    let a = next_below c.reserve.new.self 4194304 c.reserve.ensures.sound lt c.reserve.ensures.sound.few in
    omega arith

pub widen-requires-clause-idle : goal.widen-requires-clause-idle
widen-requires-clause-idle c =
    let len : length c.reserve.new.self.keys.items ≡ length c.args.table.now.keys.items = ap length c.reserve.ensures.same.numbers.keys in
    subst (λ (k : ℕ). (l p : ℕ) → p < room_at c.args.edges.now.runs.items k → has_item (list_at c.args.edges.now.links.lists l) (first_at c.args.edges.now.runs.items k + p) ≡ false)
    (sym c.next.ensures)
    (next_idle c.reserve.new.self c.args.edges.now c.reserve.ensures.sound (c.requires.runs ∙ sym len)
    (listed_table c.args.edges.now c.args.table.now c.reserve.new.self c.requires.listed c.reserve.ensures.same))
