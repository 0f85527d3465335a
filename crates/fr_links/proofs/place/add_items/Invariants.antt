use Rattle.std.proofs.Common.{◌≡◌, ◌≤◌, ◌^◌, vec_len}
use Rattle.fr_links.specs.Rings.{AreMoreItems}
use Rattle.fr_links.proofs.place.add_items.Given as goal

abbrev pub invariant-loop-item : goal.invariant-loop-item
invariant-loop-item l = record {
  long : vec_len l.items ≡ l.item;
  few : vec_len l.items ≤ 2 ^ 31;
  more : AreMoreItems l.fn.items.items l.items.items;
}
