use Rattle.std.proofs.Common.{◌≡◌, ◌≤◌, ◌^◌, vec_len}
use Rattle.fr_links.specs.Rings.{AreMoreLists}
use Rattle.fr_links.proofs.place.add_lists.Given as goal

abbrev pub invariant-loop-list : goal.invariant-loop-list
invariant-loop-list l = record {
  long : vec_len l.lists ≡ l.list;
  few : vec_len l.lists ≤ 2 ^ 31;
  more : AreMoreLists l.fn.lists.items l.lists.items;
}
