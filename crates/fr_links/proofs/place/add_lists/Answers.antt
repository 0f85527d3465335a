use Rattle.std.proofs.Common.{ℕ, List, [], ◌∷◌, ◌++◌, sym, ap, ◌∙◌, arith}
use Rattle.fr_links.specs.declared.place.Ends.{Ends}
use Rattle.fr_links.specs.Rings.{ends_at}
use Rattle.fr_links.proofs.Growth.{one_more_list}
use Rattle.fr_links.proofs.place.add_lists.Goals as goal

pub loop-list-preserved : goal.loop-list-preserved
loop-list-preserved c = record {
  long = omega (arith, c.in_ok-push.ensures.len);
  few = omega (arith, c.in_ok-push.ensures.len);
  more = record {
    more = omega (arith, c.loop-list.invariant.more.more, c.in_ok-push.ensures.len, c.loop-list.lists.ok.0, c.push.new.self.ok.0);
    same = λ i.
        ap (λ (xs : List Ends). ends_at xs i) c.in_ok-push.ensures.items
        ∙ ap (λ (p : ℕ). ends_at (c.loop-list.lists.items ++ record { first = p; last = p } ∷ []) i) c.list_place-place.ensures
        ∙ one_more_list c.loop-list.lists.items c.loop-list.list i (sym c.loop-list.lists.ok.0 ∙ c.loop-list.invariant.long) ∙ c.loop-list.invariant.more.same i;
  };
}
