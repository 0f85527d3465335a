use Rattle.std.proofs.Common.{ℕ, List, [], ◌∷◌, ◌++◌, sym, ap, ◌∙◌, arith}
use Rattle.fr_links.specs.declared.place.Place.{Place}
use Rattle.fr_links.specs.Rings.{item_at}
use Rattle.fr_links.proofs.Growth.{one_more_item}
use Rattle.fr_links.proofs.place.add_items.Goals as goal

pub loop-item-preserved : goal.loop-item-preserved
loop-item-preserved c = record {
  long = omega (arith, c.in_ok-push.ensures.len);
  few = omega (arith, c.in_ok-push.ensures.len);
  more = record {
    more = omega (arith, c.loop-item.invariant.more.more, c.in_ok-push.ensures.len, c.loop-item.items.ok.0, c.push.new.self.ok.0);
    same = λ i.
        ap (λ (xs : List Place). item_at xs i) c.in_ok-push.ensures.items
        ∙ ap (λ (p : ℕ). item_at (c.loop-item.items.items ++ record { next = p; previous = p; ring = p } ∷ []) i) c.item_place-place.ensures
        ∙ one_more_item c.loop-item.items.items c.loop-item.item i (sym c.loop-item.items.ok.0 ∙ c.loop-item.invariant.long) ∙ c.loop-item.invariant.more.same i;
  };
}
