use Rattle.std.proofs.Common.{◌∙◌, None, refl}
use Rattle.fr_store.proofs.Wirings.{wires_more}
use Rattle.fr_store.proofs.wiring.unlink.Goals as goal

pub loop-place-preserved : goal.loop-place-preserved
loop-place-preserved c = record {
  lists = c.unlink_one.ensures.lists ∙ c.loop-place.invariant.lists;
  items = c.unlink_one.ensures.items ∙ c.loop-place.invariant.items;
  wired = wires_more c.args.links.now.lists c.loop-place.links.lists c.unlink_one.new.links.lists c.args.first c.loop-place.place (λ _. None) None c.loop-place.invariant.wired c.unlink_one.ensures.wired refl;
}
