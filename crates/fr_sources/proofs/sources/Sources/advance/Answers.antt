use Rattle.std.proofs.Common.{refl}
use Rattle.fr_sources.proofs.Advanced.{advances}
use Rattle.fr_sources.proofs.sources.Sources.advance.Goals as goal

pub returns : goal.returns
returns c = advances c.args.inputs.now c.args.self.now c.settle.new.self c.set_all.new.self _ c.time_value.result (record {
  cleared_values = c.settle.ensures.values;
  none_occurring = c.settle.ensures.occurring;
  touched_first = c.settle.ensures.touched;
  rising = c.in_ok-set_all.ensures.rising;
  set_values = c.in_ok-set_all.ensures.values;
  keeps = c.in_ok-set_all.ensures.keeps;
  last_values = c.put.ensures;
  last_occurring = refl;
  last_touched = c.in_ok-push.ensures.items;
  time = c.time_value.ensures;
})
