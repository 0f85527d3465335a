use Rattle.std.proofs.Common.{◌+◌}
use Rattle.std.proofs.Common.{Err}
use Rattle.fr_value.specs.Data.{data_of}
use Rattle.fr_reader.proofs.reader.read_all.Goals as goal
use Rattle.fr_reader.proofs.Sizes.{sizes}
use Rattle.fr_reader.proofs.Steps.{next_item, refused, grows, has_some, same_number}
use Rattle.std.proofs.Common.{arith, ap, sym, ◌∙◌}
use Rattle.fr_value.specs.Limits.{data_levels}

pub loop-rest-preserved : goal.loop-rest-preserved
loop-rest-preserved c = record { found = next_item data_levels c.args.bytes.now c.loop-rest.items.items c.push.new.items.items c.loop-rest.rest.now c.in-Ok.item c.in-Ok.after.now c.past_gap-rest-in-Ok.result.now c.loop-rest.invariant.found c.in-Ok.ensures.found c.in_ok-push-in-Ok.ensures c.past_gap-rest-in-Ok.ensures.value; less = omega (arith, c.past_gap-rest-in-Ok.ensures.less, c.in-Ok.ensures.less, c.loop-rest.invariant.less, grows c.loop-rest.items.items c.push.new.items.items c.in-Ok.item c.in_ok-push-in-Ok.ensures) }

pub returns-in-Err-Refused-clause-refused : goal.returns-in-Err-Refused-clause-refused
returns-in-Err-Refused-clause-refused c = λ k e. refused c.args.bytes.now c.loop-rest.items.items c.loop-rest.rest.now c.loop-rest.invariant.found (c.datum.ensures.none (c.in-Err-Refused.is ∙ ap Err c.in-Err-Refused.field-0-is)) (has_some c.loop-rest.rest.now (sym c.is_empty.ensures ∙ c.loop-rest-test.true)) k (omega (arith, c.len.ensures, same_number (c.len.result + 1) k e, c.loop-rest.items.ok))

pub returns-clause-sizes : goal.returns-clause-sizes
returns-clause-sizes c = sizes c.args.bytes.now (data_of c.loop-rest.items.items) c.loop-rest.rest.now c.loop-rest.invariant.found
