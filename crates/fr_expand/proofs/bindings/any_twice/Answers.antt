use Rattle.std.proofs.Common.{sym}
use Rattle.fr_expand.proofs.Repeats.{twice, once, has_next}
use Rattle.fr_expand.proofs.bindings.any_twice.Goals as goal

pub returns-then-not-branch : goal.returns-then-not-branch
returns-then-not-branch c =
    sym (twice c.args.names.now c.loop-name.name-index c.name-item.result c.as_str.result c.loop-name.seen c.in_ok-insert.field-0 c.loop-name-test.true c.name-item.is c.as_str.ensures
    c.loop-name.invariant.seen c.in_ok-insert.ensures.added c.if-not-branch.true)

pub loop-name-preserved : goal.loop-name-preserved
loop-name-preserved c = record {
  seen = has_next c.args.names.now c.loop-name.name-index c.name-item.result c.as_str.result c.loop-name.seen c.insert.new.self c.loop-name-test.true c.name-item.is c.as_str.ensures
      c.loop-name.invariant.seen c.in_ok-insert.ensures.updates;
  apart = once c.args.names.now c.loop-name.name-index c.name-item.result c.as_str.result c.loop-name.seen c.in_ok-insert.field-0 c.loop-name-test.true c.name-item.is c.as_str.ensures
      c.loop-name.invariant.seen c.loop-name.invariant.apart c.in_ok-insert.ensures.added c.if-not-branch.false;
}
