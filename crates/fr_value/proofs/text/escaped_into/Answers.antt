use Rattle.fr_value.proofs.Parts.{on_err, escaped_next, escaped_so_far}
use Rattle.std.proofs.Common.{◌∙◌}
use Rattle.fr_value.proofs.text.escaped_into.Goals as goal

pub returns-in_err-byte_into-clause-part : goal.returns-in_err-byte_into-clause-part
returns-in_err-byte_into-clause-part c = on_err c.from_residual.result
    (escaped_so_far c.args.out.now.items c.byte_into.new.out.items c.args.bytes.now c.loop-b.b-index (c.in_err-byte_into.ensures.part ∙ c.loop-b.invariant))

pub loop-b-preserved : goal.loop-b-preserved
loop-b-preserved c = escaped_next c.args.out.now.items c.loop-b.out.items c.byte_into.new.out.items c.args.bytes.now c.loop-b.b-index
    c.loop-b-test.true c.loop-b.invariant c.in_ok-byte_into.ensures.whole
