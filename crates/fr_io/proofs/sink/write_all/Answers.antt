use Rattle.std.proofs.Common.{length, ap, arith, rules}
use Rattle.fr_io.proofs.Appending.{appends_piece}
use Rattle.fr_io.proofs.sink.write_all.Goals as goal

pub loop-at-preserved : goal.loop-at-preserved
loop-at-preserved g c = record {
  within = search rules;
  written = appends_piece _ _ _ c.args.bytes.now c.loop-at.at c.in_ok-taken.taken (search rules) c.loop-at.invariant.written c.in_ok-taken.ensures.written;
  nothing = λ e. absurd (omega (arith, ap length e));
  counts = search rules;
}
