use Rattle.std.proofs.Common.{sym, ◌∙◌, arith}
use Rattle.fr_sources.proofs.Sets.{next_written, is_found, is_there}
use Rattle.fr_sources.proofs.Steps.{keeps_both}
use Rattle.fr_sources.proofs.sources.Sources.set_all.Goals as goal
use Rattle.fr_sources.proofs.sources.Sources.set_all.Goals.{in-Some+in-Some-value_of+in_ok-share+in_ok-set, in-Some+in_default-value_of, in_default}

pub loop-i-preserved : goal.loop-i-preserved
loop-i-preserved c = elim c.match-source_at.branch [
  | in-Some+in-Some-value_of+in_ok-share+in_ok-set w ↦ record {
    values = rw (w.self-is, w.in_ok-set.ensures.values, w.in_ok-share.ensures)
        (next_written c.args.sets.now c.loop-i.i c.loop-i.self.values.items w.in-Some.source w.in-Some-value_of.value.now c.len-i-end.ensures.rising (sym w.in-Some.ensures) (sym w.in-Some-value_of.ensures)
        ∙ c.loop-i.invariant.values);
    keeps = rw w.self-is (keeps_both c.args.self.now c.loop-i.self w.set.new.self c.loop-i.invariant.keeps w.in_ok-set.ensures.keeps);
  }
  | in-Some+in_default-value_of w ↦ absurd (is_found c.args.sets.now c.loop-i.i w.in-Some.source c.len-i-end.ensures.rising (sym w.in-Some.ensures) (sym w.in_default-value_of.ensures))
  | in_default w ↦ absurd (is_there c.args.sets.now c.loop-i.i (omega arith) (sym w.in_default.ensures))
]
