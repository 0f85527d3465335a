use Rattle.std.proofs.Common.{◌≡◌, ap, ◌∙◌, length}
use Rattle.fr_meaning.specs.Afresh.{sources_at, beginning, first_instant}
use Rattle.fr_sources.proofs.Afterwards.{all_long, begins, begins_silent}
use Rattle.fr_sources.proofs.Listed.{have_none}
use Rattle.fr_sources.proofs.sources.Sources.first.Goals as goal

pub returns : goal.returns
returns c =
    let p = c.args.program.now in
    let is : c.put.new.values.items ≡ sources_at p (beginning p).values first_instant =
    rw (c.put.ensures, c.in_ok-put_firsts.ensures, c.as_slice.ensures, c.in_ok-values.ensures, c.in_ok-last_source_of.ensures, c.time_value.ensures) (begins p c.requires) in
    record {
      values = is;
      long = ap length is ∙ all_long p (beginning p).values first_instant;
      occurring = rw is (begins_silent p c.new.result.items);
      occurring_within = rw c.new.ensures.items (have_none c.put.new.values.items);
      touched_within = rw c.new-2.ensures.items (have_none c.put.new.values.items);
    }
