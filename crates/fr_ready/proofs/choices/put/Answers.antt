use Rattle.std.proofs.Common.{List, Option, ap, ◌∙◌, arith}
use Rattle.fr_ready.specs.declared.choices.Branches.{Branches}
use Rattle.fr_ready.specs.Seen.{entries_seen}
use Rattle.fr_ready.specs.Switches.{found_at}
use Rattle.fr_ready.proofs.Table.{none_more, put_here, put_elsewhere}
use Rattle.fr_ready.proofs.choices.put.Goals as goal

pub loop-found-preserved : goal.loop-found-preserved
loop-found-preserved c =
    λ n. ap (λ (es : List (Option Branches)). found_at (entries_seen es) n) c.in_ok-push.ensures.items ∙ (none_more c.loop-found.found.items n ∙ c.loop-found.invariant n)

pub returns-clause-here : goal.returns-clause-here
returns-clause-here c = put_here c.loop-found.found.items c.args.site.0 c.args.branches (omega arith)

pub returns-clause-elsewhere : goal.returns-clause-elsewhere
returns-clause-elsewhere c = λ n h. put_elsewhere c.loop-found.found.items c.args.site.0 c.args.branches n h ∙ c.loop-found.invariant n
