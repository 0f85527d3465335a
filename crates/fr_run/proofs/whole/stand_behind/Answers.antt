use Rattle.std.proofs.Common.{◌≡◌, length, arith}
use Rattle.fr_run.proofs.Changes.{all_named}
use Rattle.fr_run.proofs.whole.stand_behind.Goals as goal

pub returns-clause-changed : goal.returns-clause-changed
returns-clause-changed c before =
    let shown = c.in_ok-shown.shown.items in
    let many : c.len.result ≡ length shown = omega arith in
    all_named before shown c.len.result c.in_ok-changed.changed.items many c.in_ok-changed.ensures
