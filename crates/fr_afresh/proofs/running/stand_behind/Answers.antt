use Rattle.std.proofs.Common.{refl, sym, ◌∙◌}
use Rattle.fr_core.specs.declared.kept.Kept.TheVariants as kept
use Rattle.fr_afresh.proofs.Instants.{stands_now}
use Rattle.fr_afresh.proofs.running.stand_behind.Goals as goal

pub returns-in-Some-2-clause-ok : goal.returns-in-Some-2-clause-ok
returns-in-Some-2-clause-ok c = λ n is_values tells.
    stands_now (record { alloc = c.args.alloc; program = c.args.program; values = c.args.values; kept = kept.Group c.args.done.around.kepts; shown = c.in-Some-2.shown }) c.args.done n is_values refl
    (sym (rw c.as_slice.ensures at c.in_ok-shown-in-None.ensures) ∙ c.in-Some-2.is) c.in-None.is tells
