use Rattle.std.proofs.Common.{◌≡◌}
use Rattle.std.proofs.Common.{length, false}
use Rattle.fr_value.specs.Data.{datum_of}
use Rattle.fr_value.specs.Grammar.{begins}
use Rattle.fr_value.specs.Bytes.{past_gap}
use Rattle.fr_reader.proofs.reader.read_one.Goals as goal
use Rattle.std.proofs.Common.{◌==◌}
use Rattle.fr_reader.proofs.Steps.{not_one, has_some}
use Rattle.std.proofs.Common.{sym, subst, ◌∙◌}
use Rattle.fr_value.specs.Limits.{data_levels}

pub returns-else-is_empty-clause-refused : goal.returns-else-is_empty-clause-refused
returns-else-is_empty-clause-refused c = λ e d h. not_one c.args.bytes.now (datum_of c.in_ok-item.item) c.in_ok-item.after.now (subst (λ x. begins data_levels x (datum_of c.in_ok-item.item) c.in_ok-item.after.now) c.past_gap.ensures.value c.in_ok-item.ensures.found) (has_some (past_gap c.in_ok-item.after.now) (subst (λ x. (length x == 0) ≡ false) c.past_gap-2.ensures.value (sym c.is_empty.ensures ∙ c.if-is_empty.false))) d h
