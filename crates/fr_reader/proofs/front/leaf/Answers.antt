use Rattle.std.proofs.Common.{sym, ◌∙◌, subst, ◌≡◌, ◌==◌, true, length}
use Rattle.fr_value.specs.Bytes.{atom}
use Rattle.fr_value.proofs.Meet.{empty_atom}
use Rattle.fr_reader.proofs.front.leaf.Goals as goal

pub returns-then-is_empty-clause-none : goal.returns-then-is_empty-clause-none
returns-then-is_empty-clause-none c = λ e d h. empty_atom (atom c.args.bytes.now) d (subst (λ x. (length x == 0) ≡ true) c.atom.ensures.value (sym c.is_empty.ensures ∙ c.if-is_empty.true)) h
