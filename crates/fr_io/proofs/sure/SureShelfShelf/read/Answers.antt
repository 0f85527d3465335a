use Rattle.std.proofs.Common.{sym, Some, ℕ, ap, unwrap_or}
use Rattle.std.specs.declared.option.Option.{Option}
use Rattle.fr_io.proofs.Names.{number_of-other}
use Rattle.fr_io.proofs.sure.SureShelfShelf.read.Goals as goal

pub returns-in-Some-clause-others : goal.returns-in-Some-clause-others
returns-in-Some-clause-others c other differs = ap (λ (o : Option ℕ). Some (unwrap_or o 0))
    (number_of-other _ _ _ _ c.args.name.now other c.in-Some.at _ (ap (λ (z : _). z.items) c.read_at.ensures.files) c.read_at.ensures.reached (sym c.in-Some.ensures) differs)
