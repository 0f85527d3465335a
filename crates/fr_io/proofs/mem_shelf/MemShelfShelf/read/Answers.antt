use Rattle.std.proofs.Common.{ap, sym, refl, rules}
use Rattle.fr_io.proofs.Fails.{not_failed}
use Rattle.fr_io.proofs.Names.{number_of-other, count_of-other}
use Rattle.fr_io.proofs.mem_shelf.MemShelfShelf.read.Goals as goal

pub returns-in-Some-clause-others : goal.returns-in-Some-clause-others
returns-in-Some-clause-others c other differs = number_of-other _ _ _ _ c.args.name.now other c.in-Some.at _ (ap (λ (z : _). z.items) c.read_at.ensures.files) c.read_at.ensures.reached (sym c.in-Some.ensures) differs

pub returns-in-Some-clause-fails : goal.returns-in-Some-clause-fails
returns-in-Some-clause-fails c = not_failed (λ listed. search rules) (λ none. search rules)

pub returns-in_default-clause-others_stay : goal.returns-in_default-clause-others_stay
returns-in_default-clause-others_stay c other apart =
    count_of-other _ c.args.self.now.files.files.items c.args.self.now.faults.items _ c.args.name.now other c.saturating_add.result refl (search rules) apart.0
