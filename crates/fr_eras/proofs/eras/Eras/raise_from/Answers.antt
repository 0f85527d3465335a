use Rattle.std.proofs.Common.{ℕ, sym, subst}
use Rattle.fr_eras.specs.Lives.{Lives, members}
use Rattle.fr_eras.specs.Heights.{AreLevelledBut, IsAbove, RisesAlong, height_at}
use Rattle.fr_eras.proofs.eras.Eras.raise_from.Goals as goal

pub raise_all-requires-clause-levelled : goal.raise_all-requires-clause-levelled
raise_all-requires-clause-levelled g c =
    subst (λ (l : Lives). AreLevelledBut (IsAbove c.args.store.now (members l)) (height_at c.args.store.now) c.args.id.0) (sym c.self.view_is) c.requires.levelled

pub raise_all-requires-clause-ordered : goal.raise_all-requires-clause-ordered
raise_all-requires-clause-ordered g c =
    subst (λ (l : Lives). (rank : ℕ → ℕ) × RisesAlong (IsAbove c.args.store.now (members l)) rank) (sym c.self.view_is) c.requires.ordered
