-- What stands behind instant 0 of a program.
use Rattle.std.proofs.Common.{◌≡◌, List, ℕ, [], Result, Ok, Err, Option, Some, None, IfErr, IfSome, sym, subst}
use Rattle.fr_core.specs.declared.program.Program.{Program}
use Rattle.fr_meaning.specs.Afresh.{State, beginning, first_instant, instant}
use Rattle.fr_run.specs.Standing.{Standing, IsBehind, NamesChanges, HasBegun}

pub has_begun : (stands_for : State → Type 0) (e : Standing) (p : Program) → IsBehind stands_for e p (instant p (beginning p) first_instant) → NamesChanges [] e.shown e.changed
    → (e.program ≡ p) × HasBegun stands_for e
has_begun stands_for e p behind changed =
    (behind.program, record { behind = subst (λ (q : Program). IsBehind stands_for e q (instant q (beginning q) first_instant)) (sym behind.program) behind; changed = changed })
