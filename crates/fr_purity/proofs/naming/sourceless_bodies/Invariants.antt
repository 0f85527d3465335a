use Rattle.std.proofs.Common.{◌≡◌, ◌++◌, drop, length, map}
use Rattle.fr_core.specs.Classes.{names_only}
use Rattle.fr_purity.specs.Marks.{below}
use Rattle.fr_purity.proofs.naming.sourceless_bodies.Given as goal

abbrev pub invariant-loop-function : goal.invariant-loop-function
invariant-loop-function l =
    l.marks.items ++ map (λ f. names_only (below (length l.functions)) f.body) (drop l.function-index l.functions) ≡ map (λ f. names_only (below (length l.functions)) f.body) l.functions
