-- Judgements of the code as those of the definitions.
use Rattle.std.specs.Prelude.{ℕ, ◌+◌, ◌&&◌, Bool, List, [], ◌∷◌}
use Rattle.fr_core.specs.Classes.{FunctionSet, Judged, judge, calls_of}
use Rattle.fr_core.specs.declared.program.Function.{Function}
use Rattle.fr_core.specs.declared.program.Program.{Program}
use Rattle.fr_purity.specs.declared.judging.Judgement.{Judgement}

-- a judgement of the code as one of the definitions
abbrev pub judged : Judgement → Judged
judged j = record { pure = j.pure; fit = j.fit }

-- pure where both are, and fit where both are
abbrev pub both : Judged → Judged → Judged
both a b = record { pure = a.pure && b.pure; fit = a.fit && b.fit }

-- for each function from this number on whether it is a member and its body is pure where calls of members are
abbrev pub pure_bodies : Program → FunctionSet → ℕ → List Function → List Bool
pure_bodies p s n [] = []
pure_bodies p s n (f ∷ fs) = (s n && (judge (calls_of p s) f.body).pure) ∷ pure_bodies p s (n + 1) fs
