use Rattle.std.proofs.Common.{◌≡◌, ◌++◌, drop}
use Rattle.fr_purity.specs.Judgements.{pure_bodies}
use Rattle.fr_purity.specs.Marks.{set_of}
use Rattle.fr_purity.proofs.judging.judge_bodies.Given as goal

abbrev pub invariant-loop-number : goal.invariant-loop-number
invariant-loop-number l =
    l.pure.items ++ pure_bodies l.program (set_of l.marks) l.number (drop l.number l.program.functions) ≡ pure_bodies l.program (set_of l.marks) 0 l.program.functions
