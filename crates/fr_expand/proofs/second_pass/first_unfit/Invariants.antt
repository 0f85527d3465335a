use Rattle.std.proofs.Common.{◌≡◌, List}
use Rattle.std.specs.Slice.Iter.{iter_rest}
use Rattle.fr_syntax.specs.Outlines.{Global}
use Rattle.fr_expand.specs.Expansion.{program_in}
use Rattle.fr_expand.proofs.Unfit.{Gone}
use Rattle.fr_expand.proofs.second_pass.first_unfit.Given as goal

abbrev pub invariant-loop-at : goal.invariant-loop-at
invariant-loop-at l = (globals : List Global) → l.program ≡ program_in globals l.forms → Gone globals l.program l.forms l.at (iter_rest l.functions) (iter_rest l.items)
