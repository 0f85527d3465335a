use Rattle.std.proofs.Common.{◌≡◌, drop}
use Rattle.fr_meaning.specs.Primitives.{first_bad}
use Rattle.fr_forms.proofs.applying.bad_among.Given as goal

abbrev pub invariant-loop-arg : goal.invariant-loop-arg
invariant-loop-arg l = first_bad (drop l.arg-index l.args) ≡ first_bad l.args
