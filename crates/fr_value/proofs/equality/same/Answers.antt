use Rattle.std.proofs.lemmas.Bool.Decides.{same_from_decides}
use Rattle.fr_value.specs.Same.{is_same}
use Rattle.fr_value.proofs.Equal.{is_same-Decides}
use Rattle.fr_value.proofs.equality.same.Goals as goal

pub returns-clause-test : goal.returns-clause-test
returns-clause-test c = same_from_decides c.same_value.result (is_same c.args.a.now c.args.b.now) (c.same_value.ensures.0, c.same_value.ensures.1) (is_same-Decides c.args.a.now c.args.b.now)
