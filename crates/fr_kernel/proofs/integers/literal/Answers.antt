use Rattle.std.proofs.Common.{refl, arith, rules}
use Rattle.std.proofs.lemmas.Int.{to_z-of_z}
use mir.Syntax.{w64}
use mir.Val.{SFits}
use Rattle.fr_kernel.proofs.integers.literal.Goals as goal

pub returns-in-Some : goal.returns-in-Some
returns-in-Some c =
    let fits : SFits w64 c.in-Some.n = search rules in
    let put = rw (to_z-of_z w64 c.in-Some.n fits) at c.int.ensures.1 in
    rw (c.in-Some.ensures, c.int.ensures.0, put) (record { value = refl; good = refl; clean = refl; paid = omega arith; slots = refl; held = refl })
