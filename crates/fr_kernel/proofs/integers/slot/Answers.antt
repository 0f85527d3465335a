use Rattle.std.proofs.Common.{◌≡◌, ◌-◌, length, take, drop, refl, arith, rules}
use Rattle.std.proofs.lemmas.List.{take_all, length-drop}
use Rattle.std.proofs.lemmas.Int.{to_z-of_z}
use mir.Syntax.{w64}
use mir.Val.{SFits}
use Rattle.fr_kernel.proofs.integers.slot.Goals as goal

pub returns-in-Some : goal.returns-in-Some
returns-in-Some c =
    let fits : SFits w64 c.in-Some.n = search rules in
    let put = rw (to_z-of_z w64 c.in-Some.n fits) at c.int.ensures.1 in
    let env = drop c.args.base c.args.m.now.slots in
    let whole : take (length c.args.m.now.slots - c.args.base) env ≡ env = take_all _ env (omega (arith, length-drop c.args.base c.args.m.now.slots)) in
    let read = rw (c.as_slice.ensures, whole) at c.in-Some.ensures in
    rw (read, c.int.ensures.0, put) (record { value = refl; good = refl; clean = refl; paid = omega arith; slots = refl; held = refl })
