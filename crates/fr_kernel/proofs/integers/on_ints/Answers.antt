use Rattle.std.proofs.lemmas.Int.{to_z-of_z}
use mir.Syntax.{w64}
use Rattle.fr_kernel.proofs.Arithmetic.{summed, multiplied, reduced, is_less, is_greater, is_at_most, is_at_least, is_equal}
use Rattle.fr_kernel.proofs.integers.on_ints.Goals as goal

pub returns-in-Add : goal.returns-in-Add
returns-in-Add c =
    let x = to_z-of_z w64 c.args.x c.ranges.x in
    let y = to_z-of_z w64 c.args.y c.ranges.y in
    rw (c.in-Add.is, summed c.args.x c.args.y c.ranges.x) (rw (c.sum.ensures, x, y) at c.int_or_range.ensures)

pub returns-in-Sub : goal.returns-in-Sub
returns-in-Sub c =
    let x = to_z-of_z w64 c.args.x c.ranges.x in
    let y = to_z-of_z w64 c.args.y c.ranges.y in
    rw (c.in-Sub.is, reduced c.args.x c.args.y) (rw (c.difference.ensures, x, y) at c.int_or_range-in-Sub.ensures)

pub returns-in-Mul : goal.returns-in-Mul
returns-in-Mul c =
    let x = to_z-of_z w64 c.args.x c.ranges.x in
    let y = to_z-of_z w64 c.args.y c.ranges.y in
    rw (c.in-Mul.is, multiplied c.args.x c.args.y c.ranges.x) (rw (c.product.ensures, x, y) at c.int_or_range-in-Mul.ensures)

pub returns-in-Less : goal.returns-in-Less
returns-in-Less c =
    let x = to_z-of_z w64 c.args.x c.ranges.x in
    let y = to_z-of_z w64 c.args.y c.ranges.y in
    rw (c.in-Less.is, is_less c.args.x c.args.y) (rw (c.less.ensures, x, y) at (c.truth.ensures c.args.m.now))

pub returns-in-Greater : goal.returns-in-Greater
returns-in-Greater c =
    let x = to_z-of_z w64 c.args.x c.ranges.x in
    let y = to_z-of_z w64 c.args.y c.ranges.y in
    rw (c.in-Greater.is, is_greater c.args.x c.args.y) (rw (c.less-in-Greater.ensures, x, y) at (c.truth-in-Greater.ensures c.args.m.now))

pub returns-in-AtMost : goal.returns-in-AtMost
returns-in-AtMost c =
    let x = to_z-of_z w64 c.args.x c.ranges.x in
    let y = to_z-of_z w64 c.args.y c.ranges.y in
    rw (c.in-AtMost.is, is_at_most c.args.x c.args.y) (rw (c.at_most.ensures, x, y) at (c.truth-in-AtMost.ensures c.args.m.now))

pub returns-in-AtLeast : goal.returns-in-AtLeast
returns-in-AtLeast c =
    let x = to_z-of_z w64 c.args.x c.ranges.x in
    let y = to_z-of_z w64 c.args.y c.ranges.y in
    rw (c.in-AtLeast.is, is_at_least c.args.x c.args.y) (rw (c.at_most-in-AtLeast.ensures, x, y) at (c.truth-in-AtLeast.ensures c.args.m.now))

pub returns-in-Equal : goal.returns-in-Equal
returns-in-Equal c =
    let x = to_z-of_z w64 c.args.x c.ranges.x in
    let y = to_z-of_z w64 c.args.y c.ranges.y in
    rw (c.in-Equal.is, is_equal c.args.x c.args.y) (rw (c.equal.ensures, x, y) at (c.truth-in-Equal.ensures c.args.m.now))
