use Rattle.std.proofs.Common.{◌≡◌}
use Rattle.fix_interval.specs.Values.{mul_of}
use Rattle.fix_interval.proofs.Squares.{from_zero, sum-of-squares}
use Rattle.fix_interval.proofs.roots.hypotenuse.hypotenuse.Goals as goal

pub returns-in-Some-Some : goal.returns-in-Some-Some
returns-in-Some-Some c =
    let first = c.in-Some-Some.first in
    let second = c.in-Some-Some.second in
    let a_is : mul_of c.args.a c.args.a ≡ from_zero first.lo first.hi = rw c.in-Some-Some.is-0 at c.short_square.ensures in
    let b_is : mul_of c.args.b c.args.b ≡ from_zero second.lo second.hi = rw c.in-Some-Some.is-1 at c.short_square-2.ensures in
    rw (a_is, b_is, sum-of-squares first.lo first.hi second.lo second.hi first.ordered second.ordered first.short second.short)
    c.root_of_sum.ensures
