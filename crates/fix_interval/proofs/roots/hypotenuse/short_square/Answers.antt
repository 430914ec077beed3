use Rattle.fix_interval.proofs.Squares.{square-from_zero, square-to_zero}
use Rattle.fix_interval.proofs.roots.hypotenuse.short_square.Goals as goal

pub returns-in-Some : goal.returns-in-Some
returns-in-Some c =
    let size = c.in-Some.size in
    rw (c.in-Some.ensures, c.squared.ensures.low, c.squared.ensures.high)
    (square-from_zero size.least size.greatest size.ordered size.short)

pub returns-in-Some-size_to_zero : goal.returns-in-Some-size_to_zero
returns-in-Some-size_to_zero c =
    let size = c.in-Some-size_to_zero.size in
    rw (c.in-Some-size_to_zero.ensures, c.squared-in-Some-size_to_zero.ensures.low, c.squared-in-Some-size_to_zero.ensures.high)
    (square-to_zero size.least size.greatest size.ordered size.short)
