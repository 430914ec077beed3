use Rattle.std.proofs.Common.{arith}
use Rattle.fix_interval.specs.Roots.{digit_at}
use Rattle.fix_interval.proofs.DigitSteps.{masked-is}
use Rattle.fix_interval.proofs.powers_of_ten.fraction_digits.taken.Goals as goal

pub returns : goal.returns
returns c =
    rw c.from.ensures (masked-is c.args.distance (digit_at c.args.fraction c.args.place) (omega arith) c.ranges.distance.fits)
