use Rattle.std.proofs.Common.{arith}
use Rattle.std.proofs.lemmas.Int.{ints}
use Rattle.fix_interval.specs.Units.{unit}
use Rattle.level_contours.proofs.comparing.reaches.Goals as goal

pub returns-then-end-ge-FAR : goal.returns-then-end-ge-FAR
unfolding unit
returns-then-end-ge-FAR c = omega (arith, ints)

pub returns-then-end : goal.returns-then-end
unfolding unit
returns-then-end c = omega (arith, ints)
