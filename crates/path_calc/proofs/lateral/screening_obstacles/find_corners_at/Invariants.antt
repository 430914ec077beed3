-- The corners of the obstacles of the numbers so far.
use Rattle.std.proofs.Common.{◌≡◌, take}
use Rattle.path_calc.specs.inner.Strings.{corners_at}
use Rattle.path_calc.proofs.lateral.screening_obstacles.find_corners_at.Given as goal

abbrev pub invariant-loop-number : goal.invariant-loop-number
invariant-loop-number l = l.corners.items ≡ corners_at l.obstacles (take l.number-index l.numbers)
