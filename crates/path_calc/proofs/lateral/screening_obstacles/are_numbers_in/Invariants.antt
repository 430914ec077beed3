-- The numbers that the crossings behind give are to be those behind the place.
use Rattle.std.proofs.Common.{◌≡◌, ◌≤◌, length}
use Rattle.path_calc.specs.inner.Strings.{numbers_in}
use Rattle.path_calc.specs.inner.Tracing.{same_numbers}
use Rattle.path_calc.proofs.SameNumbers.{rest_same}
use Rattle.path_calc.proofs.lateral.screening_obstacles.are_numbers_in.Given as goal

abbrev pub invariant-loop-crossing : goal.invariant-loop-crossing
invariant-loop-crossing l =
    (rest_same l.band l.crossings l.numbers l.crossing-index l.before l.count ≡ same_numbers (numbers_in l.band l.crossings) l.numbers)
    × (l.count ≤ length l.numbers)
