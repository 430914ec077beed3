-- The numbers found, and those that the crossings behind give, are those of all crossings.
use Rattle.std.proofs.Common.{◌≡◌, ◌++◌, drop}
use Rattle.path_calc.specs.inner.Strings.{numbers_after, numbers_in}
use Rattle.path_calc.proofs.lateral.screening_obstacles.find_numbers_in.Given as goal

abbrev pub invariant-loop-crossing : goal.invariant-loop-crossing
invariant-loop-crossing l = l.numbers.items ++ numbers_after l.band l.before (drop l.crossing-index l.crossings) ≡ numbers_in l.band l.crossings
