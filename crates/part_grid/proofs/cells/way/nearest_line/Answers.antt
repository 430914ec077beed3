use Rattle.std.proofs.Common.{arith}
use Rattle.std.proofs.lemmas.Int.{ints, clamps}
use Rattle.part_grid.proofs.cells.way.nearest_line.Goals as goal

pub overflow_cast-result-2 : goal.overflow_cast-result-2
overflow_cast-result-2 c = omega (arith, ints, clamps, c.min.ensures.value, c.max-inside.ensures.value)

pub returns : goal.returns
returns c = omega (arith, ints, clamps, c.min.ensures.value, c.max-inside.ensures.value)
