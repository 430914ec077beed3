use Rattle.std.proofs.Common.{arith}
use Rattle.std.proofs.lemmas.Int.{ints}
use Rattle.path_tests.proofs.cells.expect_way.Goals as goal

pub find_near_way-requires-clause-dir : goal.find_near_way-requires-clause-dir
find_near_way-requires-clause-dir g c = record {
  x_within = omega (arith, ints, c.clamp.ensures.lower_bound, c.clamp.ensures.upper_bound, c.into.ensures);
  y_within = omega (arith, ints, c.clamp-2.ensures.lower_bound, c.clamp-2.ensures.upper_bound, c.into-2.ensures);
  w_within = omega (arith, ints, c.clamp-3.ensures.lower_bound, c.clamp-3.ensures.upper_bound, c.into-3.ensures);
}
