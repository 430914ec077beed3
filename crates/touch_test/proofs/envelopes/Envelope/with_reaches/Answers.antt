use Rattle.std.proofs.Common.{arith, refl}
use Rattle.std.proofs.lemmas.Int.{ints}
use Rattle.touch_test.proofs.envelopes.Envelope.with_reaches.Goals as goal

pub returns-clause-wider : goal.returns-clause-wider
returns-clause-wider c = record {
  to = refl;
  west = omega (arith, ints, c.min.ensures.self_bound);
  south = omega (arith, ints, c.min-2.ensures.self_bound);
  east = omega (arith, ints, c.max.ensures.self_bound);
  north = omega (arith, ints, c.max-2.ensures.self_bound);
}
