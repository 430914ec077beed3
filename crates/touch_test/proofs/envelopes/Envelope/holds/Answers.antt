use Rattle.std.proofs.Common.{arith}
use Rattle.std.proofs.lemmas.Int.{ints}
use Rattle.touch_test.proofs.envelopes.Envelope.holds.Goals as goal

pub returns-then-lies_between : goal.returns-then-lies_between
returns-then-lies_between c is =
    let x = c.lies_between.ensures c.if-lies_between.true in
    let y = c.lies_between-then-lies_between.ensures is in
    record {
      x = (omega (arith, ints, c.into.ensures, x.0), omega (arith, ints, c.into.ensures, x.1));
      y = (omega (arith, ints, c.into-then-lies_between.ensures, y.0), omega (arith, ints, c.into-then-lies_between.ensures, y.1));
    }
