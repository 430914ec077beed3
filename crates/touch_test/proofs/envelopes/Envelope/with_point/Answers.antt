use Rattle.touch_test.proofs.Widening.{wider-self}
use Rattle.touch_test.proofs.envelopes.Envelope.with_point.Goals as goal

pub returns-then-holds-clause-wider : goal.returns-then-holds-clause-wider
returns-then-holds-clause-wider c = wider-self c.args.self
