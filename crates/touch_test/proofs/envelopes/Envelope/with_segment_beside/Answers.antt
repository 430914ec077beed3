use Rattle.std.proofs.Common.{subst, sym}
use Rattle.touch_test.specs.Envelopes.{HoldsSegment}
use Rattle.touch_test.proofs.Widening.{wider-self}
use Rattle.touch_test.proofs.envelopes.Envelope.with_segment_beside.Goals as goal

pub returns-then-is_straight-clause-wider : goal.returns-then-is_straight-clause-wider
returns-then-is_straight-clause-wider c = wider-self c.args.self

pub returns-then-is_straight-clause-segment : goal.returns-then-is_straight-clause-segment
returns-then-is_straight-clause-segment c = subst (HoldsSegment c.args.self) (sym (c.is_straight.ensures c.if-is_straight.true)) c.requires.line
