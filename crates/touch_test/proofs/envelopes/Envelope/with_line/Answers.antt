use Rattle.touch_test.proofs.Widening.{line-held, wider-point}
use Rattle.touch_test.proofs.envelopes.Envelope.with_line.Goals as goal

pub returns-clause-line : goal.returns-clause-line
returns-clause-line c =
    line-held c.with_point-2.result c.args.p c.args.q
    (wider-point c.with_point.result c.with_point-2.result c.args.p c.with_point-2.ensures.wider c.with_point.ensures.point) c.with_point-2.ensures.point
