-- The box is wider than it was, and holds the direct line and the segments so far.
use Rattle.std.proofs.Common.{take}
use Rattle.std.specs.Prelude.{All}
use Rattle.scene_geom.specs.Direction.{direct}
use Rattle.path_shape.specs.Outlines.{whole}
use Rattle.touch_test.specs.Envelopes.{HoldsSegment, HoldsWay, IsWider}
use Rattle.touch_test.proofs.envelopes.Envelope.with_path.Given as goal

abbrev pub invariant-loop-segment : goal.invariant-loop-segment
invariant-loop-segment l =
    IsWider l.fn.self l.envelope × HoldsWay l.envelope l.bundle.at (direct l.bundle.at l.envelope.to) whole
    × All (HoldsSegment l.envelope) (take l.segment-index l.bundle.segs)
