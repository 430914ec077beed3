-- The outline meets no leg so far.
use Rattle.std.proofs.Common.{◌≡◌, false, take}
use Rattle.std.specs.List.{list_any}
use Rattle.touch_test.specs.Crossings.{meets_leg}
use Rattle.touch_test.proofs.crossings.meets_any_leg.Given as goal

abbrev pub invariant-loop-segment : goal.invariant-loop-segment
invariant-loop-segment l = list_any (meets_leg l.outline) (take l.segment-index l.segments) ≡ false
