-- No side crosses a segment so far.
use Rattle.std.proofs.Common.{◌≡◌, false, take}
use Rattle.std.specs.List.{list_any}
use Rattle.scene_parts.specs.Parts.{sides_of}
use Rattle.touch_test.specs.Crossings.{crosses_segment}
use Rattle.touch_test.proofs.crossings.crosses_any.Given as goal

abbrev pub invariant-loop-segment : goal.invariant-loop-segment
invariant-loop-segment l = list_any (λ segment. list_any (λ side. crosses_segment side segment) (sides_of l.obstacle)) (take l.segment-index l.segments) ≡ false
