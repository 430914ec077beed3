-- No side so far crosses the way.
use Rattle.std.proofs.Common.{◌≡◌, false, take}
use Rattle.std.specs.List.{list_any}
use Rattle.scene_parts.specs.Parts.{sides_of}
use Rattle.touch_test.specs.Crossings.{crosses_line}
use Rattle.touch_test.proofs.crossings.crosses_line.Given as goal

abbrev pub invariant-loop-i : goal.invariant-loop-i
invariant-loop-i l = list_any (λ side. crosses_line side l.p l.q) (take l.i (sides_of l.obstacle)) ≡ false
