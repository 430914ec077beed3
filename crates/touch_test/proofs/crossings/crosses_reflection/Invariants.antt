-- No side so far crosses a leg.
use Rattle.std.proofs.Common.{◌≡◌, false, take}
use Rattle.std.specs.List.{list_any}
use Rattle.scene_parts.specs.Parts.{sides_of}
use Rattle.touch_test.specs.Crossings.{crosses_legs}
use Rattle.touch_test.proofs.crossings.crosses_reflection.Given as goal

abbrev pub invariant-loop-i : goal.invariant-loop-i
invariant-loop-i l = list_any (λ side. crosses_legs side l.path l.s l.r) (take l.i (sides_of l.obstacle)) ≡ false
