-- No side so far mirrors the source to the receiver.
use Rattle.std.proofs.Common.{◌≡◌, false, take}
use Rattle.std.specs.List.{list_any}
use Rattle.scene_parts.specs.Parts.{sides_of}
use Rattle.image_source.specs.Mirrors.{has_mirror}
use Rattle.touch_test.proofs.parts.mirrors.Given as goal

abbrev pub invariant-loop-i : goal.invariant-loop-i
invariant-loop-i l = list_any (λ side. has_mirror l.obstacle side l.ends) (take l.i (sides_of l.obstacle)) ≡ false
