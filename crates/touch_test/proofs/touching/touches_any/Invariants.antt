-- The edit touches no path so far.
use Rattle.std.proofs.Common.{◌≡◌, false, take, map}
use Rattle.std.specs.List.{list_any}
use Rattle.touch_test.specs.Touches.{bundled, edit_touches}
use Rattle.touch_test.proofs.touching.touches_any.Given as goal

abbrev pub invariant-loop-bundle : goal.invariant-loop-bundle
invariant-loop-bundle l = list_any (edit_touches l.l.edit l.l.old) (map (bundled l.receiver) (take l.bundle-index l.bundles)) ≡ false
