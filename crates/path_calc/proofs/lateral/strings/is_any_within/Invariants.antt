-- None so far is large enough.
use Rattle.std.proofs.Common.{◌≡◌, false, take}
use Rattle.std.specs.List.{list_any}
use Rattle.path_calc.specs.inner.Strings.{is_within}
use Rattle.path_calc.proofs.lateral.strings.is_any_within.Given as goal

abbrev pub invariant-loop-breadth : goal.invariant-loop-breadth
invariant-loop-breadth l = list_any (is_within l.band) (take l.breadth-index l.breadths) ≡ false
