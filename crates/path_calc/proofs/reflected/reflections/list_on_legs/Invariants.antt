-- The crossings so far.
use Rattle.std.proofs.Common.{◌≡◌, take}
use Rattle.path_calc.specs.inner.Hearing.{crossings_on}
use Rattle.path_calc.proofs.reflected.reflections.list_on_legs.Given as goal

abbrev pub invariant-loop-crossing : goal.invariant-loop-crossing
invariant-loop-crossing l = l.crossings.items ≡ crossings_on (take l.crossing-index l.legs)
