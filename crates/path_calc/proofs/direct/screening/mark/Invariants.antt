-- The marks of the crossings so far.
use Rattle.std.proofs.Common.{◌≡◌, map, take}
use Rattle.scene_parts.specs.Crossings.{is_crossing_in}
use Rattle.path_calc.proofs.direct.screening.mark.Given as goal

abbrev pub invariant-loop-crossing : goal.invariant-loop-crossing
invariant-loop-crossing l = l.marks.items ≡ map (is_crossing_in l.band) (take l.crossing-index l.crossings)
