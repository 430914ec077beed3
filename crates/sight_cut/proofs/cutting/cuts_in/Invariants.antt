-- The cuts of the crossings so far.
use Rattle.std.proofs.Common.{◌≡◌, map, filter, take}
use Rattle.scene_parts.specs.Crossings.{cut_of, is_crossing_in}
use Rattle.sight_cut.proofs.cutting.cuts_in.Given as goal

abbrev pub invariant-loop-crossing : goal.invariant-loop-crossing
invariant-loop-crossing l = l.cuts.items ≡ map cut_of (filter (is_crossing_in l.band) (take l.crossing-index l.crossings))
