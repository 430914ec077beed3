-- The cuts of the crossings so far.
use Rattle.std.proofs.Common.{◌≡◌, map, filter, take}
use Rattle.image_source.specs.LegCuts.{leg_cut_of, is_leg_crossing_in}
use Rattle.image_source.proofs.search.cuts_in.Given as goal

abbrev pub invariant-loop-leg : goal.invariant-loop-leg
invariant-loop-leg l = l.cuts.items ≡ map leg_cut_of (filter (is_leg_crossing_in l.band) (take l.leg-index l.crossings))
