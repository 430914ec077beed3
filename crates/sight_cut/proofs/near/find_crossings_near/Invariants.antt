-- What the sides so far give.
use Rattle.std.proofs.Common.{◌≡◌, take}
use Rattle.std.specs.List.{filter_map}
use Rattle.sight_cut.proofs.Nearby.{near_sides, near_crossing}
use Rattle.sight_cut.proofs.near.find_crossings_near.Given as goal

abbrev pub invariant-loop-near : goal.invariant-loop-near
invariant-loop-near l = l.crossings.items ≡ filter_map (near_crossing l.ends l.obstacles) (take l.near-index (near_sides l.ends l.obstacles))
