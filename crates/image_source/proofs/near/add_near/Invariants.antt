-- What the sides so far give.
use Rattle.std.proofs.Common.{◌≡◌, ◌++◌, take}
use Rattle.std.specs.List.{filter_map}
use Rattle.image_source.proofs.Nearby.{near_sides, near_crossing}
use Rattle.image_source.proofs.near.add_near.Given as goal

abbrev pub invariant-loop-near : goal.invariant-loop-near
invariant-loop-near l =
    l.crossings.items ≡ l.initial.crossings.items ++ filter_map (near_crossing l.leg l.m l.ends l.obstacles) (take l.near-index (near_sides l.leg l.m l.ends l.obstacles))
