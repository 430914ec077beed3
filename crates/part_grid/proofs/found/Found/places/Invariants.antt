-- The places of the sides so far.
use Rattle.std.proofs.Common.{◌≡◌, map, take}
use Rattle.part_grid.specs.Near.{place_of}
use Rattle.part_grid.proofs.found.Found.places.Given as goal

abbrev pub invariant-loop-owned : goal.invariant-loop-owned
invariant-loop-owned l = l.places.items ≡ map place_of (take l.owned-index l.owned-items)
