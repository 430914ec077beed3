-- What is listed, and what the obstacles behind give, is what all obstacles give; and the number is that of the next obstacle.
use Rattle.std.proofs.Common.{◌≡◌, ◌++◌, drop, flat_map}
use Rattle.std.specs.List.{enumerate_from}
use Rattle.image_source.specs.Facing.{facing_of, facing_sides}
use Rattle.image_source.proofs.facing.FacingSides.of.Given as goal

abbrev pub invariant-loop-obstacle : goal.invariant-loop-obstacle
invariant-loop-obstacle l = record {
  listed : l.sides.items ++ flat_map (facing_of l.at) (enumerate_from l.obstacle-index (drop l.obstacle-index l.obstacles)) ≡ facing_sides l.at l.obstacles;
  next : l.number ≡ l.obstacle-index;
}
