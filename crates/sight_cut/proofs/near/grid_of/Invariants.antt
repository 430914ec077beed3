-- The sides that are there, and those of the obstacles behind, are all sides; and the number is that of the next obstacle.
use Rattle.std.proofs.Common.{◌≡◌, ◌++◌, drop, map, flat_map}
use Rattle.std.specs.List.{enumerate_from}
use Rattle.scene_parts.specs.Parts.{sides_of}
use Rattle.part_grid.specs.Numbered.{numbered_sides, numbered}
use Rattle.sight_cut.proofs.near.grid_of.Given as goal

abbrev pub invariant-loop-obstacle : goal.invariant-loop-obstacle
invariant-loop-obstacle l =
    (l.owned.items ++ flat_map numbered_sides (enumerate_from l.obstacle-index (map sides_of (drop l.obstacle-index l.obstacles))) ≡ numbered (map sides_of l.obstacles))
    × (l.number ≡ l.obstacle-index)
