-- All sides of some obstacles, with their numbers.
use Rattle.std.specs.Prelude.{ℕ, List, map, flat_map}
use Rattle.std.specs.List.{enumerate_from}
use Rattle.scene_geom.specs.declared.plan.Side.{Side}
use Rattle.part_grid.specs.declared.owned.Owned.{Owned}

-- a side, with the number of its obstacle and its place among the sides of the obstacle
abbrev pub owned_by : ℕ → ℕ × Side → Owned
owned_by obstacle side = record { obstacle = obstacle; index = side.0; side = side.1 }

-- the sides of an obstacle with its number, in their order
abbrev pub numbered_sides : ℕ × List Side → List Owned
numbered_sides obstacle = map (owned_by obstacle.0) (enumerate_from 0 obstacle.1)

-- the sides of all obstacles, in the order of obstacles and sides: what an index of them has to be made of
abbrev pub numbered : List (List Side) → List Owned
numbered obstacles = flat_map numbered_sides (enumerate_from 0 obstacles)
