-- What is listed, and what the sides behind give, is what all sides give.
use Rattle.std.proofs.Common.{◌≡◌, ◌++◌, drop, map}
use Rattle.std.specs.List.{enumerate_from, filter_map}
use Rattle.scene_parts.specs.Parts.{sides_of}
use Rattle.part_grid.specs.Numbered.{owned_by}
use Rattle.image_source.specs.Facing.{facing_in, facing_of}
use Rattle.image_source.proofs.facing.add_facing.Given as goal

abbrev pub invariant-loop-index : goal.invariant-loop-index
invariant-loop-index l =
    l.found.items ++ filter_map (facing_in l.at l.obstacle) (map (owned_by l.number) (enumerate_from l.index (drop l.index (sides_of l.obstacle))))
    ≡ l.initial.found.items ++ facing_of l.at (l.number, l.obstacle)
