-- The sides that are there, and those behind, are all sides.
use Rattle.std.proofs.Common.{◌≡◌, ◌++◌, drop, map}
use Rattle.std.specs.List.{enumerate_from}
use Rattle.scene_parts.specs.Parts.{sides_of}
use Rattle.part_grid.specs.Numbered.{owned_by, numbered_sides}
use Rattle.sight_cut.proofs.near.add_sides.Given as goal

abbrev pub invariant-loop-index : goal.invariant-loop-index
invariant-loop-index l =
    l.owned.items ++ map (owned_by l.number) (enumerate_from l.index (drop l.index (sides_of l.obstacle)))
    ≡ l.initial.owned.items ++ numbered_sides (l.number, sides_of l.obstacle)
