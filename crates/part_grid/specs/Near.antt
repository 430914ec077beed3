-- The sides near a segment, and those within a box.
use Rattle.std.specs.Prelude.{List, map, filter}
use Rattle.scene_geom.specs.declared.plan.Pt.{Pt}
use Rattle.part_grid.specs.declared.owned.Owned.{Owned}
use Rattle.part_grid.specs.declared.owned.Place.{Place}
use Rattle.part_grid.specs.Cells.{cells_meet_of, boxes_meet}

-- the numbers of a side
abbrev pub place_of : Owned → Place
place_of owned = record { obstacle = owned.obstacle; index = owned.index }

-- the sides whose cells meet the walk from p to q, in their order, and their places
abbrev pub sides_near : Pt → Pt → List Owned → List Owned
sides_near p q sides = filter (λ owned. cells_meet_of owned.side p q) sides

abbrev pub near_of : Pt → Pt → List Owned → List Place
near_of p q sides = map place_of (sides_near p q sides)

-- the sides whose cells meet those of a box, in their order, and their places
abbrev pub sides_within : Pt → Pt → List Owned → List Owned
sides_within low high sides = filter (λ owned. boxes_meet owned.side low high) sides

abbrev pub near_box_of : Pt → Pt → List Owned → List Place
near_box_of low high sides = map place_of (sides_within low high sides)
