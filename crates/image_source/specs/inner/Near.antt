-- The sides among which those are looked for that cross a leg.
use Rattle.std.specs.Prelude.{Bool}
use Rattle.scene_geom.specs.declared.reflection.Reflection.{Reflection}
use Rattle.scene_geom.specs.Fraction.{rest_of}
use Rattle.scene_parts.specs.declared.screening.ends.Ends.{Ends}
use Rattle.part_grid.specs.declared.owned.Owned.{Owned}
use Rattle.part_grid.specs.Ways.{cells_meet_way}
use Rattle.image_source.specs.declared.leg.Leg.{Leg}
use Rattle.image_source.specs.declared.leg.Leg.TheVariants.{First, Second}

-- the cells of a side meet a leg: the first leads from the source to the wall, the second from the receiver
abbrev pub is_near : Leg → Reflection → Ends → Owned → Bool
is_near First path ends owned = cells_meet_way owned.side ends.s path.first path.p
is_near Second path ends owned = cells_meet_way owned.side ends.r path.second (rest_of path.p)
