-- The sides of obstacles that may reflect to a place, whatever the source. Of a side the height of neither end is asked
-- here: that a path passes no higher than the wall is asked last.
use Rattle.std.specs.Prelude.{ℕ, pos, Bool, not, ◌&&◌, ◌==◌, List, flat_map, Option}
use Rattle.std.specs.Bool.{then_some}
use Rattle.std.specs.List.{enumerate_from, filter_map}
use Rattle.std.specs.Ordering.{int_eq}
use Rattle.scene_geom.specs.declared.plan.Pt.{Pt}
use Rattle.scene_geom.specs.declared.plan.Side.{Side}
use Rattle.scene_geom.specs.Point.{orient_of}
use Rattle.scene_geom.specs.Reflection.{are_on_one_side, specular}
use Rattle.scene_parts.specs.Parts.{Obstacle, sides_of}
use Rattle.part_grid.specs.declared.owned.Owned.{Owned}
use Rattle.part_grid.specs.Numbered.{numbered_sides}
use Rattle.image_source.specs.Mirrors.{strikes, faces}

-- a side of an obstacle, with its numbers, which may reflect to a place
pub record FacingSide : Type 0 where
  pub owned : Owned
  pub at : Pt

-- a side of an obstacle may reflect to a place: the surface isn't taken as absorbing, and the place is off the side's
-- line and in front of it
abbrev pub may_reflect_to : Pt → Obstacle → Side → Bool
may_reflect_to at o side =
    not (o.rho == 0) && (not (int_eq (orient_of side.from side.to at) (pos 0)) && faces o.shape o.points side at)

-- a side may mirror what is at s to what is at r: both are strictly on one side of its line, and the specular point
-- lies strictly between its ends. Of a path heights are left out
abbrev pub may_mirror : Side → Pt → Pt → Bool
may_mirror side s r =
    are_on_one_side side s r && strikes side (record { s = s; hs = 0; r = r; hr = 0 }) (specular side s r)

-- a side of an obstacle, where it may reflect to a place
abbrev pub facing_in : Pt → Obstacle → Owned → Option FacingSide
facing_in at o owned = then_some (may_reflect_to at o owned.side) (record { owned = owned; at = at })

-- those of an obstacle with its number, and of all obstacles, in the order of obstacles and sides
abbrev pub facing_of : Pt → ℕ × Obstacle → List FacingSide
facing_of at o = filter_map (facing_in at o.1) (numbered_sides (o.0, sides_of o.1))

abbrev pub facing_sides : Pt → List Obstacle → List FacingSide
facing_sides at obstacles = flat_map (facing_of at) (enumerate_from 0 obstacles)

-- a place, and the sides that may reflect to it
pub record FacingSides : Type 0 where
  pub at : Pt
  pub sides : List FacingSide
