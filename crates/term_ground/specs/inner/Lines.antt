-- Direct paths in 64 bits, and what a walk round an outline finds on them.
use Rattle.std.specs.Prelude.{◌≡◌, ◌+ℤ◌, ◌||◌, not, pos, List, [], ◌∷◌}
use Rattle.std.specs.Ordering.{int_eq}
use Rattle.scene_geom.specs.declared.plan.Pt.{Pt}
use Rattle.scene_geom.specs.declared.meetings.crossing.Passage.{Passage}
use Rattle.scene_geom.specs.Direction.{direct}
use Rattle.scene_geom.specs.Fraction.{is_inside}
use Rattle.scene_geom.specs.Outline.{ring, passages_of, turn_of, meets_of}
use Rattle.path_shape.specs.declared.legs.Legs.TheVariants.{One}
use Rattle.path_shape.specs.declared.path.Path.{Path}
use Rattle.path_shape.specs.Outlines.{whole}
use Rattle.path_shape.specs.inner.Stretches.{walked}
use Rattle.term_ground.specs.declared.coverage.line.Line.{Line}
use Rattle.term_ground.specs.declared.coverage.crossed.Crossed.{Crossed}
use Rattle.term_ground.specs.declared.legs.stretch.Stretches.{Stretches}
use Rattle.term_ground.specs.inner.Extents.{regional_of, AreSections}
use Rattle.term_ground.specs.inner.Walks.{advanced, nothing, stretches_of}
use Rattle.term_ground.specs.inner.Widths.{widths_of}

-- a line from s to r that stands for a direct path: the regions and their widths are those of the path's stretches
pub record IsLine (line : Line) (path : Path) : Type 0 where
  pub s_is : line.s ≡ path.s
  pub legs_are : path.legs ≡ One (direct line.s line.r)
  pub sections_are : AreSections line.sections (stretches_of path)
  pub widths_are : widths_of (stretches_of path) ≡ regional_of line.widths

-- what a side adds that crosses the line
pub record Adds (line : Line) (crossed : Crossed) (passage : Passage) (after : Crossed) : Type 0 where
  pub between : after.between ≡ (crossed.between || is_inside passage.place whole)
  pub winding : after.winding ≡ crossed.winding +ℤ turn_of passage
  pub lengths : (stretches : Stretches) → AreSections line.sections stretches
      → regional_of after.lengths ≡ advanced (walked (passage ∷ [])) (regional_of crossed.lengths) stretches

-- what all sides of an outline come to
pub record IsWalk (line : Line) (outline : List Pt) (crossed : Crossed) : Type 0 where
  pub met : (crossed.between || not (int_eq crossed.winding (pos 0)))
      ≡ meets_of outline line.s (direct line.s line.r) whole
  pub lengths : (stretches : Stretches) → AreSections line.sections stretches
      → regional_of crossed.lengths
      ≡ advanced (walked (passages_of (ring outline) line.s (direct line.s line.r))) nothing stretches
