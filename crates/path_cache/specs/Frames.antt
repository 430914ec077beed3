-- Boxes in plan round the places of sources.
use Rattle.std.specs.Prelude.{◌≡◌, ◌≤ℤ◌, pos, List, All}
use Rattle.scene_geom.specs.declared.plan.Pt.{Pt}
use Rattle.scene_parts.specs.Parts.{Source}
use Rattle.path_cache.specs.declared.frames.Frame.{Frame}

-- a place is in a box
pub record IsIn (frame : Frame) (at : Pt) : Type 0 where
  pub right_of_low : frame.low.x ≤ℤ at.x
  pub left_of_high : at.x ≤ℤ frame.high.x
  pub above_low : frame.low.y ≤ℤ at.y
  pub below_high : at.y ≤ℤ frame.high.y

-- each source stands in the box
abbrev pub Holds : Frame → List Source → Type 0
Holds frame sources = All (λ s. IsIn frame s.at) sources

-- each place of a box lies in another box
abbrev pub LiesIn : Frame → Frame → Type 0
LiesIn inner outer = (place : Pt) → IsIn inner place → IsIn outer place

-- a box is the origin alone
pub record IsTheOrigin (frame : Frame) : Type 0 where
  pub left : frame.low.x ≡ pos 0
  pub right : frame.high.x ≡ pos 0
  pub below : frame.low.y ≡ pos 0
  pub above : frame.high.y ≡ pos 0
