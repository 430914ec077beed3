-- What a line asks for beside edits, as contracts see it: plain records, without where they lie in memory.
use Rattle.std.specs.Prelude.{ℕ, ℤ, List, Option}
use Rattle.scene_geom.specs.declared.plan.Pt.{Pt}
use Rattle.scene_parts.specs.declared.kinds.Kind.{Kind}

-- contours at the receivers of a grid: the grid's name, the level in 0.01 dB, and the columns and rows of the grid that
-- are looked at
pub record Contour : Type 0 where
  pub name : List ℕ
  pub level : ℤ
  pub columns : ℕ
  pub rows : ℕ

-- a line source (ISO 9613-2, clause 4): its points, its height above ground in mm, its sound power level per metre in
-- each octave band from 63 Hz to 8 kHz where it has power there, its directivity correction, both in 0.01 dB, and the
-- greatest length of a piece of it in mm
pub record LineSource : Type 0 where
  pub name : List ℕ
  pub kind : Kind
  pub points : List Pt
  pub h : ℕ
  pub lw : List (Option ℤ)
  pub dc : ℤ
  pub piece : ℕ
