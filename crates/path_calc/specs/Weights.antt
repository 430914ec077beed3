-- The A-weighting.
use Rattle.std.specs.Prelude.{ℤ, pos, neg_ℤ}
use Rattle.scene_geom.specs.declared.band.Band.{Band}
use Rattle.scene_geom.specs.declared.band.Band.TheVariants.{Hz63, Hz125, Hz250, Hz500, Hz1000, Hz2000, Hz4000, Hz8000}

-- A_f of equation (5), in tenths of a decibel
abbrev pub weight_in : Band → ℤ
weight_in Hz63 = neg_ℤ (pos 262)
weight_in Hz125 = neg_ℤ (pos 161)
weight_in Hz250 = neg_ℤ (pos 86)
weight_in Hz500 = neg_ℤ (pos 32)
weight_in Hz1000 = pos 0
weight_in Hz2000 = pos 12
weight_in Hz4000 = pos 10
weight_in Hz8000 = neg_ℤ (pos 11)
