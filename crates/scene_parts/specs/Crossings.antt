-- Sides of obstacles where they cross the way from source to receiver (ISO 9613-2, 7.4): whether the edge there rises
-- above the line of sight, and in which bands the obstacle is large enough to screen.
use Rattle.std.specs.Prelude.{ℕ, pos, ◌+ℤ◌, ◌-ℤ◌, ◌*ℤ◌, int_lt, Bool, false, slice_index_or}
use Rattle.scene_geom.specs.declared.fractions.fraction.Frac.{Frac}
use Rattle.scene_geom.specs.declared.band.Band.{Band}
use Rattle.scene_geom.specs.Bands.{place_of}
use Rattle.scene_parts.specs.Parts.{Obstacle}
use Rattle.scene_parts.specs.InBand.{is_in_band}
use Rattle.scene_parts.specs.declared.screening.cuts.Cut.{Cut}
use Rattle.scene_parts.specs.declared.screening.ends.Ends.{Ends}
use Rattle.scene_parts.specs.declared.screening.crossing.Crossing.{Crossing}

-- an edge of height H rises above the line of sight at the place t where H > h_s + t (h_r - h_s)
abbrev pub rises_above : Ends → ℕ → Frac → Bool
rises_above ends h t = int_lt (pos ends.hs *ℤ t.d +ℤ t.n *ℤ (pos ends.hr -ℤ pos ends.hs)) (pos h *ℤ t.d)

-- an obstacle is large enough to screen in a band
abbrev pub counts_in : Band → Ends → Obstacle → Bool
counts_in band ends o = is_in_band o ends.s ends.r band

-- the obstacle of a crossing is large enough in a band
abbrev pub is_crossing_in : Band → Crossing → Bool
is_crossing_in band crossing = slice_index_or crossing.bands (place_of band) false

-- a crossing as a cut
abbrev pub cut_of : Crossing → Cut
cut_of c = record { obstacle = c.obstacle; side = c.side; t = c.edge.t; h = c.edge.h; above = c.edge.above }
