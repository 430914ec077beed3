-- Where the obstacles that screen in a band are others than in the band before, so that other strings are stretched.
use Rattle.std.specs.Prelude.{Bool, false, List, map}
use Rattle.std.specs.List.{list_any}
use Rattle.scene_geom.specs.declared.band.Band.{Band}
use Rattle.scene_geom.specs.declared.band.Band.TheVariants.{Hz63, Hz125, Hz250, Hz500, Hz1000, Hz2000, Hz4000, Hz8000}
use Rattle.scene_geom.specs.Bands.{all_bands}
use Rattle.scene_geom.specs.Crossing.{differ}
use Rattle.scene_parts.specs.Parts.{Obstacle}
use Rattle.scene_parts.specs.declared.screening.ends.Ends.{Ends}
use Rattle.sight_cut.specs.Cuts.{screens_in}

-- an obstacle screens in the band before. Before the first band none does
abbrev pub screens_before : Band → Ends → Obstacle → Bool
screens_before Hz63 ends o = false
screens_before Hz125 ends o = screens_in Hz63 ends o
screens_before Hz250 ends o = screens_in Hz125 ends o
screens_before Hz500 ends o = screens_in Hz250 ends o
screens_before Hz1000 ends o = screens_in Hz500 ends o
screens_before Hz2000 ends o = screens_in Hz1000 ends o
screens_before Hz4000 ends o = screens_in Hz2000 ends o
screens_before Hz8000 ends o = screens_in Hz4000 ends o

-- it screens in one of the two and not in the other
abbrev pub changes_in : Band → Ends → Obstacle → Bool
changes_in band ends o = differ (screens_before band ends o) (screens_in band ends o)

-- other obstacles screen in a band than in the band before
abbrev pub is_renewed : Ends → List Obstacle → Band → Bool
is_renewed ends obstacles band = list_any (changes_in band ends) obstacles

-- that in each band
abbrev pub renewals : Ends → List Obstacle → List Bool
renewals ends obstacles = map (is_renewed ends obstacles) all_bands
