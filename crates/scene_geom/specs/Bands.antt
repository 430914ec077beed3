-- The eight octave bands (ISO 9613-2, 1).
use Rattle.std.specs.Prelude.{ℕ, List, [], ◌∷◌}
use Rattle.scene_geom.specs.declared.band.Band.{Band}
use Rattle.scene_geom.specs.declared.band.Band.TheVariants.{Hz63, Hz125, Hz250, Hz500, Hz1000, Hz2000, Hz4000, Hz8000}

-- from the lowest
abbrev pub all_bands : List Band
all_bands = Hz63 ∷ Hz125 ∷ Hz250 ∷ Hz500 ∷ Hz1000 ∷ Hz2000 ∷ Hz4000 ∷ Hz8000 ∷ []

-- the place of a band among the eight
abbrev pub place_of : Band → ℕ
place_of Hz63 = 0
place_of Hz125 = 1
place_of Hz250 = 2
place_of Hz500 = 3
place_of Hz1000 = 4
place_of Hz2000 = 5
place_of Hz4000 = 6
place_of Hz8000 = 7

-- the nominal midband frequency in Hz
abbrev pub frequency_of : Band → ℕ
frequency_of Hz63 = 63
frequency_of Hz125 = 125
frequency_of Hz250 = 250
frequency_of Hz500 = 500
frequency_of Hz1000 = 1000
frequency_of Hz2000 = 2000
frequency_of Hz4000 = 4000
frequency_of Hz8000 = 8000
