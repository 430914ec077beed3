-- Dense foliage (ISO 9613-2, Table A.1): its attenuation in dB, in the octave bands from 63 Hz to 8 kHz. Heights are in
-- mm, and places on a path are fractions of its plan length.
use Rattle.std.specs.Prelude.{ℕ, ◌-◌, pos, nat_lt, List, [], ◌∷◌, map, Option, None, Some, if◌then◌else◌}
use Rattle.std.specs.List.{filter_map}
use Rattle.std.specs.Option.{option_map}
use Rattle.fix_interval.specs.Interval.{Interval}
use Rattle.fix_interval.specs.Tree.{Tree, Known, Const, Mul, Max, Min, Pick, enc}
use Rattle.scene_geom.specs.declared.band.Band.{Band}
use Rattle.scene_geom.specs.declared.band.Band.TheVariants.{Hz63, Hz125, Hz250, Hz500, Hz1000, Hz2000, Hz4000, Hz8000}
use Rattle.scene_geom.specs.Bands.{all_bands}
use Rattle.scene_parts.specs.Parts.{Foliage}
use Rattle.path_shape.specs.declared.path.Path.{Path}
use Rattle.path_shape.specs.Forms.{zero_form, one_form, plus_all}
use Rattle.path_shape.specs.Outlines.{met, length_on_legs}

-- ---- how far the sound goes through foliage

-- from where to where the sight line runs below a top, with the heights of the top, the source and the receiver. A
-- sight line that rises or falls meets the height of the top at one place
abbrev pub low_stretch : ℕ → ℕ → ℕ → Option (Tree × Tree)
low_stretch top hs hr =
    if nat_lt hs top
    then (if nat_lt hr top then Some (zero_form, one_form) else Some (zero_form, Const (pos (top - hs)) (hr - hs)))
    else (if nat_lt hr top then Some (Const (pos (hs - top)) (hs - hr), one_form) else None)

-- how much of a path runs through foliage that it meets, where the sight line is below its top
abbrev pub length_in : Path → Foliage → Option Tree
length_in path foliage =
    option_map
    (λ stretch. length_on_legs path.legs path.s path.r foliage.points stretch.0 stretch.1)
    (low_stretch foliage.h path.hs path.hr)

-- the foliage that a path meets
abbrev pub met_foliage : Path → List Foliage → List Foliage
met_foliage path foliage = met (λ one. one.points) path foliage

abbrev pub lengths_in : Path → List Foliage → List Tree
lengths_in path foliage = filter_map (length_in path) (met_foliage path foliage)

-- the sum of these
abbrev pub length_in_all : List Foliage → Path → Tree
length_in_all foliage path = plus_all zero_form (lengths_in path foliage)

-- d_f: the distance through foliage in metres, for a path of the length d. It is at most the whole path, also where
-- several lie over one another
abbrev pub foliage_distance : List Foliage → Path → Tree → Tree
foliage_distance foliage path d = Mul (Max zero_form (Min one_form (length_in_all foliage path))) d

-- ---- Table A.1

-- from 20 m on, in hundredths of a dB per metre
abbrev pub per_metre : Band → ℕ
per_metre Hz63 = 2
per_metre Hz125 = 3
per_metre Hz250 = 4
per_metre Hz500 = 5
per_metre Hz1000 = 6
per_metre Hz2000 = 8
per_metre Hz4000 = 9
per_metre Hz8000 = 12

-- from 10 m to 20 m, in dB
abbrev pub over_short : Band → ℕ
over_short Hz63 = 0
over_short Hz125 = 0
over_short Hz250 = 1
over_short Hz500 = 1
over_short Hz1000 = 1
over_short Hz2000 = 1
over_short Hz4000 = 2
over_short Hz8000 = 3

-- the attenuation over a distance through foliage: none below 10 m, and no more over a distance beyond 200 m
unfoldable pub foliage_in : Band → Tree → Tree
foliage_in band df =
    Pick
    df
    (Const (pos 20) 1)
    (Mul (Const (pos (per_metre band)) 100) (Min df (Const (pos 200) 1)))
    (Pick (Const (pos 10) 1) df zero_form (Const (pos (over_short band)) 1))

-- ---- A_fol

-- of a path of the length d, in a band
abbrev pub foliage_attenuation : List Foliage → Path → Tree → Band → Tree
foliage_attenuation foliage path d band = foliage_in band (foliage_distance foliage path d)

-- and in each band
abbrev pub attenuations : List Foliage → Path → Tree → List Tree
attenuations foliage path d = map (foliage_attenuation foliage path d) all_bands

-- a value where there is any item
abbrev pub where_any : {A B : Type 0} → List A → B → Option B
where_any [] value = None
where_any (item ∷ items) value = Some value

-- the intervals of the attenuations over a distance through foliage, which are 0 dB where there is none
abbrev pub attenuations_over : Option Interval → List Interval
attenuations_over None = map (λ band. enc zero_form) all_bands
attenuations_over (Some through) = map (λ band. enc (foliage_in band (Known through))) all_bands
