-- The three regions of a path, and the part of each that is porous ground (ISO 9613-2, 7.3.1).
use Rattle.std.specs.Prelude.{ℕ, ◌+◌, List, map}
use Rattle.fix_interval.specs.Interval.{Interval}
use Rattle.fix_interval.specs.Tree.{Tree, Known, Sub, Mul, Div, Max, Min, Pick, enc}
use Rattle.scene_parts.specs.Parts.{Zone}
use Rattle.path_shape.specs.declared.path.Path.{Path}
use Rattle.term_ground.specs.declared.legs.region.Region.{Region}
use Rattle.term_ground.specs.declared.legs.region.Region.TheVariants.{Source, Middle, Receiver}
use Rattle.path_shape.specs.Forms.{zero_form, one_form, plus_all}
use Rattle.term_ground.specs.Lengths.{factor, thirty}
use Rattle.path_shape.specs.Outlines.{length_on_legs}
use Rattle.term_ground.specs.Zones.{met_zones}

-- 30 (h_s + h_r): a path has a middle region where its plan length is greater
abbrev pub middle_from : Path → Tree
middle_from path = thirty (path.hs + path.hr)

-- where a region begins and ends, as fractions of the path. The source region reaches 30 h_s from the source, the
-- receiver region 30 h_r from the receiver, neither beyond the path
abbrev pub region_start : Region → Path → Tree → Tree
region_start Source path dp = zero_form
region_start Middle path dp = Div (thirty path.hs) dp
region_start Receiver path dp = Sub one_form (Min one_form (Div (thirty path.hr) dp))

abbrev pub region_end : Region → Path → Tree → Tree
region_end Source path dp = Min one_form (Div (thirty path.hs) dp)
region_end Middle path dp = Sub one_form (Div (thirty path.hr) dp)
region_end Receiver path dp = one_form

-- a region is there where the plan length is greater than this
abbrev pub region_from : Region → Path → Tree
region_from Source path = zero_form
region_from Middle path = middle_from path
region_from Receiver path = zero_form

-- by how much a zone changes the ground factor of the stretch from u0 to u1, where it is g0 outside of zones
abbrev pub zone_term : ℕ → Path → Tree → Tree → Zone → Tree
zone_term g0 path u0 u1 zone =
    Div (Mul (Sub (factor zone.g) (factor g0)) (length_on_legs path.legs path.s path.r zone.points u0 u1)) (Sub u1 u0)

-- the ground factor of the stretch from u0 to u1, from 0 to 1
abbrev pub stretch_share : List Zone → ℕ → Path → Tree → Tree → Tree
stretch_share zones g0 path u0 u1 =
    Max zero_form (Min one_form (plus_all (factor g0) (map (zone_term g0 path u0 u1) (met_zones path zones))))

-- the ground factor G of a region of a path whose plan length is dp, with g0 in hundredths outside of zones
unfoldable pub share_of : Region → List Zone → ℕ → Path → Tree → Tree
share_of region zones g0 path dp =
    Pick
    dp
    (region_from region path)
    (stretch_share zones g0 path (region_start region path dp) (region_end region path dp))
    (factor g0)

-- its interval, by that of the plan length
abbrev pub known_share : Region → List Zone → ℕ → Path → Interval
known_share region zones g0 path = enc (share_of region zones g0 path (Known path.dp))
