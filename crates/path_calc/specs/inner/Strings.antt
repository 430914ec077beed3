-- What stands between the code and the definition of lateral paths: the obstacles that screen by their numbers, the
-- strings round them, each with the bands in which an obstacle is in its way, and D_z along each.
use Rattle.std.specs.List.{list_any}
use Rattle.std.specs.Prelude.{◌≡◌, ℕ, Bool, true, false, not, ◌&&◌, ◌==◌, List, [], ◌∷◌, ◌++◌, map, filter, flat_map, Option, Some, None, slice_get, slice_index_or, if◌then◌else◌, ◌<◌, length, IfSome, IfNone}
use Rattle.fix_interval.specs.Interval.{Interval}
use Rattle.fix_interval.specs.Tree.{Known, enc}
use Rattle.scene_geom.specs.declared.plan.Pt.{Pt}
use Rattle.scene_geom.specs.declared.band.Band.{Band}
use Rattle.scene_geom.specs.Bands.{place_of}
use Rattle.scene_parts.specs.Parts.{Obstacle}
use Rattle.scene_parts.specs.declared.screening.size_test.Breadth.{Breadth}
use Rattle.scene_parts.specs.InBand.{exceeds_wavelength}
use Rattle.scene_parts.specs.declared.screening.ends.Ends.{Ends}
use Rattle.scene_parts.specs.declared.screening.crossing.Crossing.{Crossing}
use Rattle.scene_parts.specs.Crossings.{is_crossing_in}
use Rattle.edge_chain.specs.declared.hand.Hand.{Hand}
use Rattle.edge_chain.specs.declared.hand.Hand.TheVariants.{Left, Right}
use Rattle.edge_chain.specs.Chain.{chain_of}
use Rattle.term_barrier.specs.Lateral.{in_band, side_attenuation}
use Rattle.term_barrier.specs.Limits.{IsScreening}
use Rattle.path_calc.specs.declared.lateral.strings.Stretched.{Stretched}
use Rattle.path_calc.specs.declared.lateral.strings.Strings.{Strings}
use Rattle.path_calc.specs.declared.lateral.LateralScreening.{LateralScreening}
use Rattle.path_calc.specs.inner.Ranges.{IsShort}
use Rattle.path_calc.specs.LateralPaths.{LateralPath, leads_in, lateral_paths}

-- ---- obstacles that screen

-- a crossing counts in a band and rises above the line of sight
abbrev pub rises_in : Band → Crossing → Bool
rises_in band crossing = is_crossing_in band crossing && crossing.edge.above

-- whether a number is that of the obstacle before, if there is one
abbrev pub is_number : ℕ → Option ℕ → Bool
is_number n None = false
is_number n (Some before) = before == n

-- the numbers of the obstacles of which a crossing rises in a band, in order, the one before these crossings left out
abbrev pub numbers_after : Band → Option ℕ → List Crossing → List ℕ
numbers_after band before [] = []
numbers_after band before (crossing ∷ crossings) =
    if rises_in band crossing && not (is_number crossing.obstacle before)
    then crossing.obstacle ∷ numbers_after band (Some crossing.obstacle) crossings
    else numbers_after band before crossings

abbrev pub numbers_in : Band → List Crossing → List ℕ
numbers_in band crossings = numbers_after band None crossings

-- the corners of the obstacle of a number, and of the obstacles of some numbers
abbrev pub corners_of : Option Obstacle → List Pt
corners_of None = []
corners_of (Some o) = o.points

abbrev pub corners_numbered : List Obstacle → ℕ → List Pt
corners_numbered obstacles n = corners_of (slice_get obstacles n)

abbrev pub corners_at : List Obstacle → List ℕ → List Pt
corners_at obstacles numbers = flat_map (corners_numbered obstacles) numbers

-- ---- strings

-- an obstacle of a breadth is large enough in a band
abbrev pub is_within : Band → Breadth → Bool
is_within band breadth = exceeds_wavelength breadth.extent breadth.square band

-- sound goes along a string that turns at a corner at least, where nothing blocks it
abbrev pub leads_unless : Bool → List Pt → Bool
leads_unless blocked [] = false
leads_unless blocked (corner ∷ corners) = not blocked

abbrev pub leads_along : Stretched → Band → Bool
leads_along string band = leads_unless (list_any (is_within band) string.blocking.items) string.corners.items

-- a string is that round some corners on a hand
pub record IsStretched (string : Stretched) (ends : Ends) (obstacles : List Obstacle) (points : List Pt) (hand : Hand)
    : Type 0 where
  pub corners : string.corners.items ≡ chain_of points ends.s ends.r hand
  pub leads : (band : Band) → leads_along string band ≡ leads_in band ends obstacles string.corners.items
  pub short : IsShort string.corners.items

-- the strings are those round the obstacles of their numbers
pub record AreStretched (strings : Strings) (ends : Ends) (obstacles : List Obstacle) : Type 0 where
  pub left : IsStretched strings.left ends obstacles (corners_at obstacles strings.numbers.items) Left
  pub right : IsStretched strings.right ends obstacles (corners_at obstacles strings.numbers.items) Right

-- what the bands share of the way round the corners of a string, over a distance d, gives D_z in each band; there is
-- none where the string turns nowhere
pub record IsMeasured (string : Stretched) (ends : Ends) (d : Interval) : Type 0 where
  pub turns : IfSome string.way (λ way. 0 < length string.corners.items)
  pub values : IfSome string.way (λ way. (band : Band) → in_band way band
      ≡ enc (side_attenuation ends.s ends.hs ends.r ends.hr string.corners.items (Known d) band))
  pub bounds : IfSome string.way (λ way. (band : Band) → IsScreening (in_band way band))
  pub none : IfNone string.way (string.corners.items ≡ [])

pub record AreMeasured (strings : Strings) (ends : Ends) (d : Interval) : Type 0 where
  pub left : IsMeasured strings.left ends d
  pub right : IsMeasured strings.right ends d

-- ---- D_z

-- D_z round corners, where sound goes along them
abbrev pub d_z_round : Ends → List Pt → Interval → Band → Bool → Option Interval
d_z_round ends corners d band true =
    Some (enc (side_attenuation ends.s ends.hs ends.r ends.hr corners (Known d) band))
d_z_round ends corners d band false = None

-- what is there of an interval
abbrev pub listed : Option Interval → List Interval
listed None = []
listed (Some i) = i ∷ []

-- D_z on the left and on the right in a band
abbrev pub both_of : LateralScreening → List Interval
both_of lateral = listed lateral.left ++ listed lateral.right

-- that where sound goes round neither side
abbrev pub no_lateral : LateralScreening
no_lateral = record { left = None; right = None }

-- that in a band of those in all bands, where there are any
abbrev pub lateral_of : List LateralScreening → Band → LateralScreening
lateral_of lateral band = slice_index_or lateral (place_of band) no_lateral

-- D_z along both strings in a band
abbrev pub lateral_in : Strings → Ends → Interval → Band → LateralScreening
lateral_in strings ends d band = record {
  left = d_z_round ends strings.left.corners.items d band (leads_along strings.left band);
  right = d_z_round ends strings.right.corners.items d band (leads_along strings.right band);
}

-- D_z along a lateral path, and in a band along those along which sound goes
abbrev pub d_z_along : Ends → Interval → Band → LateralPath → Interval
d_z_along ends d band path = enc (side_attenuation ends.s ends.hs ends.r ends.hr path.corners (Known d) band)

abbrev pub d_z_over : Ends → List Obstacle → Interval → Band → List Interval
d_z_over ends obstacles d band =
    map (d_z_along ends d band) (filter (λ path. path.leads) (lateral_paths band ends obstacles))
