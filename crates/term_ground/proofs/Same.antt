-- Formulas with the same intervals in them have the same interval.
use Rattle.std.proofs.Common.{◌≡◌, ℕ, refl, List}
use Rattle.std.specs.Prelude.{map}
use Rattle.fix_interval.specs.Interval.{Interval}
use Rattle.fix_interval.specs.Tree.{Tree, Known, Max, Min, Pick, enc}
use Rattle.scene_parts.specs.Parts.{Zone}
use Rattle.path_shape.specs.declared.path.Path.{Path}
use Rattle.path_shape.specs.declared.stretch.Stretch.{Stretch}
use Rattle.path_shape.specs.Forms.{zero_form, one_form}
use Rattle.term_ground.specs.Lengths.{factor}
use Rattle.term_ground.specs.Zones.{met_zones}
use Rattle.path_shape.proofs.Sums.{same-plus_all}
use Rattle.path_shape.proofs.Outlines.{same-length_on_legs}
use Rattle.term_ground.specs.Regions.{region_start, region_end, zone_term, stretch_share, share_of}
use Rattle.term_ground.specs.inner.Walks.{known_term, summed}
use Rattle.term_ground.specs.declared.legs.region.Region.{Region}
use Rattle.term_ground.specs.declared.legs.region.Region.TheVariants.{Source, Middle, Receiver}
use Rattle.term_ground.specs.Ground.{near_growth, far_growth, middle_part, ground}

-- the terms of zones, with what the code knows in the place of the formulas of g0, u0 and u1
same-term : (g0 : ℕ) (path : Path) (u0 u1 : Tree) (outside : Interval) (stretch : Stretch) → outside ≡ enc (factor g0) → stretch.from ≡ enc u0 → stretch.to ≡ enc u1
    → (zone : Zone) → enc (known_term outside path stretch zone) ≡ enc (zone_term g0 path u0 u1 zone)
same-term g0 path u0 u1 outside stretch o e f zone =
    rw (same-length_on_legs path.legs path.s path.r zone.points (Known stretch.from) u0 (Known stretch.to) u1 e f, o, e, f)

-- the ground factor of a region where it is there, and where it isn't
pub share-is : (zones : List Zone) (g0 : ℕ) (path : Path) (u0 u1 dp limit : Tree) (outside : Interval) (stretch : Stretch) → outside ≡ enc (factor g0) → stretch.from ≡ enc u0 → stretch.to ≡ enc u1
    → enc (Pick dp limit (Max zero_form (Min one_form (Known (summed zones outside path outside stretch)))) (Known outside)) ≡ enc (Pick dp limit (stretch_share zones g0 path u0 u1) (factor g0))
share-is zones g0 path u0 u1 dp limit outside stretch o e f =
    let sum = same-plus_all (Known outside) (factor g0) (known_term outside path stretch) (zone_term g0 path u0 u1) o (same-term g0 path u0 u1 outside stretch o e f) (met_zones path zones) in
    rw (sum, o)

-- ---- formulas of the plan length

same-zone_term : (g0 : ℕ) (path : Path) (u0 v0 u1 v1 : Tree) → enc u0 ≡ enc v0 → enc u1 ≡ enc v1 → (zone : Zone)
    → enc (zone_term g0 path u0 u1 zone) ≡ enc (zone_term g0 path v0 v1 zone)
same-zone_term g0 path u0 v0 u1 v1 e f zone =
    rw (same-length_on_legs path.legs path.s path.r zone.points u0 v0 u1 v1 e f, e, f)

same-stretch_share : (zones : List Zone) (g0 : ℕ) (path : Path) (u0 v0 u1 v1 : Tree) → enc u0 ≡ enc v0 → enc u1 ≡ enc v1
    → enc (stretch_share zones g0 path u0 u1) ≡ enc (stretch_share zones g0 path v0 v1)
same-stretch_share zones g0 path u0 v0 u1 v1 e f =
    rw (same-plus_all (factor g0) (factor g0) (zone_term g0 path u0 u1) (zone_term g0 path v0 v1) refl (same-zone_term g0 path u0 v0 u1 v1 e f) (met_zones path zones))

same-start : (region : Region) (path : Path) (a b : Tree) → enc a ≡ enc b → enc (region_start region path a) ≡ enc (region_start region path b)
same-start Source path a b e = refl
same-start Middle path a b e = rw e
same-start Receiver path a b e = rw e

same-end : (region : Region) (path : Path) (a b : Tree) → enc a ≡ enc b → enc (region_end region path a) ≡ enc (region_end region path b)
same-end Source path a b e = rw e
same-end Middle path a b e = rw e
same-end Receiver path a b e = refl

same-share_of : (region : Region) (zones : List Zone) (g0 : ℕ) (path : Path) (a b : Tree) → enc a ≡ enc b → enc (share_of region zones g0 path a) ≡ enc (share_of region zones g0 path b)
unfolding share_of
same-share_of region zones g0 path a b e =
    rw (same-stretch_share zones g0 path (region_start region path a) (region_start region path b) (region_end region path a) (region_end region path b) (same-start region path a b e) (same-end region path a b e), e)

pub same-ground : (zones : List Zone) (g0 : ℕ) (path : Path) (a b : Tree) → enc a ≡ enc b → map enc (ground zones g0 path a) ≡ map enc (ground zones g0 path b)
unfolding ground near_growth far_growth middle_part
same-ground zones g0 path a b e =
    rw (same-share_of Source zones g0 path a b e, same-share_of Middle zones g0 path a b e, same-share_of Receiver zones g0 path a b e, e)

pub same-zones : (zones others : List Zone) (g0 : ℕ) (path : Path) (dp : Tree) → met_zones path zones ≡ met_zones path others → ground zones g0 path dp ≡ ground others g0 path dp
unfolding ground share_of
same-zones zones others g0 path dp e = rw e
