-- The attenuation by the ground reads the zones that the path meets alone, and of them neither a name nor a place.
use Rattle.std.proofs.Common.{◌≡◌, ℕ, Bool, true, false, List, [], ◌∷◌, length, get_or, map, refl, ap, sym, ◌∙◌}
use Rattle.scene_parts.specs.declared.kinds.Ground.{Ground}
use Rattle.scene_parts.specs.declared.kinds.Ground.TheVariants as methods
use Rattle.std.specs.Prelude.{cond}
use Rattle.fix_interval.specs.Tree.{Tree, Known, enc}
use Rattle.scene_parts.specs.Parts.{Zone, Foliage}
use Rattle.fix_interval.specs.Interval.{Interval}
use Rattle.scene_geom.specs.declared.band.Band.{Band}
use Rattle.scene_geom.specs.Bands.{place_of}
use Rattle.term_foliage.specs.Foliage.{foliage_attenuation}
use Rattle.path_calc.specs.inner.Losses.{losses_along}
use Rattle.path_calc.proofs.Eight.{at-place}
use Rattle.path_shape.specs.Forms.{zero_form}
use Rattle.term_foliage.proofs.Lawful.{only-met}
use Rattle.path_shape.specs.declared.path.Path.{Path}
use Rattle.term_ground.specs.declared.legs.region.Region.{Region}
use Rattle.term_ground.specs.declared.legs.region.Region.TheVariants.{Source, Middle, Receiver}
use Rattle.path_shape.specs.Outlines.{meets_legs}
use Rattle.term_ground.specs.Zones.{met_zones}
use Rattle.term_ground.specs.Regions.{region_start, region_end, zone_term, share_of}
use Rattle.term_ground.specs.Ground.{ground}
use Rattle.path_calc.specs.Contributions.{ground_along}
use Rattle.path_calc.specs.GroundZones.{unnamed, zones_on, foliage_on}

pub ground-eight : (method : Ground) (zones : List Zone) (g0 : ℕ) (path : Path) (dp d : Tree) → length (ground_along method zones g0 path dp d) ≡ 8
unfolding ground
ground-eight methods.General zones g0 path dp d = refl
ground-eight methods.Simple zones g0 path dp d = refl

-- what the zones that a path meets give, and what their values give
same-terms : (f : Zone → Tree) → ((zone : Zone) → f (unnamed zone) ≡ f zone) → (path : Path) (zones : List Zone) → map f (met_zones path zones) ≡ map f (met_zones path (zones_on path zones))
same-terms f same path [] = refl
same-terms f same path (zone ∷ zones) = by (meets_legs path.legs path.s path.r zone.points) refl (same-terms f same path zones) where
  by : (met : Bool) → meets_legs path.legs path.s path.r zone.points ≡ met → map f (met_zones path zones) ≡ map f (met_zones path (zones_on path zones))
      → map f (cond met (zone ∷ met_zones path zones) (met_zones path zones)) ≡ map f (met_zones path (map unnamed (cond met (zone ∷ met_zones path zones) (met_zones path zones))))
  by true is rest = rw (is, same zone) (ap (λ ts. f zone ∷ ts) rest)
  by false is rest = rest

same-share : (region : Region) (zones : List Zone) (g0 : ℕ) (path : Path) (dp : Tree) → share_of region zones g0 path dp ≡ share_of region (zones_on path zones) g0 path dp
unfolding share_of
same-share region zones g0 path dp = rw (same-terms (zone_term g0 path (region_start region path dp) (region_end region path dp)) (λ zone. refl) path zones) refl

same-surroundings : (zones : List Zone) (g0 : ℕ) (path : Path) (dp : Tree) → ground zones g0 path dp ≡ ground (zones_on path zones) g0 path dp
unfolding ground
same-surroundings zones g0 path dp =
    rw (same-share Source zones g0 path dp, same-share Middle zones g0 path dp, same-share Receiver zones g0 path dp) refl

pub same-ground_along : (method : Ground) (zones : List Zone) (g0 : ℕ) (path : Path) (dp d : Tree) → ground_along method zones g0 path dp d ≡ ground_along method (zones_on path zones) g0 path dp d
same-ground_along methods.General zones g0 path dp d = same-surroundings zones g0 path dp
same-ground_along methods.Simple zones g0 path dp d = refl

-- foliage takes off what the foliage that a path meets takes off, whatever the names
pub same-foliage_on : (foliage : List Foliage) (path : Path) (d : Tree) (band : Band) → foliage_attenuation foliage path d band ≡ foliage_attenuation (foliage_on path foliage) path d band
same-foliage_on foliage path d band =
    sym (at-place (foliage_attenuation foliage path d) zero_form band)
    ∙ ap (λ (ts : List Tree). get_or ts (place_of band) zero_form) (sym (only-met foliage path d))
    ∙ at-place (foliage_attenuation (foliage_on path foliage) path d) zero_form band

pub same-losses : (foliage : List Foliage) (path : Path) (d : Interval) → losses_along foliage path d ≡ losses_along (foliage_on path foliage) path d
same-losses foliage path d = ap (λ (ts : List Tree). map enc ts) (sym (only-met foliage path (Known d)))
