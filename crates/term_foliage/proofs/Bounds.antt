-- Bounds of the attenuation by foliage, and where it is none.
use Rattle.std.proofs.Common.{◌≡◌, ℤ, ◌*◌, ◌^◌, pos, negsuc, ◌*ℤ◌, refl, sym, ap, ◌∙◌, arith, lit<, true, List, [], map}
use Rattle.std.specs.Prelude.{Option, Some, None}
use Rattle.std.specs.List.{All}
use Rattle.std.proofs.lemmas.Int.{ints}
use Rattle.fix_interval.specs.Units.{unit}
use Rattle.fix_interval.specs.Interval.{Interval}
use Rattle.fix_interval.specs.Bounds.{IsBetween, AreBetween}
use Rattle.fix_interval.specs.Values.{ratio_of, mul_of, max_of, min_of, hull_of, less_of, pick_of}
use Rattle.fix_interval.specs.Ranges.{HasRanges, from_to, is_inside, range_of, part, constant, product, greater, lesser, choice}
use Rattle.fix_interval.specs.Tree.{Tree, Known, Const, Mul, Min, Pick, enc}
use Rattle.fix_interval.proofs.Ranging.{LiesIn-All}
use Rattle.fix_interval.proofs.RangedFormulas.{between, part-between}
use Rattle.scene_geom.specs.declared.band.Band.{Band}
use Rattle.scene_geom.specs.declared.band.Band.TheVariants.{Hz63, Hz125, Hz250, Hz500, Hz1000, Hz2000, Hz4000, Hz8000}
use Rattle.scene_geom.specs.Bands.{all_bands}
use Rattle.scene_parts.specs.Parts.{Foliage}
use Rattle.path_shape.specs.declared.path.Path.{Path}
use Rattle.path_shape.specs.Forms.{zero_form, one_form}
use Rattle.path_shape.proofs.Eight.{all_eight}
use Rattle.term_foliage.specs.Foliage.{lengths_in, length_in_all, foliage_distance, per_metre, over_short, foliage_in, foliage_attenuation, attenuations}

-- the attenuations by the interval of the distance
pub in-bands : (df : Tree) → map (λ band. enc (foliage_in band (Known (enc df)))) all_bands ≡ map enc (map (λ band. foliage_in band df) all_bands)
unfolding foliage_in
in-bands df = refl

-- distances from 0 m to 2^28 m
abbrev distances : Tree
distances = Known (from_to (pos 0) (pos (2 ^ 60)))

pub distance-between : (foliage : List Foliage) (path : Path) (d : Interval) → AreBetween (pos 0) (pos (2 ^ 60)) d
    → AreBetween (pos 0) (pos (2 ^ 60)) (enc (foliage_distance foliage path (Known d)))
unfolding unit ratio_of mul_of max_of min_of
distance-between foliage path d h =
    between _ _ {t = foliage_distance foliage path (Known d)}
    (product (greater (constant (lit< tt)) (lesser (constant (lit< tt)) (part (LiesIn-All (enc (length_in_all foliage path)))))) (part-between _ _ h)) refl

-- what an attenuation is within
abbrev within : Band → Tree
within band =
    Pick zero_form zero_form (Mul (Const (pos (per_metre band)) 100) (Min distances (Const (pos 200) 1)))
    (Pick zero_form zero_form zero_form (Const (pos (over_short band)) 1))

is-within : (df : Tree) → HasRanges df distances → (band : Band) → HasRanges (foliage_in band df) (within band)
unfolding foliage_in
is-within df h band =
    choice (product (constant (lit< tt)) (lesser h (constant (lit< tt)))) (choice (constant (lit< tt)) (constant (lit< tt)))

at-most : (band : Band) → is_inside (pos 0) (pos (25 * 2 ^ 32)) (range_of (within band)).lo (range_of (within band)).hi ≡ true
unfolding unit ratio_of mul_of min_of hull_of
at-most Hz63 = refl
at-most Hz125 = refl
at-most Hz250 = refl
at-most Hz500 = refl
at-most Hz1000 = refl
at-most Hz2000 = refl
at-most Hz4000 = refl
at-most Hz8000 = refl

pub over-between : (through : Interval) (band : Band) → AreBetween (pos 0) (pos (2 ^ 60)) through
    → AreBetween (pos 0) (pos (25 * 2 ^ 32)) (enc (foliage_in band (Known through)))
over-between through band h =
    between _ _ {t = foliage_in band (Known through)} (is-within (Known through) (part-between _ _ h) band) (at-most band)

pub attenuations-between : (foliage : List Foliage) (path : Path) (d : Interval) → AreBetween (pos 0) (pos (2 ^ 60)) d
    → All (AreBetween (pos 0) (pos (25 * 2 ^ 32))) (map enc (attenuations foliage path (Known d)))
attenuations-between foliage path d h =
    all_eight (AreBetween (pos 0) (pos (25 * 2 ^ 32))) (of Hz63) (of Hz125) (of Hz250) (of Hz500) (of Hz1000) (of Hz2000) (of Hz4000) (of Hz8000)
    (at Hz63) (at Hz125) (at Hz250) (at Hz500) (at Hz1000) (at Hz2000) (at Hz4000) (at Hz8000)
  where
    of : Band → Interval
    of band = enc (foliage_attenuation foliage path (Known d) band)

    at : (band : Band) → AreBetween (pos 0) (pos (25 * 2 ^ 32)) (enc (foliage_attenuation foliage path (Known d) band))
    at band =
        between _ _ {t = foliage_attenuation foliage path (Known d) band}
        (is-within (foliage_distance foliage path (Known d)) (part-between _ _ {t = foliage_distance foliage path (Known d)} (distance-between foliage path d h)) band) (at-most band)

-- ---- where a path runs through no foliage

-- nothing of a length that is bounded is nothing
zero-times : (z : ℤ) → pos 0 *ℤ z ≡ pos 0
zero-times (pos n) = omega (arith, ints)
zero-times (negsuc n) = omega (arith, ints)

nothing-of : (l h : ℤ) → mul_of (enc zero_form) (record { lo = Some l; hi = Some h }) ≡ enc zero_form
unfolding mul_of ratio_of unit
nothing-of l h = rw (zero-times l, zero-times h) refl

no-distance : (d : Interval) → AreBetween (pos 0) (pos (2 ^ 60)) d → mul_of (enc zero_form) d ≡ enc zero_form
no-distance d between = by_ends d.lo d.hi between.lo between.hi where
  by_ends : (lo hi : Option ℤ) → IsBetween (pos 0) (pos (2 ^ 60)) lo → IsBetween (pos 0) (pos (2 ^ 60)) hi → mul_of (enc zero_form) (record { lo = lo; hi = hi }) ≡ enc zero_form
  by_ends None hi l h = absurd l
  by_ends (Some l) None low h = absurd h
  by_ends (Some l) (Some h) low high = nothing-of l h

-- the share 0 is kept
no-share : max_of (enc zero_form) (min_of (enc one_form) (enc zero_form)) ≡ enc zero_form
unfolding unit ratio_of max_of min_of
no-share = refl

pub none-distance : (foliage : List Foliage) (path : Path) (d : Tree) → lengths_in path foliage ≡ [] → enc (foliage_distance foliage path d) ≡ mul_of (enc zero_form) (enc d)
none-distance foliage path d none = rw (none, no-share) refl

no-attenuation : (band : Band) → enc (foliage_in band zero_form) ≡ enc zero_form
unfolding foliage_in unit ratio_of mul_of min_of hull_of less_of pick_of
no-attenuation Hz63 = refl
no-attenuation Hz125 = refl
no-attenuation Hz250 = refl
no-attenuation Hz500 = refl
no-attenuation Hz1000 = refl
no-attenuation Hz2000 = refl
no-attenuation Hz4000 = refl
no-attenuation Hz8000 = refl

pub none-attenuations : (foliage : List Foliage) (path : Path) (d : Interval) → lengths_in path foliage ≡ [] → AreBetween (pos 0) (pos (2 ^ 60)) d
    → map enc (attenuations foliage path (Known d)) ≡ map (λ band. enc zero_form) all_bands
none-attenuations foliage path d none h =
    sym (in-bands (foliage_distance foliage path (Known d)))
    ∙ ap (λ (i : Interval). map (λ band. enc (foliage_in band (Known i))) all_bands) (none-distance foliage path (Known d) none ∙ no-distance d h)
    ∙ in-bands zero_form
    ∙ rw (no-attenuation Hz63, no-attenuation Hz125, no-attenuation Hz250, no-attenuation Hz500, no-attenuation Hz1000, no-attenuation Hz2000, no-attenuation Hz4000, no-attenuation Hz8000) refl
