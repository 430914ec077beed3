-- The formulas of the ground are sound: no divisor of a constant is 0.
use Rattle.std.proofs.Common.{ℕ, arith, List}
use Rattle.std.specs.List.{All}
use Rattle.fix_interval.specs.Tree.{Tree, Add, IsSound}
use Rattle.scene_parts.specs.Parts.{Zone}
use Rattle.path_shape.specs.declared.path.Path.{Path}
use Rattle.term_ground.specs.declared.legs.region.Region.{Region}
use Rattle.term_ground.specs.declared.legs.region.Region.TheVariants.{Source, Middle, Receiver}
use Rattle.term_ground.specs.Lengths.{factor}
use Rattle.term_ground.specs.Zones.{met_zones}
use Rattle.path_shape.proofs.Sums.{sound-sum}
use Rattle.path_shape.proofs.Outlines.{sound-length_on_legs}
use Rattle.term_ground.specs.Regions.{region_start, region_end, region_from, zone_term, stretch_share, share_of}
use Rattle.path_shape.proofs.Eight.{all_eight}
use Rattle.term_ground.specs.Ground.{near_growth, far_growth, decay_at_125, far_decay_at_125, decay_at_250, decay_at_500, decay_at_1000, a_prime, b_prime, c_prime, d_prime, end_region_below_2khz, end_region_from_2khz, minus_one_and_a_half, middle_part, middle_at_63, middle_above, ground}

-- ---- shares

sound-zone_term : (g0 : ℕ) (path : Path) (u0 u1 : Tree) → IsSound u0 → IsSound u1 → (zone : Zone) → IsSound (zone_term g0 path u0 u1 zone)
sound-zone_term g0 path u0 u1 h k zone =
    (((omega arith, omega arith), sound-length_on_legs path.legs path.s path.r zone.points u0 u1 h k), (k, h))

sound-stretch_share : (zones : List Zone) (g0 : ℕ) (path : Path) (u0 u1 : Tree) → IsSound u0 → IsSound u1 → IsSound (stretch_share zones g0 path u0 u1)
sound-stretch_share zones g0 path u0 u1 h k =
    (omega arith, (omega arith, sound-sum (zone_term g0 path u0 u1) (sound-zone_term g0 path u0 u1 h k) (factor g0) (omega arith) (met_zones path zones)))

sound-start : (region : Region) (path : Path) (dp : Tree) → IsSound dp → IsSound (region_start region path dp)
sound-start Source path dp h = omega arith
sound-start Middle path dp h = (omega arith, h)
sound-start Receiver path dp h = (omega arith, (omega arith, (omega arith, h)))

sound-end : (region : Region) (path : Path) (dp : Tree) → IsSound dp → IsSound (region_end region path dp)
sound-end Source path dp h = (omega arith, (omega arith, h))
sound-end Middle path dp h = (omega arith, (omega arith, h))
sound-end Receiver path dp h = omega arith

sound-from : (region : Region) (path : Path) → IsSound (region_from region path)
sound-from Source path = omega arith
sound-from Middle path = omega arith
sound-from Receiver path = omega arith

sound-share : (region : Region) (zones : List Zone) (g0 : ℕ) (path : Path) (dp : Tree) → IsSound dp → IsSound (share_of region zones g0 path dp)
unfolding share_of
sound-share region zones g0 path dp h =
    (h, sound-from region path, sound-stretch_share zones g0 path (region_start region path dp) (region_end region path dp) (sound-start region path dp h) (sound-end region path dp h), omega arith)

-- ---- Table 3

sound-a_prime : (h : ℕ) (dp : Tree) → IsSound dp → IsSound (a_prime h dp)
unfolding decay_at_125 far_decay_at_125 near_growth far_growth
sound-a_prime h dp k = search (arith, k)

sound-b_prime : (h : ℕ) (dp : Tree) → IsSound dp → IsSound (b_prime h dp)
unfolding decay_at_250 near_growth
sound-b_prime h dp k = search (arith, k)

sound-c_prime : (h : ℕ) (dp : Tree) → IsSound dp → IsSound (c_prime h dp)
unfolding decay_at_500 near_growth
sound-c_prime h dp k = search (arith, k)

sound-d_prime : (h : ℕ) (dp : Tree) → IsSound dp → IsSound (d_prime h dp)
unfolding decay_at_1000 near_growth
sound-d_prime h dp k = search (arith, k)

sound-part : (path : Path) (dp : Tree) → IsSound dp → IsSound (middle_part path dp)
unfolding middle_part
sound-part path dp k = (k, omega arith, (omega arith, (omega arith, k)), omega arith)

sound-low : (g shape : Tree) → IsSound g → IsSound shape → IsSound (end_region_below_2khz g shape)
sound-low g shape h k = (omega arith, (h, k))

sound-high : (g : Tree) → IsSound g → IsSound (end_region_from_2khz g)
sound-high g h = (omega arith, (omega arith, h))

sound-middle : (q g : Tree) → IsSound q → IsSound g → IsSound (middle_above q g)
sound-middle q g h k = ((omega arith, h), (omega arith, k))

sound-low_band : (gs gr q gm s r : Tree) → IsSound gs → IsSound gr → IsSound q → IsSound gm → IsSound s → IsSound r
    → IsSound (Add (Add (end_region_below_2khz gs s) (end_region_below_2khz gr r)) (middle_above q gm))
sound-low_band gs gr q gm s r hs hr hq hm ss sr = ((sound-low gs s hs ss, sound-low gr r hr sr), sound-middle q gm hq hm)

sound-high_band : (gs gr q gm : Tree) → IsSound gs → IsSound gr → IsSound q → IsSound gm → IsSound (Add (Add (end_region_from_2khz gs) (end_region_from_2khz gr)) (middle_above q gm))
sound-high_band gs gr q gm hs hr hq hm = ((sound-high gs hs, sound-high gr hr), sound-middle q gm hq hm)

sound-band_63 : (q : Tree) → IsSound q → IsSound (Add (Add minus_one_and_a_half minus_one_and_a_half) (middle_at_63 q))
sound-band_63 q h = ((omega arith, omega arith), (omega arith, h))

pub ground-sound : (zones : List Zone) (g0 : ℕ) (path : Path) (dp : Tree) → IsSound dp → All IsSound (ground zones g0 path dp)
unfolding ground
ground-sound zones g0 path dp h =
    let gs = share_of Source zones g0 path dp in
    let gm = share_of Middle zones g0 path dp in
    let gr = share_of Receiver zones g0 path dp in
    let q = middle_part path dp in
    let s : IsSound (share_of Source zones g0 path dp) = sound-share Source zones g0 path dp h in
    let m : IsSound (share_of Middle zones g0 path dp) = sound-share Middle zones g0 path dp h in
    let r : IsSound (share_of Receiver zones g0 path dp) = sound-share Receiver zones g0 path dp h in
    let p : IsSound (middle_part path dp) = sound-part path dp h in
    let high = sound-high_band gs gr q gm s r p m in
    all_eight IsSound _ _ _ _ _ _ _ _
    (sound-band_63 q p)
    (sound-low_band gs gr q gm (a_prime path.hs dp) (a_prime path.hr dp) s r p m (sound-a_prime path.hs dp h) (sound-a_prime path.hr dp h))
    (sound-low_band gs gr q gm (b_prime path.hs dp) (b_prime path.hr dp) s r p m (sound-b_prime path.hs dp h) (sound-b_prime path.hr dp h))
    (sound-low_band gs gr q gm (c_prime path.hs dp) (c_prime path.hr dp) s r p m (sound-c_prime path.hs dp h) (sound-c_prime path.hr dp h))
    (sound-low_band gs gr q gm (d_prime path.hs dp) (d_prime path.hr dp) s r p m (sound-d_prime path.hs dp h) (sound-d_prime path.hr dp h))
    high high high
