use Rattle.std.proofs.Common.{◌≡◌, ℕ, ◌+◌, ◌<◌, ◌≤◌, ◌^◌, pos, neg_ℤ, ap, sym, subst, ◌∙◌, arith, true, false, List, ◌∷◌, length}
use Rattle.std.specs.Prelude.{◌==◌, Some, None}
use Rattle.fix_interval.specs.Interval.{Interval}
use Rattle.fix_interval.specs.Bounds.{AreBetween}
use Rattle.fix_interval.specs.Values.{add_of}
use Rattle.fix_interval.specs.Tree.{Known, enc}
use Rattle.scene_geom.specs.declared.plan.Pt.{Pt}
use Rattle.scene_geom.specs.declared.band.Band.{Band}
use Rattle.path_shape.specs.Shape.{plan_length}
use Rattle.term_barrier.specs.Diffraction.{path_difference}
use Rattle.term_barrier.specs.inner.Reaching.{round_value}
use Rattle.term_barrier.specs.Lateral.{between_corners, last_corner, height_square, lateral_difference, side_attenuation}
use Rattle.term_barrier.specs.Limits.{most_corners, most_top, IsDistance}
use Rattle.term_barrier.proofs.Cornering.{lateral-known, one-corner, more-corners, in-bands, all-bands}
use Rattle.term_barrier.proofs.Lengths.{Near, near-corners}
use Rattle.term_barrier.proofs.LateralBounds.{way-between, heights-between, difference-between, one-between, several-between}
use Rattle.term_barrier.proofs.sides.RoundSides.of.Goals.{Then-is_empty}
use Rattle.term_barrier.proofs.sides.RoundSides.of.Goals as goal

none-of : (n : ℕ) → (n == 0) ≡ true → n ≡ 0
none-of n e = grind arith

some-of : (n : ℕ) → (n == 0) ≡ false → 0 < n
some-of n e = grind arith

-- fewer corners follow the first
fewer : (first : Pt) (others corners : List Pt) → corners ≡ first ∷ others → length corners ≤ most_corners → length others < 2 ^ 16
fewer first others corners e h = let few = rw e at h in omega (arith, few)

-- z, as it was found
z-between : (s : Pt) (hs : ℕ) (r : Pt) (hr : ℕ) (first : Pt) (others : List Pt) (way square d z : Interval) → hs < 2 ^ 32 → hr < 2 ^ 32
    → length others < 2 ^ 16 → IsDistance d
    → way ≡ add_of (add_of (enc (plan_length s first)) (enc (between_corners first others))) (enc (plan_length (last_corner first others) r))
    → square ≡ enc (height_square hs hr) → z ≡ enc (path_difference (Known way) (Known square) (Known d))
    → AreBetween (neg_ℤ (pos (2 ^ 60))) (pos (2 ^ 63)) z
z-between s hs r hr first others way square d z h k few distance e f g =
    subst (AreBetween (neg_ℤ (pos (2 ^ 60))) (pos (2 ^ 63))) (sym g)
    (difference-between way square d
    (subst (AreBetween (pos 0) (pos (2 ^ 62 + 2 ^ 47))) (sym e) (way-between s r first others few))
    (subst (AreBetween (pos 0) (pos (2 ^ 80))) (sym f) (heights-between hs hr h k)) distance)

-- D_z in a band, round one corner and round several
one : (c : Then-is_empty) (band : Band)
    → round_value None c.path_difference-z.result band ≡ enc (side_attenuation c.args.s c.args.hs c.args.r c.args.hr c.args.corners.now (Known c.args.d) band)
one c band =
    let first = c.in-Some.first.now in
    let others = c.in-Some.others.now in
    let z : c.path_difference-z.result ≡ enc (lateral_difference c.args.s c.args.hs c.args.r c.args.hr first others (Known c.args.d)) =
    rw (c.path_difference-z.ensures, c.add-length.ensures, c.add.ensures, c.distance.ensures, c.distance-2.ensures, c.height_square.ensures, c.way_round-e.ensures.length, c.way_round-e.ensures.last)
    (lateral-known c.args.s c.args.hs c.args.r c.args.hr first others c.args.d) in
    one-corner c.args.s c.args.hs c.args.r c.args.hr first others c.args.d band c.path_difference-z.result (none-of _ (sym c.is_empty.ensures ∙ c.if-is_empty.true)) z
    ∙ ap (λ (corners : List Pt). enc (side_attenuation c.args.s c.args.hs c.args.r c.args.hr corners (Known c.args.d) band)) (sym c.in-Some.ensures.cases.0)

several : (c : goal.After-of) (band : Band)
    → round_value (Some c.of.result) c.path_difference-z.result band
    ≡ enc (side_attenuation c.args.s c.args.hs c.args.r c.args.hr c.args.corners.now (Known c.args.d) band)
several c band =
    let first = c.in-Some.first.now in
    let others = c.in-Some.others.now in
    let z : c.path_difference-z.result ≡ enc (lateral_difference c.args.s c.args.hs c.args.r c.args.hr first others (Known c.args.d)) =
    rw (c.path_difference-z.ensures, c.add-length.ensures, c.add.ensures, c.distance.ensures, c.distance-2.ensures, c.height_square.ensures, c.way_round-e.ensures.length, c.way_round-e.ensures.last)
    (lateral-known c.args.s c.args.hs c.args.r c.args.hr first others c.args.d) in
    rw c.of.ensures
    (more-corners c.args.s c.args.hs c.args.r c.args.hr first others c.args.d band c.way_round-e.result.0 c.path_difference-z.result (some-of _ (sym c.is_empty.ensures ∙ c.if-is_empty.false)) c.way_round-e.ensures.length z)
    ∙ ap (λ (corners : List Pt). enc (side_attenuation c.args.s c.args.hs c.args.r c.args.hr corners (Known c.args.d) band)) (sym c.in-Some.ensures.cases.0)

pub returns-then-is_empty-clause-value : goal.returns-then-is_empty-clause-value
returns-then-is_empty-clause-value c = all-bands _ _ (one c)

pub returns-clause-value : goal.returns-clause-value
returns-clause-value c = all-bands _ _ (several c)

pub returns-then-is_empty-clause-bounds : goal.returns-then-is_empty-clause-bounds
returns-then-is_empty-clause-bounds c = λ few distance band.
    let first = c.in-Some.first.now in
    let others = c.in-Some.others.now in
    let z = z-between c.args.s c.args.hs c.args.r c.args.hr first others c.add-length.result c.height_square.result c.args.d c.path_difference-z.result
    (omega (arith, c.ranges.hs.fits)) (omega (arith, c.ranges.hr.fits)) (fewer first others c.args.corners.now c.in-Some.ensures.cases.0 few) distance
    (rw (c.add-length.ensures, c.add.ensures, c.distance.ensures, c.distance-2.ensures, c.way_round-e.ensures.length, c.way_round-e.ensures.last)) c.height_square.ensures c.path_difference-z.ensures in
    subst (AreBetween (pos 0) most_top) (sym (in-bands (round_value None c.path_difference-z.result) band))
    (one-between band c.path_difference-z.result z)

pub returns-clause-bounds : goal.returns-clause-bounds
returns-clause-bounds c = λ few distance band.
    let first = c.in-Some.first.now in
    let others = c.in-Some.others.now in
    let fewer = fewer first others c.args.corners.now c.in-Some.ensures.cases.0 few in
    let z = z-between c.args.s c.args.hs c.args.r c.args.hr first others c.add-length.result c.height_square.result c.args.d c.path_difference-z.result
    (omega (arith, c.ranges.hs.fits)) (omega (arith, c.ranges.hr.fits)) fewer distance
    (rw (c.add-length.ensures, c.add.ensures, c.distance.ensures, c.distance-2.ensures, c.way_round-e.ensures.length, c.way_round-e.ensures.last)) c.height_square.ensures c.path_difference-z.ensures in
    subst (AreBetween (pos 0) most_top) (sym (in-bands (round_value (Some c.of.result) c.path_difference-z.result) band))
    (rw c.of.ensures
    (several-between band c.way_round-e.result.0 c.path_difference-z.result (subst (Near (2 ^ 33) (2 ^ 62)) (sym c.way_round-e.ensures.length) (near-corners first others fewer)) z))
