-- Edges on the legs of a reflection lie between source and receiver, and fit.
use Rattle.std.proofs.Common.{◌≡◌, ℕ, zero, suc, ◌*◌, ◌≤◌, ◌<◌, refl, arith, ℤ, pos, negsuc, ◌<ℤ◌, ◌*ℤ◌, Bool, true, false}
use Rattle.std.specs.Prelude.{unsigned_abs, int_lt, nat_le, ◌&&◌, Option, Some, None, IfSome}
use Rattle.std.specs.Bool.{then_some}
use Rattle.std.specs.Option.{option_map}
use Rattle.std.proofs.lemmas.Int.{ints}
use Rattle.std.proofs.Math.Nat.{mul-le-mul}
use Rattle.scene_geom.specs.declared.plan.Pt.{Pt}
use Rattle.scene_geom.specs.declared.plan.Side.{Side}
use Rattle.scene_geom.specs.declared.fractions.fraction.Frac.{Frac}
use Rattle.scene_geom.specs.declared.directions.direction.Dir.{Dir}
use Rattle.scene_geom.specs.declared.reflection.Reflection.{Reflection}
use Rattle.scene_geom.specs.Vector.{cross}
use Rattle.scene_geom.specs.Point.{from_to, along}
use Rattle.scene_geom.specs.Fraction.{over, is_ahead, is_inside, rest_of}
use Rattle.scene_geom.specs.Direction.{way, FitsDirection}
use Rattle.scene_geom.specs.Crossing.{is_split}
use Rattle.scene_geom.proofs.Whole.{abs-cross}
use Rattle.scene_geom.proofs.Crossings.{along-within}
use Rattle.scene_parts.specs.declared.screening.ends.Ends.{Ends}
use Rattle.scene_parts.specs.Crossings.{rises_above}
use Rattle.image_source.specs.declared.leg.Leg.{Leg}
use Rattle.image_source.specs.declared.leg.Leg.TheVariants.{First, Second}
use Rattle.image_source.specs.Mirrors.{IsMirror}
use Rattle.image_source.specs.LegCuts.{place_up_to, place_on, dir_on}
use Rattle.image_source.specs.Laws.{FitsLegEdge, LegEdgesFit}

-- ---- places on legs

-- strictly between 0 and 1, with the bound of a hit's divisor
record IsBetween (t : Frac) : Type 0 where
  after : pos 0 <ℤ t.n
  before : t.n <ℤ t.d
  below : unsigned_abs t.d ≤ 33760000000000000000000000

below-end : (x y a b : ℕ) → a < b → x * b < a * y → x < y
below-end x y a b h k = by_test (nat_le y x) refl where
  reached : nat_le y x ≡ true → y ≤ x
  reached e = grind arith

  passed : nat_le y x ≡ false → x < y
  passed e = grind arith

  by_test : (test : Bool) → nat_le y x ≡ test → x < y
  by_test false e = passed e
  by_test true e =
      let less : a ≤ b = omega (arith, h) in
      let most : a * y ≤ b * x = mul-le-mul less (reached e) in
      absurd (omega (arith, k, most))

inside-end : (n d a b : ℤ) → pos 0 <ℤ n → pos 0 <ℤ d → pos 0 <ℤ a → a <ℤ b → (n *ℤ b) <ℤ (a *ℤ d) → n <ℤ d
inside-end (pos x) (pos y) (pos a) (pos b) hn hd ha hb h = omega (arith, ints, below-end x y a b (omega (arith, ints, hb)) (omega (arith, ints, h)))
inside-end (negsuc x) d a b hn hd ha hb h = absurd (omega (arith, ints, hn))
inside-end (pos x) (negsuc y) a b hn hd ha hb h = absurd (omega (arith, ints, hd))
inside-end (pos x) (pos y) (negsuc a) b hn hd ha hb h = absurd (omega (arith, ints, ha))
inside-end (pos x) (pos y) (pos a) (negsuc b) hn hd ha hb h = absurd (omega (arith, ints, hb))

inside-between : (place end : Frac) → unsigned_abs place.d ≤ 33760000000000000000000000 → pos 0 <ℤ end.n → end.n <ℤ end.d
    → IfSome (then_some (is_inside place end) place) IsBetween
inside-between place end below h k = by_tests (is_ahead place) (int_lt (place.n *ℤ end.d) (end.n *ℤ place.d)) refl refl where
  by_tests : (a b : Bool) → is_ahead place ≡ a → int_lt (place.n *ℤ end.d) (end.n *ℤ place.d) ≡ b → IfSome (then_some (a && b) place) IsBetween
  by_tests true true e f =
      let ahead : pos 0 <ℤ place.n = grind (arith, ints) in
      let near : (place.n *ℤ end.d) <ℤ (end.n *ℤ place.d) = grind (arith, ints) in
      record { after = ahead; before = inside-end place.n place.d end.n end.d ahead place.positive h k near; below = below }
  by_tests true false e f = tt
  by_tests false b e f = tt

over-below : (n d : ℤ) → unsigned_abs d ≤ 33760000000000000000000000 → unsigned_abs (over n d).d ≤ 33760000000000000000000000
over-below n (pos zero) h = omega arith
over-below n (pos (suc d)) h = h
over-below n (negsuc d) h = omega (arith, ints, h)

up-to-between : (end : Frac) (side : Side) (from : Pt) (dir : Dir) → FitsDirection dir → pos 0 <ℤ end.n → end.n <ℤ end.d → IfSome (place_up_to end side from dir) IsBetween
up-to-between end side from dir fits h k = by_split (is_split side from (way dir)) refl where
  by_split : (test : Bool) → is_split side from (way dir) ≡ test → IfSome (place_up_to end side from dir) IsBetween
  by_split false e = rw e tt
  by_split true e =
      rw e
      (inside-between (over (cross (from_to from side.from) (along side) *ℤ dir.w) (cross (way dir) (along side))) end
      (over-below (cross (from_to from side.from) (along side) *ℤ dir.w) (cross (way dir) (along side))
      (abs-cross dir.x (along side).y dir.y (along side).x 2110000000000000000 8000000 fits.x_within (along-within side).1 fits.y_within (along-within side).0))
      h k)

turned-between : (t : Frac) → IsBetween t → IsBetween (rest_of t)
turned-between t h = record {
  after = omega (arith, ints, h.before);
  before = omega (arith, ints, h.after);
  below = h.below;
}

turned-round : (place : Option Frac) → IfSome place IsBetween → IfSome (option_map rest_of place) IsBetween
turned-round None h = tt
turned-round (Some t) h = turned-between t h

on-between : (leg : Leg) (path : Reflection) (ends : Ends) (side : Side) → IsMirror path → IfSome (place_on leg path ends side) IsBetween
on-between First path ends side h = up-to-between path.p side ends.s path.first h.fits.first h.after_source h.before_receiver
on-between Second path ends side h =
    turned-round (place_up_to (rest_of path.p) side ends.r path.second)
    (up-to-between (rest_of path.p) side ends.r path.second h.fits.second (omega (arith, ints, h.before_receiver)) (omega (arith, ints, h.after_source)))

-- ---- edges

dir-fits : (leg : Leg) (path : Reflection) → IsMirror path → FitsDirection (dir_on leg path)
dir-fits First path h = h.fits.first
dir-fits Second path h = h.fits.second

within : (n d : ℤ) → pos 0 <ℤ n → n <ℤ d → unsigned_abs n ≤ unsigned_abs d
within (pos n) (pos d) h k = omega (arith, ints)
within (pos n) (negsuc d) h k = absurd (omega (arith, ints))
within (negsuc n) d h k = absurd (omega (arith, ints))

edges-fit : (place : Option Frac) (ends : Ends) (h : ℕ) (side : Side) (dir : Dir) → FitsDirection dir → IfSome place IsBetween
    → IfSome (option_map (λ t. record { t = t; side = side; dir = dir; h = h; above = rises_above ends h t }) place) FitsLegEdge
edges-fit None ends h side dir fits between = tt
edges-fit (Some t) ends h side dir fits between = record { within = within t.n t.d between.after between.before; below = between.below; direction = fits }

pub leg-edges-fit : LegEdgesFit
leg-edges-fit leg path ends h side is = edges-fit (place_on leg path ends side) ends h side (dir_on leg path) (dir-fits leg path is) (on-between leg path ends side is)
