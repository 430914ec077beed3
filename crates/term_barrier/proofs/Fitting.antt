-- Edges of sides that cross a line of sight fit.
use Rattle.std.proofs.Common.{◌≡◌, ◌≤◌, zero, suc, refl, arith, ℕ, ℤ, pos, negsuc, ◌<ℤ◌, ◌*ℤ◌, Bool, true, false, [], ◌∷◌, map}
use Rattle.std.specs.Prelude.{unsigned_abs, int_lt, ◌&&◌, filter, IfSome}
use Rattle.std.specs.Bool.{then_some}
use Rattle.std.proofs.lemmas.Int.{ints}
use Rattle.scene_geom.specs.declared.plan.Pt.{Pt}
use Rattle.scene_geom.specs.declared.plan.Side.{Side}
use Rattle.scene_geom.specs.declared.fractions.fraction.Frac.{Frac}
use Rattle.scene_geom.specs.Vector.{cross}
use Rattle.scene_geom.specs.Point.{from_to, along}
use Rattle.scene_geom.specs.Fraction.{over, inner, is_ahead}
use Rattle.scene_geom.specs.Direction.{direct, way, FitsDirection}
use Rattle.scene_geom.specs.Crossing.{is_split, crosses_of}
use Rattle.scene_geom.proofs.Whole.{abs-cross}
use Rattle.scene_geom.proofs.Crossings.{along-within}
use Rattle.term_barrier.specs.Edges.{most_product, FitsEdge}
use Rattle.term_barrier.specs.Screening.{marked}
use Rattle.term_barrier.specs.Laws.{CrossingsFit, MarksFilter}

direct-fits : (p q : Pt) → FitsDirection (direct p q)
direct-fits p q = record {
  x_within = omega (arith, ints, p.x_in_plan.low, p.x_in_plan.high, q.x_in_plan.low, q.x_in_plan.high);
  y_within = omega (arith, ints, p.y_in_plan.low, p.y_in_plan.high, q.y_in_plan.low, q.y_in_plan.high);
  w_within = omega arith;
}

product-within : (side : Side) (p q : Pt) → unsigned_abs (cross (way (direct p q)) (along side)) ≤ most_product
product-within side p q =
    let fits = direct-fits p q in
    abs-cross (direct p q).x (along side).y (direct p q).y (along side).x 2110000000000000000 8000000 fits.x_within (along-within side).1 fits.y_within (along-within side).0

over-below : (n d : ℤ) → unsigned_abs d ≤ most_product → unsigned_abs (over n d).d ≤ most_product
over-below n (pos zero) h = omega arith
over-below n (pos (suc d)) h = h
over-below n (negsuc d) h = omega (arith, ints, h)

-- a place strictly between 0 and 1
within : (place : Frac) → is_ahead place ≡ true → int_lt (place.n *ℤ pos 1) (pos 1 *ℤ place.d) ≡ true → unsigned_abs place.n ≤ unsigned_abs place.d
within place e f = inside place.n place.d (grind (arith, ints)) (grind (arith, ints)) where
  inside : (n d : ℤ) → pos 0 <ℤ n → n <ℤ d → unsigned_abs n ≤ unsigned_abs d
  inside (pos n) (pos d) h k = omega (arith, ints)
  inside (pos n) (negsuc d) h k = absurd (omega (arith, ints))
  inside (negsuc n) d h k = absurd (omega (arith, ints))

inner-fits : (side : Side) (s r : Pt) (h : ℕ) (above : Bool) (place : Frac) → unsigned_abs place.d ≤ most_product
    → IfSome (inner place) (λ t. FitsEdge (record { t = t; side = side; dir = direct s r; h = h; above = above }))
inner-fits side s r h above place below = by_tests (is_ahead place) (int_lt (place.n *ℤ pos 1) (pos 1 *ℤ place.d)) refl refl where
  by_tests : (a b : Bool) → is_ahead place ≡ a → int_lt (place.n *ℤ pos 1) (pos 1 *ℤ place.d) ≡ b
      → IfSome (then_some (a && b) place) (λ t. FitsEdge (record { t = t; side = side; dir = direct s r; h = h; above = above }))
  by_tests true true e f = record { within = within place e f; below = below; direction = direct-fits s r }
  by_tests true false e f = tt
  by_tests false b e f = tt

pub crossings-fit : CrossingsFit
crossings-fit side s r h above = by_split (is_split side s (way (direct s r))) refl where
  by_split : (test : Bool) → is_split side s (way (direct s r)) ≡ test
      → IfSome (crosses_of side s r) (λ t. FitsEdge (record { t = t; side = side; dir = direct s r; h = h; above = above }))
  by_split true e =
      rw e
      (inner-fits side s r h above (over (cross (from_to s side.from) (along side) *ℤ pos 1) (cross (way (direct s r)) (along side)))
      (over-below (cross (from_to s side.from) (along side) *ℤ pos 1) (cross (way (direct s r)) (along side)) (product-within side s r)))
  by_split false e = rw e tt

pub marks-filter : MarksFilter
marks-filter [] test = refl
marks-filter (edge ∷ edges) test = by_test (test edge) refl (marks-filter edges test) where
  by_test : (passes : Bool) → test edge ≡ passes → marked (map test edges) edges ≡ filter test edges → marked (map test (edge ∷ edges)) (edge ∷ edges) ≡ filter test (edge ∷ edges)
  by_test true e h = rw (e, h) refl
  by_test false e h = rw (e, h) refl
