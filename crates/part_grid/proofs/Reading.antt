-- What the code's numbers of 128 bits say of a way.
use Rattle.std.proofs.Common.{◌≡◌, zero, suc, ◌≤◌, arith, ap, ◌∙◌}
use Rattle.std.specs.Prelude.{ℤ, pos, negsuc, ◌+ℤ◌, ◌-ℤ◌, ◌*ℤ◌, ◌<ℤ◌, unsigned_abs}
use Rattle.std.proofs.lemmas.Int.{ints}
use Rattle.scene_geom.proofs.Whole.{abs-mul, product_fits, product_is}
use Rattle.scene_geom.specs.declared.fractions.fraction.Frac.{Frac}
use Rattle.scene_geom.specs.Fraction.{over}
use Rattle.scene_geom.specs.Plan.{InPlan}
use Rattle.part_grid.specs.Ways.{floor_of, end_at}
use mir.Syntax.{w32, w128}
use mir.Val.{SFits, to_z, of_z}

pub product-some : (a b : ℤ) → pos 0 <ℤ a → pos 0 <ℤ b → a *ℤ b ≡ pos 0 → ⊥
product-some (pos zero) b h k e = omega (arith, ints)
product-some (pos (suc m)) (pos zero) h k e = omega (arith, ints)
product-some (pos (suc m)) (pos (suc n)) h k e = omega (arith, ints)
product-some (pos (suc m)) (negsuc n) h k e = omega (arith, ints)
product-some (negsuc m) b h k e = omega (arith, ints)

-- a sum of two numbers that are read again
pub sum-kept : (a b : ℤ) → unsigned_abs a ≤ 10000000000000000000000000000000 → unsigned_abs b ≤ 10000000000000000000000000000000
    → to_z w128 (of_z w128 (to_z w128 (of_z w128 a) +ℤ to_z w128 (of_z w128 b))) ≡ a +ℤ b
sum-kept a b ha hb = omega (arith, ints)

-- the way to an easting, times a component of a direction
pub record IsAhead (r s v x y : ℤ) : Type 0 where
  pub fits : SFits w128 (to_z w128 (of_z w128 (to_z w128 (of_z w128 r) -ℤ to_z w128 (of_z w128 s))) *ℤ to_z w128 (of_z w128 v))
  pub is : to_z w128 (of_z w128 (to_z w128 (of_z w128 (to_z w128 (of_z w128 r) -ℤ to_z w128 (of_z w128 s))) *ℤ to_z w128 (of_z w128 v))) ≡ (x -ℤ y) *ℤ v
  pub within : unsigned_abs ((x -ℤ y) *ℤ v) ≤ 10000000000000000000000000000000

pub ahead : (r s v x y : ℤ) → unsigned_abs x ≤ 4063232 → unsigned_abs y ≤ 4000000 → unsigned_abs v ≤ 2110000000000000000 → r ≡ x → s ≡ y → IsAhead r s v x y
ahead r s v x y hx hy hv er es =
    let way = to_z w128 (of_z w128 r) -ℤ to_z w128 (of_z w128 s) in
    let way_is : way ≡ x -ℤ y = omega (arith, ints) in
    let way_within : unsigned_abs way ≤ 8063232 = omega (arith, ints) in
    let within : unsigned_abs (x -ℤ y) ≤ 8063232 = omega (arith, ints) in
    record {
      fits = product_fits way v 8063232 2110000000000000000 way_within hv (omega arith) (omega arith) (omega arith);
      is = product_is way v 8063232 2110000000000000000 way_within hv (omega arith) (omega arith) (omega arith) ∙ ap (λ (z : ℤ). z *ℤ v) way_is;
      within = omega (arith, abs-mul (x -ℤ y) v 8063232 2110000000000000000 within hv);
    }

-- both products at the end of a way
pub far : (n v : ℤ) → unsigned_abs n ≤ 2970000000000 → unsigned_abs v ≤ 2110000000000000000 → to_z w128 (of_z w128 (to_z w128 (of_z w128 n) *ℤ to_z w128 (of_z w128 v))) ≡ n *ℤ v
far n v hn hv = product_is n v 2970000000000 2110000000000000000 hn hv (omega arith) (omega arith) (omega arith)

pub divisor : (d w : ℤ) → unsigned_abs d ≤ 5940000000000 → unsigned_abs w ≤ 68718952449 → to_z w128 (of_z w128 (to_z w128 (of_z w128 d) *ℤ to_z w128 (of_z w128 w))) ≡ d *ℤ w
divisor d w hd hw = product_is d w 5940000000000 68718952449 hd hw (omega arith) (omega arith) (omega arith)

pub floor-same : (n m d e : ℤ) → n ≡ m → d ≡ e → floor_of (over n d) ≡ floor_of (over m e)
floor-same n m d e p q = ap (λ (z : ℤ). floor_of (over z d)) p ∙ ap (λ (z : ℤ). floor_of (over m z)) q

-- what a way's end is calculated from, passed on
pub end-same : (s t v x d w : ℤ) (end : Frac) → s ≡ t → v ≡ x → d ≡ w → end_at s v d end ≡ end_at t x w end
end-same s t v x d w end e f g = ap (λ (z : ℤ). end_at z v d end) e ∙ ap (λ (z : ℤ). end_at t z d end) f ∙ ap (λ (z : ℤ). end_at t x z end) g

pub coordinate-kept : (z : ℤ) → InPlan z → to_z w32 (of_z w32 z) ≡ z
coordinate-kept z h = omega (arith, ints, h.low, h.high)
