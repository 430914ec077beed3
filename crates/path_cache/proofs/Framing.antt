-- Boxes round sources, and how far their places are from a receiver.
use Rattle.std.proofs.Common.{◌≡◌, ℕ, ◌+◌, ◌≤◌, true, ◌⊎◌, inl, inr, ap, ◌∙◌, arith}
use Rattle.std.specs.Prelude.{ℤ, Bool, ◌-ℤ◌, ◌≤ℤ◌, unsigned_abs, nat_le}
use Rattle.std.proofs.lemmas.Int.{ints}
use Rattle.std.proofs.lemmas.Bool.Decides.{nat_tests}
use Rattle.std.proofs.lemmas.Nat.{mul-le}
use Rattle.scene_geom.specs.declared.plan.Pt.{Pt}
use Rattle.path_shape.specs.Shape.{squared}
use Rattle.path_calc.specs.Lengths.{is_within}
use Rattle.path_cache.specs.declared.frames.Frame.{Frame}
use Rattle.path_cache.specs.Frames.{IsIn, LiesIn}

squared-le : (m n : ℕ) → m ≤ n → squared m ≤ squared n
unfolding squared
squared-le m n le = mul-le m m n n le le

-- a place that is no farther in either coordinate than these of a corner within reach is within reach
pub nearer-within : (reach : ℕ) (s : Pt) (x y : ℤ) (at : Pt) → unsigned_abs (at.x -ℤ s.x) ≤ unsigned_abs (at.x -ℤ x) → unsigned_abs (at.y -ℤ s.y) ≤ unsigned_abs (at.y -ℤ y)
    → nat_le (squared (unsigned_abs (at.x -ℤ x)) + squared (unsigned_abs (at.y -ℤ y))) (squared reach) ≡ true → is_within reach s at ≡ true
nearer-within reach s x y at x_near y_near there =
    let xs = squared-le (unsigned_abs (at.x -ℤ s.x)) (unsigned_abs (at.x -ℤ x)) x_near in
    let ys = squared-le (unsigned_abs (at.y -ℤ s.y)) (unsigned_abs (at.y -ℤ y)) y_near in
    grind (arith, nat_tests)

-- either end of a range lies in it
pub low-end : {low high : ℤ} (z l : ℤ) → (z ≡ low) ⊎ (z ≡ high) → l ≤ℤ low → l ≤ℤ high → l ≤ℤ z
low-end z l (inl is) low high = omega (arith, ints, is, low)
low-end z l (inr is) low high = omega (arith, ints, is, high)

pub high-end : {low high : ℤ} (z h : ℤ) → (z ≡ low) ⊎ (z ≡ high) → low ≤ℤ h → high ≤ℤ h → z ≤ℤ h
high-end z h (inl is) low high = omega (arith, ints, is, low)
high-end z h (inr is) low high = omega (arith, ints, is, high)

-- a box has both of its corners
pub low-corner : (frame : Frame) → IsIn frame frame.low
low-corner frame = record {
  right_of_low = omega (arith, ints);
  left_of_high = frame.x_ordered;
  above_low = omega (arith, ints);
  below_high = frame.y_ordered;
}

pub high-corner : (frame : Frame) → IsIn frame frame.high
high-corner frame = record {
  right_of_low = frame.x_ordered;
  left_of_high = omega (arith, ints);
  above_low = frame.y_ordered;
  below_high = omega (arith, ints);
}

-- where each place of a box is within reach, so is one of these coordinates
pub place-within : {x y : ℤ} (frame : Frame) (reach : ℕ) (at : Pt) (result : Bool)
    → result ≡ nat_le (squared (unsigned_abs (at.x -ℤ x)) + squared (unsigned_abs (at.y -ℤ y))) (squared reach)
    → ((place : Pt) → IsIn frame place → is_within reach place at ≡ true)
    → frame.low.x ≤ℤ x → x ≤ℤ frame.high.x → frame.low.y ≤ℤ y → y ≤ℤ frame.high.y → result ≡ true
place-within {x} {y} frame reach at result is within left right below above =
    let place : Pt = record {
      x = x;
      y = y;
      x_in_plan = record { low = omega (arith, ints, frame.low.x_in_plan.low, left); high = omega (arith, ints, frame.high.x_in_plan.high, right) };
      y_in_plan = record { low = omega (arith, ints, frame.low.y_in_plan.low, below); high = omega (arith, ints, frame.high.y_in_plan.high, above) };
    } in
    is ∙ within place (record { right_of_low = left; left_of_high = right; above_low = below; below_high = above })

-- the box of one place lies in each box that has it
pub one-lies : (frame other : Frame) (at : Pt) → frame.low ≡ at → frame.high ≡ at → IsIn other at → LiesIn frame other
one-lies frame other at low high here place inside = record {
  right_of_low = omega (arith, ints, here.right_of_low, inside.right_of_low, ap (λ (p : Pt). p.x) low);
  left_of_high = omega (arith, ints, here.left_of_high, inside.left_of_high, ap (λ (p : Pt). p.x) high);
  above_low = omega (arith, ints, here.above_low, inside.above_low, ap (λ (p : Pt). p.y) low);
  below_high = omega (arith, ints, here.below_high, inside.below_high, ap (λ (p : Pt). p.y) high);
}
