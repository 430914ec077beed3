use Rattle.std.proofs.Common.{arith}
use Rattle.std.proofs.lemmas.Int.{ints}
use Rattle.path_cache.specs.declared.frames.Frame.{Frame}
use Rattle.path_cache.specs.Frames.{IsIn}
use Rattle.path_cache.proofs.Framing.{low-corner, high-corner}
use Rattle.path_cache.proofs.frames.Frame.with.Goals as goal

pub returns-clause-here : goal.returns-clause-here
returns-clause-here c = record {
  right_of_low = omega (arith, ints);
  left_of_high = omega (arith, ints);
  above_low = omega (arith, ints);
  below_high = omega (arith, ints);
}

pub returns-clause-others : goal.returns-clause-others
returns-clause-others c place is = record {
  right_of_low = omega (arith, ints);
  left_of_high = omega (arith, ints);
  above_low = omega (arith, ints);
  below_high = omega (arith, ints);
}

pub returns-clause-tight : goal.returns-clause-tight
returns-clause-tight c other lies here place inside =
    let self : Frame = c.args.self in
    let low : IsIn other self.low = lies self.low (low-corner self) in
    let high : IsIn other self.high = lies self.high (high-corner self) in
    let left = c.lesser.ensures.greatest other.low.x (omega (arith, ints, low.right_of_low)) (omega (arith, ints, here.right_of_low)) in
    let below = c.lesser-2.ensures.greatest other.low.y (omega (arith, ints, low.above_low)) (omega (arith, ints, here.above_low)) in
    let right = c.greater.ensures.least other.high.x (omega (arith, ints, high.left_of_high)) (omega (arith, ints, here.left_of_high)) in
    let above = c.greater-2.ensures.least other.high.y (omega (arith, ints, high.below_high)) (omega (arith, ints, here.below_high)) in
    record {
      right_of_low = omega (arith, ints, left, inside.right_of_low);
      left_of_high = omega (arith, ints, right, inside.left_of_high);
      above_low = omega (arith, ints, below, inside.above_low);
      below_high = omega (arith, ints, above, inside.below_high);
    }
