use Rattle.std.proofs.Common.{◌∙◌, sym, arith}
use Rattle.std.specs.Prelude.{slice_index_or}
use Rattle.std.proofs.lemmas.Int.{ints}
use Rattle.path_cache.proofs.Framing.{nearer-within, low-end, high-end, place-within}
use Rattle.path_cache.proofs.frames.Frame.is_within.Goals as goal

pub returns-clause-all : goal.returns-clause-all
returns-clause-all c is place here =
    let x = c.farther.ensures.farthest place.x (omega (arith, ints, here.right_of_low)) (omega (arith, ints, here.left_of_high)) in
    let y = c.farther-2.ensures.farthest place.y (omega (arith, ints, here.above_low)) (omega (arith, ints, here.below_high)) in
    nearer-within c.args.reach place _ _ c.args.at (omega (arith, ints, x)) (omega (arith, ints, y)) (sym c.within.ensures ∙ is)

pub returns-clause-sources : goal.returns-clause-sources
returns-clause-sources c is sources holds k d below = returns-clause-all c is (slice_index_or sources k d).at (holds k d below)

pub returns-clause-only : goal.returns-clause-only
returns-clause-only c within =
    let frame = c.args.self.now in
    let x = c.farther.ensures.end in
    let y = c.farther-2.ensures.end in
    let left = low-end c.farther.result frame.low.x x (omega (arith, ints)) (omega (arith, ints, frame.x_ordered)) in
    let right = high-end c.farther.result frame.high.x x (omega (arith, ints, frame.x_ordered)) (omega (arith, ints)) in
    let below = low-end c.farther-2.result frame.low.y y (omega (arith, ints)) (omega (arith, ints, frame.y_ordered)) in
    let above = high-end c.farther-2.result frame.high.y y (omega (arith, ints, frame.y_ordered)) (omega (arith, ints)) in
    place-within frame c.args.reach c.args.at c.within.result c.within.ensures within
    (omega (arith, ints, left)) (omega (arith, ints, right)) (omega (arith, ints, below)) (omega (arith, ints, above))
