use Rattle.std.proofs.Common.{◌≡◌, ℕ, ◌<◌, ◌≤◌, ◌^◌, pos, neg_ℤ, arith, ap, sym, ◌∙◌, to_z, of_z}
use Rattle.std.specs.Prelude.{unsigned_abs}
use Rattle.std.specs.Int.{div_ceil, w128}
use Rattle.std.proofs.lemmas.Int.{ints, to_z-of_z}
use Rattle.fix_interval.specs.Round.{floor_of, ceil_of}
use Rattle.fix_interval.proofs.Rounding.{ceil_of-pos, floor_of-negative, unsigned_abs-ceil_of, unsigned_abs-floor_of}
use Rattle.fix_interval.proofs.quotients.rounded.Goals as goal

pub returns-then-n-ge0-clause-ceil : goal.returns-then-n-ge0-clause-ceil
returns-then-n-ge0-clause-ceil c =
    let same : to_z w128 (of_z w128 c.args.n) ≡ c.args.n = to_z-of_z w128 c.args.n c.ranges.n in
    let outer : c.natural_quotients-inner.result.1 ≡ div_ceil (unsigned_abs c.args.n) c.args.d = cc in
    let up : ceil_of c.args.n c.args.d ≡ pos (div_ceil (unsigned_abs c.args.n) c.args.d) =
    ceil_of-pos c.args.n c.args.d c.requires.divisor (omega (arith, ints)) in
    let small : unsigned_abs (ceil_of c.args.n c.args.d) ≤ unsigned_abs c.args.n =
    unsigned_abs-ceil_of c.args.n c.args.d c.requires.divisor in
    let size : c.natural_quotients-inner.result.1 < 2 ^ 126 = omega (arith, ap unsigned_abs up, c.requires.small) in
    omega (arith, ints) ∙ ap pos outer ∙ sym up

pub returns-else-n-ge0-clause-floor : goal.returns-else-n-ge0-clause-floor
returns-else-n-ge0-clause-floor c =
    let same : to_z w128 (of_z w128 c.args.n) ≡ c.args.n = to_z-of_z w128 c.args.n c.ranges.n in
    let outer : c.natural_quotients-inner.result.1 ≡ div_ceil (unsigned_abs c.args.n) c.args.d = cc in
    let down : floor_of c.args.n c.args.d ≡ neg_ℤ (pos (div_ceil (unsigned_abs c.args.n) c.args.d)) =
    floor_of-negative c.args.n c.args.d c.requires.divisor (omega (arith, ints)) in
    let small : unsigned_abs (floor_of c.args.n c.args.d) ≤ unsigned_abs c.args.n =
    unsigned_abs-floor_of c.args.n c.args.d c.requires.divisor in
    let size : c.natural_quotients-inner.result.1 < 2 ^ 126 =
    omega (arith, ints, ap unsigned_abs down, c.requires.small) in
    omega (arith, ints) ∙ ap (λ (n : ℕ). neg_ℤ (pos n)) outer ∙ sym down
