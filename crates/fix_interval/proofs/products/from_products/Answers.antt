use Rattle.std.proofs.Common.{◌<◌, ◌^◌, ◌≤ℤ◌}
use Rattle.std.specs.Prelude.{unsigned_abs}
use Rattle.fix_interval.proofs.Ratios.{passed}
use Rattle.fix_interval.proofs.Multiplying.{IsInterval-passed, IsInterval-outward}
use Rattle.fix_interval.proofs.products.from_products.Goals as goal

pub of_ends-requires : goal.of_ends-requires
of_ends-requires c =
    let low : unsigned_abs c.in-Some-Some.least < 2 ^ 126 = rw c.in-Some-Some.is-0 at c.requires.low_end in
    let high : unsigned_abs c.in-Some-Some.greatest < 2 ^ 126 = rw c.in-Some-Some.is-1 at c.requires.high_end in
    let ordered : c.in-Some-Some.least ≤ℤ c.in-Some-Some.greatest =
    rw (c.in-Some-Some.is-0, c.in-Some-Some.is-1) at c.requires.ordered in
    IsInterval-passed c.in-Some-Some.least c.in-Some-Some.greatest _ _ _ _
    (passed c.in-Some-Some.least low) (passed c.in-Some-Some.greatest high) c.units_below.ensures c.units_above.ensures
    (IsInterval-outward c.in-Some-Some.least c.in-Some-Some.greatest low high ordered)
