use Rattle.std.proofs.Common.{arith, ◌∙◌}
use Rattle.std.proofs.lemmas.Int.{ints}
use Rattle.fix_interval.proofs.WholeFactors.{within-64}
use Rattle.term_ground.proofs.Lengths.{passed-interval, passed-found}
use Rattle.term_ground.proofs.extents.quotients.length_quotient.Goals as goal

pub of_ends-requires : goal.of_ends-requires
of_ends-requires c =
    let x = c.args.x in
    let by = c.args.by in
    passed-interval x.lo x.hi by.lo by.hi c.requires.start x.ordered c.requires.end (omega (arith, ints, c.requires.least)) by.ordered
    c.units_down-low.result c.units_up-high.result c.into.result c.into-2.result c.into.ensures c.into-2.ensures
    (rw (c.unsigned_abs.ensures.value, c.unsigned_abs-2.ensures.value, within-64 x.lo (omega (arith, x.low_end)), within-64 by.hi (omega (arith, by.high_end))) at c.units_down-low.ensures)
    (rw (c.unsigned_abs-3.ensures.value, c.unsigned_abs-4.ensures.value, within-64 x.hi (omega (arith, x.high_end)), within-64 by.lo (omega (arith, by.low_end))) at c.units_up-high.ensures)

pub returns : goal.returns
returns c =
    let x = c.args.x in
    let by = c.args.by in
    c.of_ends.ensures
    ∙ passed-found x.lo x.hi by.lo by.hi c.requires.start x.ordered c.requires.end (omega (arith, ints, c.requires.least)) by.ordered
    c.units_down-low.result c.units_up-high.result c.into.result c.into-2.result c.into.ensures c.into-2.ensures
    (rw (c.unsigned_abs.ensures.value, c.unsigned_abs-2.ensures.value, within-64 x.lo (omega (arith, x.low_end)), within-64 by.hi (omega (arith, by.high_end))) at c.units_down-low.ensures)
    (rw (c.unsigned_abs-3.ensures.value, c.unsigned_abs-4.ensures.value, within-64 x.hi (omega (arith, x.high_end)), within-64 by.lo (omega (arith, by.low_end))) at c.units_up-high.ensures)
