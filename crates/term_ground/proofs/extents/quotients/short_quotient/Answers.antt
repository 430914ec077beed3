use Rattle.std.proofs.Common.{◌∙◌}
use Rattle.fix_interval.specs.Values.{div_of}
use Rattle.term_ground.proofs.ShortEnds.{quotient-found, quotient-interval, least-passed, greatest-passed}
use Rattle.term_ground.proofs.extents.quotients.short_quotient.Goals as goal

pub of_ends-requires : goal.of_ends-requires
of_ends-requires c =
    let x = c.args.x in
    let by = c.args.by in
    quotient-interval x.lo x.hi by.lo by.hi c.least.result c.greatest.result c.requires.positive by.ordered x.ordered c.requires.low c.requires.high (least-passed x.lo by.lo by.hi c.least.result c.requires.low c.least.ensures) (greatest-passed x.hi by.lo by.hi c.greatest.result c.requires.high c.greatest.ensures)

pub returns : goal.returns
unfolding div_of
returns c =
    let x = c.args.x in
    let by = c.args.by in
    c.of_ends.ensures
    ∙ quotient-found x.lo x.hi by.lo by.hi c.least.result c.greatest.result c.requires.positive by.ordered x.ordered c.requires.low c.requires.high (least-passed x.lo by.lo by.hi c.least.result c.requires.low c.least.ensures) (greatest-passed x.hi by.lo by.hi c.greatest.result c.requires.high c.greatest.ensures)
