use Rattle.term_ground.proofs.ShortEnds.{place-passed}
use Rattle.term_ground.proofs.extents.places.inner_place.Goals as goal

pub returns-clause-value : goal.returns-clause-value
returns-clause-value c =
    let lo = c.in_units-lo in
    place-passed c.args.n c.args.d lo.result.0 lo.result.1 c.requires.before c.requires.short lo.ensures.down lo.ensures.up lo.ensures.ordered lo.ensures.small
