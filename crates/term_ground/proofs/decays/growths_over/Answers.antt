use Rattle.path_shape.proofs.Lengths.{path-span, path-found}
use Rattle.term_ground.specs.Ground.{near_growth, far_growth}
use Rattle.term_ground.proofs.TermBounds.{near-small, far-small}
use Rattle.term_ground.proofs.Decaying.{near-low, far-low}
use Rattle.term_ground.proofs.decays.growths_over.Goals as goal

pub exp_neg-requires : goal.exp_neg-requires
exp_neg-requires c =
    let path = c.args.path.now in
    rw (c.over.ensures) (near-low path.dp (path-span path.legs path.s path.r path.dp c.requires))

pub exp_neg-requires-2 : goal.exp_neg-requires-2
exp_neg-requires-2 c =
    let path = c.args.path.now in
    rw (c.over-2.ensures, c.times.ensures, c.mul-squared.ensures) (far-low path.dp (path-span path.legs path.s path.r path.dp c.requires))

pub of-requires : goal.of-requires
unfolding near_growth
of-requires c =
    let path = c.args.path.now in
    rw (c.sub.ensures, c.exact-one.ensures, c.exp_neg.ensures.value, c.over.ensures)
    (near-small path.dp (path-found path.legs path.s path.r path.dp c.requires))

pub of-requires-2 : goal.of-requires-2
unfolding far_growth
of-requires-2 c =
    let path = c.args.path.now in
    rw (c.sub-2.ensures, c.exact-one.ensures, c.exp_neg-2.ensures.value, c.over-2.ensures, c.times.ensures, c.mul-squared.ensures)
    (far-small path.dp (path-found path.legs path.s path.r path.dp c.requires))
