use Rattle.path_calc.proofs.Losing.{losses-kept}
use Rattle.path_calc.proofs.direct.foliage.Losses.along.Goals as goal

pub invariant_of-result : goal.invariant_of-result
invariant_of-result c =
    losses-kept c.args.foliage.now c.args.path.now c.args.distance c.distance_through.result c.requires.distance
    (c.distance_through.ensures.attenuations c.requires.distance)
