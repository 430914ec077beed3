use Rattle.path_calc.proofs.Bounds.{reflected-distance-bounded}
use Rattle.path_calc.proofs.direct.lengths.reflected_distance.Goals as goal

pub returns-clause-bounds : goal.returns-clause-bounds
returns-clause-bounds c =
    rw (c.root.ensures, c.add.ensures, c.square_in_metres.ensures, c.rise_square.ensures.value)
    (reflected-distance-bounded c.args.plan2 _ c.requires.plan c.rise_square.ensures.small)
