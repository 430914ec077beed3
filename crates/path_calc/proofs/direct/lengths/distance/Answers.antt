use Rattle.std.proofs.Common.{subst, sym, arith}
use Rattle.term_barrier.specs.Limits.{IsDistance}
use Rattle.path_calc.specs.inner.Ranges.{IsOnMap}
use Rattle.path_calc.proofs.Bounds.{distance-bounded, on-map}
use Rattle.path_calc.proofs.direct.lengths.distance.Goals as goal

pub returns-clause-bounds : goal.returns-clause-bounds
returns-clause-bounds c =
    subst IsDistance (sym c.root_of_square.ensures.value) (distance-bounded _ (omega (arith, c.root_of_square.ensures.small)))

pub returns-clause-near : goal.returns-clause-near
returns-clause-near c = subst IsOnMap (sym c.root_of_square.ensures.value) (on-map _ c.root_of_square.ensures.small)
