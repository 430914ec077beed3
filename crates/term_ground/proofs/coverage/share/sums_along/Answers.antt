use Rattle.std.proofs.Common.{arith}
use Rattle.term_ground.specs.inner.Extents.{by_ends}
use Rattle.term_ground.specs.inner.Walks.{stretches_of}
use Rattle.term_ground.proofs.Walking.{drop-step, zones-next}
use Rattle.term_ground.proofs.coverage.share.sums_along.Goals as goal

pub loop-zone-preserved : goal.loop-zone-preserved
loop-zone-preserved c = λ path is.
    zones-next _ _ _ (by_ends c.args.outside) path _ _ _ (stretches_of path)
    (drop-step c.zone-item.result c.args.zones.now c.loop-zone.zone-index c.zone-item.is (omega arith)) (c.in_ok-total.ensures path is) (c.loop-zone.invariant path is)
