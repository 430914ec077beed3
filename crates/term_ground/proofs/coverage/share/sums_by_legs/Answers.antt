use Rattle.std.proofs.Common.{arith}
use Rattle.term_ground.specs.inner.Walks.{stretches_of}
use Rattle.term_ground.proofs.Walking.{drop-step, zones-next}
use Rattle.term_ground.proofs.coverage.share.sums_by_legs.Goals as goal

pub loop-zone-preserved : goal.loop-zone-preserved
loop-zone-preserved c =
    zones-next _ _ _ c.args.outside c.args.path.now _ _ _ (stretches_of c.args.path.now)
    (drop-step c.zone-item.result c.args.zones.now c.loop-zone.zone-index c.zone-item.is (omega arith)) (c.with_zone_by_legs-total.ensures c.args.path.now c.route_of-route.ensures) c.loop-zone.invariant
