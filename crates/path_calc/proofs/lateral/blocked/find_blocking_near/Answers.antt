use Rattle.std.proofs.Common.{◌∙◌}
use Rattle.path_calc.proofs.Barred.{corner-added, last-added, way-is}
use Rattle.path_calc.proofs.lateral.blocked.find_blocking_near.Goals as goal

pub loop-corner-preserved : goal.loop-corner-preserved
loop-corner-preserved c = λ band.
    corner-added band c.args.ends c.args.obstacles.now c.args.corners.now c.loop-corner.corner-index c.loop-corner.from c.corner-item.result _ _ _ c.loop-corner-test.true c.corner-item.is
    (c.in_ok-add_blocking.ensures band) (c.loop-corner.invariant band)

pub returns : goal.returns
returns c = λ band.
    last-added band c.args.ends c.args.obstacles.now c.args.corners.now c.loop-corner.corner-index c.loop-corner.from _ _ _ c.loop-corner-test.false
    (c.in_ok-add_blocking-2.ensures band) (c.loop-corner.invariant band)
    ∙ way-is band c.args.ends c.args.corners.now c.args.obstacles.now
