use Rattle.scene_parts.specs.declared.screening.crossing.Crossing.{Crossing}
use Rattle.path_calc.proofs.Pushed.{mapped-more, mapped-all}
use Rattle.path_calc.proofs.direct.screening.list_edges.Goals as goal

pub loop-crossing-preserved : goal.loop-crossing-preserved
loop-crossing-preserved c =
    mapped-more (λ (crossing : Crossing). crossing.edge) c.args.crossings.now c.loop-crossing.crossing-index c.crossing-item.result _ _
    c.loop-crossing-test.true c.crossing-item.is c.in_ok-push.ensures.items c.loop-crossing.invariant

pub returns : goal.returns
returns c =
    mapped-all (λ (crossing : Crossing). crossing.edge) c.args.crossings.now c.loop-crossing.crossing-index _
    c.loop-crossing-test.false c.loop-crossing.invariant
