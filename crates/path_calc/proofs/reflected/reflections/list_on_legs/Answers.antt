use Rattle.scene_parts.specs.declared.screening.crossing.Crossing.{Crossing}
use Rattle.image_source.specs.declared.leg.Leg.{Leg}
use Rattle.path_calc.proofs.Pushed.{mapped-more, mapped-all}
use Rattle.path_calc.proofs.reflected.reflections.list_on_legs.Goals as goal

pub loop-crossing-preserved : goal.loop-crossing-preserved
loop-crossing-preserved c =
    mapped-more (λ (crossing : Leg × Crossing). crossing.1) c.args.legs.now c.loop-crossing.crossing-index c.loop-crossing-item.result _ _
    c.loop-crossing-test.true c.loop-crossing-item.is c.in_ok-push.ensures.items c.loop-crossing.invariant

pub returns : goal.returns
returns c =
    mapped-all (λ (crossing : Leg × Crossing). crossing.1) c.args.legs.now c.loop-crossing.crossing-index _
    c.loop-crossing-test.false c.loop-crossing.invariant
