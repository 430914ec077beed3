use Rattle.scene_geom.specs.declared.plan.Side.{Side}
use Rattle.scene_parts.specs.Parts.{sides_of}
use Rattle.touch_test.specs.Crossings.{crosses_legs}
use Rattle.touch_test.proofs.Lists.{passes-there, fails-too}
use Rattle.touch_test.proofs.crossings.crosses_reflection.Goals as goal

pub returns-then-crosses_legs : goal.returns-then-crosses_legs
returns-then-crosses_legs c =
    passes-there (λ (side : Side). crosses_legs side c.args.path.now c.args.s c.args.r) (sides_of c.args.obstacle.now) c.loop-i.i c.side_of.result _ c.side_of.ensures c.crosses_legs.ensures c.if-crosses_legs.true

pub loop-i-preserved : goal.loop-i-preserved
loop-i-preserved c =
    fails-too (λ (side : Side). crosses_legs side c.args.path.now c.args.s c.args.r) (sides_of c.args.obstacle.now) c.loop-i.i c.side_of.result _ c.side_of.ensures c.crosses_legs.ensures c.if-crosses_legs.false c.loop-i.invariant
