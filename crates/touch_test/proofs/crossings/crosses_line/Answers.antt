use Rattle.std.proofs.Common.{ap, sym, ◌∙◌}
use Rattle.scene_geom.specs.declared.plan.Side.{Side}
use Rattle.scene_geom.specs.Direction.{direct}
use Rattle.scene_parts.specs.Parts.{sides_of, Obstacle}
use Rattle.touch_test.specs.Envelopes.{lies_beyond}
use Rattle.touch_test.specs.Crossings.{crosses_line}
use Rattle.path_shape.specs.Outlines.{whole}
use Rattle.touch_test.proofs.Far.{uncrossed-way}
use Rattle.touch_test.proofs.Lists.{passes-there, fails-too}
use Rattle.touch_test.specs.inner.Boxes.{box_of}
use Rattle.touch_test.proofs.crossings.crosses_line.Goals as goal

pub returns-then-crosses_way : goal.returns-then-crosses_way
returns-then-crosses_way c =
    passes-there (λ (side : Side). crosses_line side c.args.p c.args.q) (sides_of c.args.obstacle.now) c.loop-i.i c.side_of.result _ c.side_of.ensures c.crosses_way.ensures c.if-crosses_way.true

pub loop-i-preserved : goal.loop-i-preserved
loop-i-preserved c =
    fails-too (λ (side : Side). crosses_line side c.args.p c.args.q) (sides_of c.args.obstacle.now) c.loop-i.i c.side_of.result _ c.side_of.ensures c.crosses_way.ensures c.if-crosses_way.false c.loop-i.invariant

pub returns-then-is_passed_by : goal.returns-then-is_passed_by
returns-then-is_passed_by c =
    let e = box_of c.of.result c.args.q in
    sym (uncrossed-way e c.args.obstacle.now.shape c.args.obstacle.now.points c.args.p (direct c.args.p c.args.q) whole c.of.ensures
    (ap (lies_beyond e) (sym (c.items.ensures ∙ ap (λ (o : Obstacle). o.points) c.obstacle.view_is)) ∙ sym (c.is_passed_by.ensures c.args.q) ∙ c.if-is_passed_by.true))
