use Rattle.std.proofs.Common.{ap, sym, ◌∙◌}
use Rattle.scene_geom.specs.declared.plan.Side.{Side}
use Rattle.scene_parts.specs.Parts.{Obstacle, sides_of}
use Rattle.image_source.specs.Mirrors.{has_mirror}
use Rattle.touch_test.proofs.Lists.{passes-there, fails-too}
use Rattle.touch_test.proofs.Pieces.{absorbs}
use Rattle.touch_test.proofs.parts.mirrors.Goals as goal

pub returns-then-obstacle-eq0 : goal.returns-then-obstacle-eq0
returns-then-obstacle-eq0 c =
    sym (absorbs c.args.obstacle.now c.args.ends
    (sym (ap (λ (o : Obstacle). o.rho) c.obstacle.view_is) ∙ c.if-obstacle-eq0.true))

pub returns-then-has_mirror : goal.returns-then-has_mirror
returns-then-has_mirror c =
    passes-there (λ (side : Side). has_mirror c.args.obstacle.now side c.args.ends) (sides_of c.args.obstacle.now) c.loop-i.i c.side_of.result _
    c.side_of.ensures c.has_mirror.ensures.value c.if-has_mirror.true

pub loop-i-preserved : goal.loop-i-preserved
loop-i-preserved c =
    fails-too (λ (side : Side). has_mirror c.args.obstacle.now side c.args.ends) (sides_of c.args.obstacle.now) c.loop-i.i c.side_of.result _
    c.side_of.ensures c.has_mirror.ensures.value c.if-has_mirror.false c.loop-i.invariant
