use Rattle.std.proofs.Common.{ap, sym, ◌∙◌}
use Rattle.scene_geom.specs.declared.directions.direction.Dir.{Dir}
use Rattle.scene_geom.specs.Direction.{direct}
use Rattle.scene_geom.specs.Outline.{meets_of}
use Rattle.path_shape.specs.Outlines.{whole}
use Rattle.touch_test.specs.inner.Boxes.{box_of}
use Rattle.touch_test.proofs.Far.{unmet-way}
use Rattle.touch_test.proofs.crossings.meets_line.Goals as goal

pub returns-then-is_passed_by : goal.returns-then-is_passed_by
returns-then-is_passed_by c =
    sym (unmet-way (box_of c.of.result c.args.q) c.args.outline.now c.args.p (direct c.args.p c.args.q) whole c.of.ensures
    (sym (c.is_passed_by.ensures c.args.q) ∙ c.if-is_passed_by.true))

pub returns : goal.returns
returns c =
    c.meets.ensures ∙ ap (λ (dir : Dir). meets_of c.args.outline.now c.args.p dir whole) c.dir_of.ensures.value
