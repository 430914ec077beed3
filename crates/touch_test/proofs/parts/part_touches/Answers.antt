use Rattle.std.proofs.Common.{ap, ◌∙◌, List}
use Rattle.scene_geom.specs.declared.plan.Pt.{Pt}
use Rattle.scene_parts.specs.declared.screening.ends.Ends.{Ends}
use Rattle.path_calc.specs.Bundles.{Bundle}
use Rattle.path_calc.specs.declared.bundles.segments.Seg.{Seg}
use Rattle.touch_test.specs.Touches.{bundled, outline_touches}
use Rattle.touch_test.proofs.Pieces.{by-outline}
use Rattle.touch_test.proofs.parts.part_touches.Goals as goal

pub returns-in_default : goal.returns-in_default
returns-in_default c =
    let path = bundled c.args.receiver.now c.args.bundle.now in
    c.outline_touches.ensures
    ∙ ap (λ (ends : Ends). outline_touches ends c.items-in_default.result.now c.outline_of.result.now) c.ends_between-in_default.ensures
    ∙ ap (λ (trace : List Seg). outline_touches path.ends trace c.outline_of.result.now) (c.items-in_default.ensures.value ∙ ap (λ (b : Bundle). b.segs) c.bundle.view_is)
    ∙ ap (λ (outline : List Pt). outline_touches path.ends path.trace outline) c.outline_of.ensures
    ∙ by-outline path c.args.part.now c.in_default.not-Source c.in_default.not-Obstacle c.in_default.not-Receiver
