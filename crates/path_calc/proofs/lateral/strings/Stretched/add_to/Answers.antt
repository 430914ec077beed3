use Rattle.std.proofs.Common.{◌∙◌, ◌++◌, ap, List}
use Rattle.scene_geom.specs.declared.plan.Pt.{Pt}
use Rattle.path_calc.specs.declared.bundles.segments.Seg.{Seg}
use Rattle.path_calc.specs.Trace.{string_segments}
use Rattle.path_calc.proofs.Tracing.{segment-added, segments-ended, string-turns, some-there}
use Rattle.path_calc.proofs.lateral.strings.Stretched.add_to.Goals as goal

pub loop-corner-preserved : goal.loop-corner-preserved
loop-corner-preserved c =
    segment-added c.loop-corner.trace c.push.new.self _ c.loop-corner.from c.corner-item.result c.args.ends.r c.as_slice-corner-items.result.now
    c.loop-corner.corner-index c.loop-corner-test.true c.corner-item.is c.in_ok-push.ensures c.loop-corner.invariant

pub returns : goal.returns
returns c =
    let points = c.as_slice-corner-items.result.now in
    segments-ended c.loop-corner.trace c.push-2.new.self _ c.loop-corner.from c.args.ends.r points
    c.loop-corner.corner-index c.loop-corner-test.false c.in_ok-push-2.ensures c.loop-corner.invariant
    ∙ ap (λ (l : List Seg). c.args.trace.now ++ l) (string-turns c.args.ends points (some-there _ _ _ c.is_empty.ensures c.if-is_empty.false c.as_slice-corner-items.ensures.len))
    ∙ ap (λ (points : List Pt). c.args.trace.now ++ string_segments c.args.ends points) c.as_slice-corner-items.ensures.value
