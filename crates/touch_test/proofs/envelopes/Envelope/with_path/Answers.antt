use Rattle.std.proofs.Common.{◌≡◌, ◌<◌, ◌≤◌, ap, ◌∙◌, subst, sym, List, length}
use Rattle.std.specs.Prelude.{slice_index_or}
use Rattle.std.proofs.lemmas.List.Elements.{All-nil}
use Rattle.scene_geom.specs.declared.plan.Pt.{Pt}
use Rattle.scene_geom.specs.Direction.{direct}
use Rattle.path_shape.specs.Outlines.{whole}
use Rattle.path_calc.specs.Bundles.{Bundle}
use Rattle.path_calc.specs.declared.bundles.segments.Seg.{Seg}
use Rattle.touch_test.specs.Envelopes.{HoldsSegment, HoldsWay}
use Rattle.touch_test.proofs.Telling.{wider-boxes-tell}
use Rattle.touch_test.proofs.Widening.{grown, line-wider, whole-list, wider-both, wider-segment}
use Rattle.touch_test.proofs.envelopes.Envelope.with_path.Goals as goal

pub loop-segment-init : goal.loop-segment-init
loop-segment-init c =
    let e = c.with_line-envelope.result in
    let wider = c.with_line-envelope.ensures.wider in
    let line = subst (λ (to : Pt). HoldsWay e c.bundle.inside.at (direct c.bundle.inside.at to) whole) (sym wider.to) c.with_line-envelope.ensures.line in
    (wider, subst (λ (at : Pt). HoldsWay e at (direct at e.to) whole) (ap (λ (b : Bundle). b.at) c.bundle.view_is) line, All-nil (HoldsSegment e))

pub loop-segment-preserved : goal.loop-segment-preserved
loop-segment-preserved c =
    let e = c.loop-segment.envelope in
    let f = c.with_segment_beside-envelope.result in
    let wider = c.with_segment_beside-envelope.ensures.wider in
    let so = c.loop-segment.invariant in
    let i = c.loop-segment.segment-index in
    let x = c.segment-item.result in
    let segs_is : c.items-segment-items.result.now ≡ c.args.bundle.now.segs = c.items-segment-items.ensures.value ∙ ap (λ (b : Bundle). b.segs) c.bundle.view_is in (
      wider-both c.args.self e f so.0 wider,
      line-wider e f c.args.bundle.now.at wider so.1,
      grown (HoldsSegment e) (HoldsSegment f) c.args.bundle.now.segs i x
          (subst (λ (l : List Seg). i < length l) segs_is c.loop-segment-test.true) (subst (λ (l : List Seg). x ≡ slice_index_or l i x) segs_is c.segment-item.is)
          (λ segment is. wider-segment e f segment wider is) so.2 c.with_segment_beside-envelope.ensures.segment,
    )

pub returns-clause-path : goal.returns-clause-path
returns-clause-path c =
    let so = c.loop-segment.invariant in
    let i = c.loop-segment.segment-index in
    let segs_is : c.items-segment-items.result.now ≡ c.args.bundle.now.segs = c.items-segment-items.ensures.value ∙ ap (λ (b : Bundle). b.segs) c.bundle.view_is in
    record {
      line = so.1;
      trace = whole-list (HoldsSegment c.loop-segment.envelope) c.args.bundle.now.segs i (subst (λ (l : List Seg). length l ≤ i) segs_is c.loop-segment-test.false) so.2;
    }

pub returns-clause-tells : goal.returns-clause-tells
returns-clause-tells c = wider-boxes-tell c.args.self c.loop-segment.envelope c.args.bundle.now c.loop-segment.invariant.0 (returns-clause-path c)
