use Rattle.std.proofs.Common.{◌∙◌}
use Rattle.touch_test.specs.Envelopes.{HoldsPath}
use Rattle.touch_test.proofs.Far.{far-edits-touch-no-path}
use Rattle.touch_test.proofs.Widening.{grown, whole-list, wider-path}
use Rattle.touch_test.proofs.envelopes.Envelope.of.Goals as goal

pub loop-bundle-preserved : goal.loop-bundle-preserved
loop-bundle-preserved c =
    let e = c.loop-bundle.envelope in
    let f = c.with_path-envelope.result in
    let wider = c.with_path-envelope.ensures.wider in
    let so = c.loop-bundle.invariant in (
      wider.to ∙ so.0,
      grown (HoldsPath e) (HoldsPath f) c.args.bundles.now c.loop-bundle.bundle-index c.bundle-item.result c.loop-bundle-test.true c.bundle-item.is (λ bundle is. wider-path e f bundle wider is) so.1
          c.with_path-envelope.ensures.path,
    )

pub returns-clause-paths : goal.returns-clause-paths
returns-clause-paths c = whole-list (HoldsPath c.loop-bundle.envelope) c.args.bundles.now c.loop-bundle.bundle-index c.loop-bundle-test.false c.loop-bundle.invariant.1

pub returns-clause-tells : goal.returns-clause-tells
returns-clause-tells c =
    far-edits-touch-no-path c.loop-bundle.envelope c.args.bundles.now
    (whole-list (HoldsPath c.loop-bundle.envelope) c.args.bundles.now c.loop-bundle.bundle-index c.loop-bundle-test.false c.loop-bundle.invariant.1)
