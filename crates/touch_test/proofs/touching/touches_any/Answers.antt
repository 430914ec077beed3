use Rattle.std.proofs.Common.{ap, sym, ◌∙◌}
use Rattle.std.proofs.lemmas.List.Folds.{list_any_at}
use Rattle.path_calc.specs.Bundles.{Bundle}
use Rattle.touch_test.specs.Touches.{bundled, edit_touches}
use Rattle.touch_test.proofs.Lists.{any-map}
use Rattle.touch_test.proofs.touching.touches_any.Goals as goal

pub returns-then-edit_touches_path : goal.returns-then-edit_touches_path
returns-then-edit_touches_path c =
    let touches = λ (bundle : Bundle). edit_touches c.args.l.now.edit c.args.l.now.old (bundled c.args.receiver.now bundle) in
    sym (any-map (edit_touches c.args.l.now.edit c.args.l.now.old) (bundled c.args.receiver.now) c.args.bundles.now
    ∙ list_any_at touches c.args.bundles.now c.loop-bundle.bundle-index c.bundle-item.result c.loop-bundle-test.true
    (ap touches (sym c.bundle-item.is) ∙ sym c.edit_touches_path.ensures ∙ c.if-edit_touches_path.true))
