use Rattle.std.proofs.Common.{◌≡◌, Bool, false, List, [], ◌∷◌, length, refl, sym, ◌∙◌, arith}
use Rattle.std.specs.List.{list_any}
use Rattle.std.proofs.lemmas.Bool.{eqb-true}
use Rattle.path_calc.specs.Bundles.{Bundle}
use Rattle.touch_test.specs.Touches.{bundled, edit_touches}
use Rattle.touch_test.proofs.Lists.{any-map}
use Rattle.map_board.proofs.FarMarks.{marks-stay}
use Rattle.map_board.proofs.edits.marking.mark.Goals as goal

pub returns-then-not-may_touch-clause-marks : goal.returns-then-not-may_touch-clause-marks
returns-then-not-may_touch-clause-marks c =
    let cache = c.args.cache.now in
    let r = c.args.receiver.now in
    let logged = c.args.logged.now in
    sym (marks-stay (λ bundle. edit_touches logged.edit logged.old (bundled r bundle)) cache.bundles.items cache.marks.items c.requires
    (sym (any-map (edit_touches logged.edit logged.old) (bundled r) cache.bundles.items) ∙ cache.tells r logged.edit logged.old (sym c.may_touch.ensures ∙ c.if-not-may_touch.true)))

pub returns-then-not-may_touch-clause-one : goal.returns-then-not-may_touch-clause-one
returns-then-not-may_touch-clause-one c _ =
    let r = c.args.receiver.now in
    let logged = c.args.logged.now in
    sym (sym (any-map (edit_touches logged.edit logged.old) (bundled r) c.args.cache.now.bundles.items)
    ∙ c.args.cache.now.tells r logged.edit logged.old (sym c.may_touch.ensures ∙ c.if-not-may_touch.true))

-- where no bundle is there, none is touched
none-here : (touch : Bundle → Bool) (bundles : List Bundle) → length bundles ≡ 0 → list_any touch bundles ≡ false
none-here touch [] none = refl
none-here touch (b ∷ bs) none = absurd (omega (arith, none))

pub returns-then-is_empty-clause-marks : goal.returns-then-is_empty-clause-marks
returns-then-is_empty-clause-marks c =
    let touch = λ (bundle : Bundle). edit_touches c.args.logged.now.edit c.args.logged.now.old (bundled c.args.receiver.now bundle) in
    let bundles = c.args.cache.now.bundles in
    let none : length bundles.items ≡ 0 = omega (arith, eqb-true bundles.len 0 (sym c.is_empty.ensures ∙ c.if-is_empty.true), bundles.ok.0) in
    sym (marks-stay touch bundles.items c.args.cache.now.marks.items c.requires (none-here touch bundles.items none))

pub returns-then-is_empty-clause-one : goal.returns-then-is_empty-clause-one
returns-then-is_empty-clause-one c _ =
    let touch = λ (bundle : Bundle). edit_touches c.args.logged.now.edit c.args.logged.now.old (bundled c.args.receiver.now bundle) in
    let bundles = c.args.cache.now.bundles in
    let none : length bundles.items ≡ 0 = omega (arith, eqb-true bundles.len 0 (sym c.is_empty.ensures ∙ c.if-is_empty.true), bundles.ok.0) in
    sym (none-here touch bundles.items none)
