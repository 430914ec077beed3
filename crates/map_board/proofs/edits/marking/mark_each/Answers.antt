use Rattle.std.proofs.Common.{◌≡◌, ◌∙◌, ◌++◌, ◌+◌, ap, List, Bool, sym, subst, map, take, drop}
use Rattle.std.specs.Prelude.{◌||◌}
use Rattle.std.specs.List.{zip, list_any}
use Rattle.path_calc.specs.Bundles.{Bundle}
use Rattle.touch_test.specs.Touches.{bundled, edit_touches}
use Rattle.map_board.specs.inner.Marks.{is_from, marks_from, marks_after}
use Rattle.map_board.proofs.InTurn.{past-touched, past-plain, one-touched, one-plain}
use Rattle.map_board.proofs.edits.marking.mark_each.Goals as goal
use Rattle.map_board.proofs.edits.marking.mark_each.Goals.{then-touches, else-touches}

pub returns-in-Some-clause-marks : goal.returns-in-Some-clause-marks
returns-in-Some-clause-marks c =
    let r = c.args.receiver.now in
    let bundles = c.args.bundles.now in
    let marks = c.args.marks.now in
    c.mark_by_source.ensures.marks
    ∙ ap (λ name. marks_from name bundles marks) c.items.ensures.value
    ∙ sym (λ i. map (λ kept. kept.1 || c.in-Some.ensures (bundled r kept.0) i) (zip bundles marks))

pub returns-in-Some-clause-one : goal.returns-in-Some-clause-one
returns-in-Some-clause-one c _ =
    let r = c.args.receiver.now in
    c.mark_by_source.ensures.one
    ∙ ap (λ name. list_any (is_from name) c.args.bundles.now) c.items.ensures.value
    ∙ sym (λ i. list_any (λ bundle. c.in-Some.ensures (bundled r bundle) i) c.args.bundles.now)

pub loop-place-preserved : goal.loop-place-preserved
loop-place-preserved c =
    let bs = c.args.bundles.now in
    let i = c.loop-place.place in
    let touch = λ (bundle : Bundle). edit_touches c.args.logged.now.edit c.args.logged.now.old (bundled c.args.receiver.now bundle) in
    let all = marks_after c.args.logged.now.edit c.args.logged.now.old c.args.receiver.now in
    let after = λ (marks : List Bool). take (i + 1) marks ++ all (drop (i + 1) bs) (drop (i + 1) marks) ≡ all bs c.args.marks.now in
    let before = c.loop-place.invariant in
    record {
      one_each = c.if-touches.auto.marks ∙ before.one_each;
      so_far = elim c.if-touches.branch [
        | then-touches w ↦ subst after (sym w.marks-is)
            (past-touched touch bs c.loop-place.marks (all bs c.args.marks.now) i c.index-bundles-place.result c.loop-place-test.true before.one_each
            c.index-bundles-place.is (sym w.if-touches.ensures.exact) before.so_far)
        | else-touches w ↦ subst after (sym w.marks-is)
            (past-plain touch bs c.loop-place.marks (all bs c.args.marks.now) i c.index-bundles-place.result c.loop-place-test.true before.one_each
            c.index-bundles-place.is (sym w.if-touches.ensures.exact) before.so_far)
      ];
      one = elim c.if-touches.branch [
        | then-touches w ↦ w.one-is ∙ one-touched touch bs i c.index-bundles-place.result c.loop-place-test.true c.index-bundles-place.is (sym w.if-touches.ensures.exact)
        | else-touches w ↦ w.one-is ∙ (before.one ∙ one-plain touch bs i c.index-bundles-place.result c.loop-place-test.true c.index-bundles-place.is (sym w.if-touches.ensures.exact))
      ];
    }
