use Rattle.std.proofs.Common.{◌≡◌, ◌∙◌, ◌++◌, ap, sym, subst, arith, length, map, take, drop, Bool}
use Rattle.std.specs.Prelude.{IfSome, ◌||◌}
use Rattle.std.specs.List.{zip, list_any}
use Rattle.std.proofs.Math.Seq.{take-append_seam}
use Rattle.path_calc.specs.Bundles.{Bundle}
use Rattle.touch_test.specs.Touches.{bundled, edit_touches}
use Rattle.map_board.specs.inner.Paths.{counted, tests_to}
use Rattle.map_board.proofs.InTurn.{tests_by, marks-tested, one-tested, count-tested}
use Rattle.map_board.proofs.edits.marking.mark_known.Goals as goal
use Rattle.map_board.proofs.edits.marking.mark_known.Goals.{After-as_mut_slice}

abbrev touch : After-as_mut_slice → Bundle → Bool
touch c bundle = edit_touches c.args.logged.now.edit c.args.logged.now.old (bundled c.args.receiver.now bundle)

-- the tests are those of the bundles
known : (c : After-as_mut_slice) → c.in-Some.tests.now ≡ tests_by (touch c) c.args.counts c.args.cache.now.bundles.items c.args.cache.now.marks.items
known c =
    subst (λ o. IfSome o (λ t. t.now ≡ tests_to c.args.logged.now c.args.receiver.now (counted c.args.counts c.args.cache.now))) c.in-Some.is c.requires.tests

pub mark_tested-requires : goal.mark_tested-requires
mark_tested-requires c =
    let after = (goal.at.mark_tested-requires c).After-as_mut_slice in
    ap length c.as_mut_slice.ensures.value
    ∙ (sym (count-tested (touch after) c.args.counts c.args.cache.now.bundles.items c.args.cache.now.marks.items c.requires.count)
    ∙ ap length (sym (known after)))

pub returns-in-Some-clause-marks : goal.returns-in-Some-clause-marks
returns-in-Some-clause-marks c =
    let after = (goal.at.returns-in-Some-clause-marks c).After-as_mut_slice in
    let bundles = c.args.cache.now.bundles.items in
    let marks = c.args.cache.now.marks.items in
    let new = c.mark_tested.new.marks in
    let all : c.args.cache.now.marks.len ≡ length new =
    omega (arith, c.mark_tested.auto.marks, ap length c.as_mut_slice.ensures.value, c.args.cache.now.marks.ok.0) in
    (λ i. take (all i) (new ++ drop (length new) marks))
    ∙ (take-append_seam new (drop (length new) marks)
    ∙ (c.mark_tested.ensures.marks
    ∙ ((λ i. map (λ pair. pair.1 || pair.0) (zip (known after i) (c.as_mut_slice.ensures.value i)))
    ∙ marks-tested (touch after) c.args.counts bundles marks)))

pub returns-in-Some-clause-one : goal.returns-in-Some-clause-one
returns-in-Some-clause-one c none =
    let after = (goal.at.returns-in-Some-clause-one c).After-as_mut_slice in
    let bundles = c.args.cache.now.bundles.items in
    let marks = c.args.cache.now.marks.items in
    c.mark_tested.ensures.one
    ∙ (ap (list_any (λ (test : Bool). test)) (known after ∙ ap (λ counts. tests_by (touch after) counts bundles marks) none)
    ∙ one-tested (touch after) bundles marks c.requires.count)
