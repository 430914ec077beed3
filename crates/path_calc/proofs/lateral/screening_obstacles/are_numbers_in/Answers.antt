use Rattle.std.proofs.Common.{◌+◌, sym, ap, subst, ◌∙◌, ◌≤◌, length}
use Rattle.std.specs.Prelude.{ℕ, not, ◌&&◌}
use Rattle.path_calc.specs.inner.Strings.{rises_in, is_number, numbers_in}
use Rattle.path_calc.specs.inner.Tracing.{same_numbers}
use Rattle.path_calc.proofs.Barred.{and-false}
use Rattle.path_calc.proofs.SameNumbers.{rest_same, number-matched, number-differs, place-within, number-skipped, none-left}
use Rattle.path_calc.proofs.lateral.screening_obstacles.are_numbers_in.Goals.{then-rises+then-not-is+else-not-stands_at, else-rises, else-rises-via-then-rises+else-not-is, else-rises-via-else-rises}
use Rattle.path_calc.proofs.lateral.screening_obstacles.are_numbers_in.Goals as goal

pub loop-crossing-preserved : goal.loop-crossing-preserved
loop-crossing-preserved c =
    let band = c.args.band in
    let crossings = c.args.crossings.now in
    let numbers = c.args.numbers.now in
    let i = c.loop-crossing.crossing-index in
    let crossing = c.crossing-item.result in
    let before = c.loop-crossing.before in
    let count = c.loop-crossing.count in
    let all = same_numbers (numbers_in band crossings) numbers in
    elim c.if-rises.branch [
      | then-rises+then-not-is+else-not-stands_at w ↦
          let there = sym w.stands_at.ensures ∙ w.if-not-stands_at.false in (
            ap (λ (k : ℕ). rest_same band crossings numbers (i + 1) c.if-rises.before k) w.count-is
                ∙ ap (λ o. rest_same band crossings numbers (i + 1) o (count + 1)) w.before-is
                ∙ number-matched band before crossings i crossing numbers count all c.loop-crossing-test.true c.crossing-item.is
                (ap (λ b. b && not (is_number crossing.obstacle before)) (sym c.rises.ensures ∙ w.if-rises.true) ∙ ap not (sym w.is.ensures ∙ w.if-not-is.true))
                there c.loop-crossing.invariant.0,
            subst (λ (k : ℕ). k ≤ length numbers) (sym w.count-is) (place-within crossing.obstacle numbers count there),
          )
      | else-rises w ↦ (
        ap (λ (k : ℕ). rest_same band crossings numbers (i + 1) c.if-rises.before k) w.count-is
            ∙ ap (λ o. rest_same band crossings numbers (i + 1) o count) w.before-is
            ∙ elim w.else-rises.branch [
              | else-rises-via-then-rises+else-not-is v ↦
                  number-skipped band before crossings i crossing numbers count all c.loop-crossing-test.true c.crossing-item.is
                  (ap (λ b. rises_in band crossing && not b) (sym v.is.ensures ∙ v.if-not-is.false) ∙ and-false (rises_in band crossing))
                  c.loop-crossing.invariant.0
              | else-rises-via-else-rises v ↦
                  number-skipped band before crossings i crossing numbers count all c.loop-crossing-test.true c.crossing-item.is
                  (ap (λ b. b && not (is_number crossing.obstacle before)) (sym c.rises.ensures ∙ v.if-rises.false))
                  c.loop-crossing.invariant.0
            ],
        subst (λ (k : ℕ). k ≤ length numbers) (sym w.count-is) c.loop-crossing.invariant.1,
      )
    ]

pub returns : goal.returns
returns c =
    none-left c.args.band c.loop-crossing.before c.args.crossings.now c.loop-crossing.crossing-index c.args.numbers.now c.loop-crossing.count _
    c.loop-crossing-test.false c.loop-crossing.invariant.1 c.loop-crossing.invariant.0

pub returns-then-not-stands_at : goal.returns-then-not-stands_at
returns-then-not-stands_at c =
    let crossing = c.crossing-item.result in
    let before = c.loop-crossing.before in
    number-differs c.args.band before c.args.crossings.now c.loop-crossing.crossing-index crossing c.args.numbers.now c.loop-crossing.count _
    c.loop-crossing-test.true c.crossing-item.is
    (ap (λ b. b && not (is_number crossing.obstacle before)) (sym c.rises.ensures ∙ c.if-rises.true) ∙ ap not (sym c.is.ensures ∙ c.if-not-is.true))
    (sym c.stands_at.ensures ∙ c.if-not-stands_at.true) c.loop-crossing.invariant.0
