use Rattle.std.proofs.Common.{◌+◌, ◌++◌, ap, drop, sym, ◌∙◌}
use Rattle.std.specs.Prelude.{not, ◌&&◌}
use Rattle.path_calc.specs.inner.Strings.{rises_in, is_number, numbers_after, numbers_in}
use Rattle.path_calc.proofs.Barred.{and-false}
use Rattle.path_calc.proofs.Numbered.{number-found, number-passed, numbers-found}
use Rattle.path_calc.proofs.lateral.screening_obstacles.find_numbers_in.Goals.{then-rises+then-not-is+in_ok-push, else-rises, else-rises-via-then-rises+else-not-is, else-rises-via-else-rises}
use Rattle.path_calc.proofs.lateral.screening_obstacles.find_numbers_in.Goals as goal

pub loop-crossing-preserved : goal.loop-crossing-preserved
loop-crossing-preserved c =
    let band = c.args.band in
    let crossings = c.args.crossings.now in
    let i = c.loop-crossing.crossing-index in
    let crossing = c.crossing-item.result in
    let before = c.loop-crossing.before in
    let found = c.loop-crossing.numbers.items in
    let all = numbers_in band crossings in
    elim c.if-rises.branch [
      | then-rises+then-not-is+in_ok-push w ↦
          ap (λ o. c.if-rises.numbers.items ++ numbers_after band o (drop (i + 1) crossings)) w.before-is
          ∙ number-found band before crossings i crossing found c.if-rises.numbers.items all c.loop-crossing-test.true c.crossing-item.is
          (ap (λ b. b && not (is_number crossing.obstacle before)) (sym c.rises.ensures ∙ w.if-rises.true) ∙ ap not (sym w.is.ensures ∙ w.if-not-is.true))
          (ap (λ xs. xs.items) w.numbers-is ∙ w.in_ok-push.ensures.items) c.loop-crossing.invariant
      | else-rises w ↦
          ap (λ xs. xs.items ++ numbers_after band c.if-rises.before (drop (i + 1) crossings)) w.numbers-is
          ∙ ap (λ o. found ++ numbers_after band o (drop (i + 1) crossings)) w.before-is
          ∙ elim w.else-rises.branch [
            | else-rises-via-then-rises+else-not-is v ↦
                number-passed band before crossings i crossing found all c.loop-crossing-test.true c.crossing-item.is
                (ap (λ b. rises_in band crossing && not b) (sym v.is.ensures ∙ v.if-not-is.false) ∙ and-false (rises_in band crossing))
                c.loop-crossing.invariant
            | else-rises-via-else-rises v ↦
                number-passed band before crossings i crossing found all c.loop-crossing-test.true c.crossing-item.is
                (ap (λ b. b && not (is_number crossing.obstacle before)) (sym c.rises.ensures ∙ v.if-rises.false))
                c.loop-crossing.invariant
          ]
    ]

pub returns : goal.returns
returns c =
    numbers-found c.args.band c.args.crossings.now c.loop-crossing.crossing-index c.loop-crossing.before c.loop-crossing.numbers.items
    (numbers_in c.args.band c.args.crossings.now) c.loop-crossing-test.false c.loop-crossing.invariant
