use Rattle.touch_test.proofs.Receivers.{written, read-back, has-form}
use Rattle.touch_test.proofs.grids.number.Goals as goal

pub returns-then-has_form-clause-written : goal.returns-then-has_form-clause-written
returns-then-has_form-clause-written c =
    written c.args.text.now c.value.result (c.has_form.ensures.0 c.if-has_form.true) c.value.ensures

pub returns-then-has_form-clause-read : goal.returns-then-has_form-clause-read
returns-then-has_form-clause-read c = read-back c.args.text.now c.value.result c.value.ensures

pub returns-else-has_form-clause-read : goal.returns-else-has_form-clause-read
returns-else-has_form-clause-read c = λ n small is. let formed = c.has_form.ensures.1 (has-form c.args.text.now n small is) in cc
