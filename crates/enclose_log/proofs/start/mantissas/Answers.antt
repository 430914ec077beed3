use Rattle.std.proofs.Common.{◌∙◌, ◌-◌, sym, arith}
use Rattle.enclose_log.proofs.DecadeLemmas.{mantissa-below_one, mantissa-from_one, exponent-narrow}
use Rattle.enclose_log.proofs.start.mantissas.Goals as goal

pub overflow_cast-whole : goal.overflow_cast-whole
overflow_cast-whole c =
    let m = mantissa-below_one c.args.end c.args.decade c.power_of_ten.result c.requires.decade (omega arith) c.power_of_ten.ensures.value in
    omega (arith, m.small)

pub returns-then-decade-lt10-clause-low : goal.returns-then-decade-lt10-clause-low
returns-then-decade-lt10-clause-low c =
    sym (mantissa-below_one c.args.end c.args.decade c.power_of_ten.result c.requires.decade (omega arith) c.power_of_ten.ensures.value).low

pub returns-then-decade-lt10-clause-high : goal.returns-then-decade-lt10-clause-high
returns-then-decade-lt10-clause-high c =
    sym (mantissa-below_one c.args.end c.args.decade c.power_of_ten.result c.requires.decade (omega arith) c.power_of_ten.ensures.value).high

pub overflow_cast-power : goal.overflow_cast-power
overflow_cast-power c =
    let m = mantissa-from_one c.args.end c.args.decade c.power_of_ten-power.result c.requires.decade (omega arith) c.power_of_ten-power.ensures.value in
    omega (arith, m.reached)

pub narrow_quotient-requires-clause-positive : goal.narrow_quotient-requires-clause-positive
narrow_quotient-requires-clause-positive c = (mantissa-from_one c.args.end c.args.decade c.power_of_ten-power.result c.requires.decade (omega arith) c.power_of_ten-power.ensures.value).positive

pub narrow_quotient-requires-clause-end : goal.narrow_quotient-requires-clause-end
narrow_quotient-requires-clause-end c = (mantissa-from_one c.args.end c.args.decade c.power_of_ten-power.result c.requires.decade (omega arith) c.power_of_ten-power.ensures.value).below_next

pub narrow_quotient-requires-clause-power : goal.narrow_quotient-requires-clause-power
narrow_quotient-requires-clause-power c =
    let m = mantissa-from_one c.args.end c.args.decade c.power_of_ten-power.result c.requires.decade (omega arith) c.power_of_ten-power.ensures.value in
    omega (arith, m.reached)

pub narrow_quotient-requires-clause-exponent : goal.narrow_quotient-requires-clause-exponent
narrow_quotient-requires-clause-exponent c =
    let m = mantissa-from_one c.args.end c.args.decade c.power_of_ten-power.result c.requires.decade (omega arith) c.power_of_ten-power.ensures.value in
    exponent-narrow c.power_of_ten-power.result (c.args.decade - 10) c.power_of_ten-power.ensures.value (omega (arith, m.reached))

pub returns-then-end-eq0-clause-low : goal.returns-then-end-eq0-clause-low
returns-then-end-eq0-clause-low c = c.narrow_quotient.ensures.low ∙ sym (mantissa-from_one c.args.end c.args.decade c.power_of_ten-power.result c.requires.decade (omega arith) c.power_of_ten-power.ensures.value).low

pub returns-then-end-eq0-clause-high : goal.returns-then-end-eq0-clause-high
returns-then-end-eq0-clause-high c = c.narrow_quotient.ensures.high ∙ sym (mantissa-from_one c.args.end c.args.decade c.power_of_ten-power.result c.requires.decade (omega arith) c.power_of_ten-power.ensures.value).high

pub wide_quotient-requires-clause-positive : goal.wide_quotient-requires-clause-positive
wide_quotient-requires-clause-positive c = (mantissa-from_one c.args.end c.args.decade c.power_of_ten-power.result c.requires.decade (omega arith) c.power_of_ten-power.ensures.value).positive

pub wide_quotient-requires-clause-end : goal.wide_quotient-requires-clause-end
wide_quotient-requires-clause-end c = (mantissa-from_one c.args.end c.args.decade c.power_of_ten-power.result c.requires.decade (omega arith) c.power_of_ten-power.ensures.value).below_next

pub wide_quotient-requires-clause-power : goal.wide_quotient-requires-clause-power
wide_quotient-requires-clause-power c =
    let m = mantissa-from_one c.args.end c.args.decade c.power_of_ten-power.result c.requires.decade (omega arith) c.power_of_ten-power.ensures.value in
    omega (arith, m.last)

pub returns-else-end-eq0-clause-low : goal.returns-else-end-eq0-clause-low
returns-else-end-eq0-clause-low c = c.wide_quotient.ensures.low ∙ sym (mantissa-from_one c.args.end c.args.decade c.power_of_ten-power.result c.requires.decade (omega arith) c.power_of_ten-power.ensures.value).low

pub returns-else-end-eq0-clause-high : goal.returns-else-end-eq0-clause-high
returns-else-end-eq0-clause-high c = c.wide_quotient.ensures.high ∙ sym (mantissa-from_one c.args.end c.args.decade c.power_of_ten-power.result c.requires.decade (omega arith) c.power_of_ten-power.ensures.value).high
