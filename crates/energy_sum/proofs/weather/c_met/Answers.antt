use Rattle.std.proofs.Common.{rules, ◌∙◌, sym, pos, arith, ◌<◌, ◌^◌}
use Rattle.fix_interval.specs.Interval.{IsInterval}
use Rattle.fix_interval.proofs.Ratios.{passed}
use Rattle.energy_sum.specs.Weather.{correction}
use Rattle.energy_sum.proofs.Corrected.{correction-between, zero-between, nothing-due}
use Rattle.energy_sum.proofs.weather.c_met.Goals as goal

pub returns-clause-bounds : goal.returns-clause-bounds
unfolding correction
returns-clause-bounds c length fits =
    let interval : IsInterval c.args.dp = search rules in
    let small : c.args.c0 < 2 ^ 126 = omega (arith, fits.most) in
    rw (c.pick.ensures, c.less.ensures, c.mul-beyond.ensures, c.ratio.ensures, c.into.ensures, passed (pos c.args.c0) small, c.sub.ensures, c.exact-2.ensures, c.div.ensures, c.begins_beyond-from.ensures, c.exact-3.ensures)
    (correction-between c.args.dp c.args.hs c.args.hr c.args.c0 interval length fits)

pub returns-then-is_divisor-clause-value : goal.returns-then-is_divisor-clause-value
returns-then-is_divisor-clause-value c =
    rw (c.if-c0-eq0.true)
    (c.exact.ensures ∙ sym (nothing-due c.args.dp c.args.hs c.args.hr (omega arith) (omega arith) (c.is_divisor.ensures c.if-is_divisor.true)))

pub returns-then-is_divisor-clause-bounds : goal.returns-then-is_divisor-clause-bounds
returns-then-is_divisor-clause-bounds c length fits = rw (c.exact.ensures) zero-between
