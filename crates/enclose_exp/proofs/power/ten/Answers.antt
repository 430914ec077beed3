use Rattle.std.proofs.Common.{◌≡◌, ◌∙◌, ap, Some, pos}
use Rattle.std.specs.Option.{option_map_or, option_and_then}
use Rattle.fix_interval.specs.Ten.{ten_low, ten_high}
use Rattle.enclose_exp.specs.inner.Exponent.{low_value, high_value}
use Rattle.enclose_exp.proofs.Exponents.{low_value-end, high_value-end}
use Rattle.enclose_exp.proofs.TenInterval.{made-is, ten_of-interval, ten_of-low, ten_of-high}
use Rattle.enclose_exp.proofs.power.ten.Goals as goal

pub of_ends-requires : goal.of_ends-requires
of_ends-requires c =
    let low : c.low_power.result ≡ Some (pos (option_map_or ten_low c.args.a.lo 0)) =
    c.low_power.ensures ∙ ap (λ s. Some (pos (low_value s))) c.exponent-low.ensures.value ∙ ap (λ n. Some (pos n)) (low_value-end c.low.result) ∙ ap (λ e. Some (pos (option_map_or ten_low e 0))) c.low.ensures.end in
    let high : c.high_power.result ≡ option_and_then ten_high c.args.a.hi =
    c.high_power.ensures ∙ ap high_value c.exponent-high.ensures.value ∙ high_value-end c.high.result ∙ ap (λ e. option_and_then ten_high e) c.high.ensures.end in
    let made = made-is c.args.a c.low_power.result c.high_power.result low high in
    rw made (ten_of-interval c.args.a c.low.ensures.interval)

pub returns-clause-value : goal.returns-clause-value
returns-clause-value c =
    let low : c.low_power.result ≡ Some (pos (option_map_or ten_low c.args.a.lo 0)) =
    c.low_power.ensures ∙ ap (λ s. Some (pos (low_value s))) c.exponent-low.ensures.value ∙ ap (λ n. Some (pos n)) (low_value-end c.low.result) ∙ ap (λ e. Some (pos (option_map_or ten_low e 0))) c.low.ensures.end in
    let high : c.high_power.result ≡ option_and_then ten_high c.args.a.hi =
    c.high_power.ensures ∙ ap high_value c.exponent-high.ensures.value ∙ high_value-end c.high.result ∙ ap (λ e. option_and_then ten_high e) c.high.ensures.end in
    let made = made-is c.args.a c.low_power.result c.high_power.result low high in
    c.of_ends.ensures ∙ made

pub returns-clause-low : goal.returns-clause-low
returns-clause-low c =
    let low : c.low_power.result ≡ Some (pos (option_map_or ten_low c.args.a.lo 0)) =
    c.low_power.ensures ∙ ap (λ s. Some (pos (low_value s))) c.exponent-low.ensures.value ∙ ap (λ n. Some (pos n)) (low_value-end c.low.result) ∙ ap (λ e. Some (pos (option_map_or ten_low e 0))) c.low.ensures.end in
    let high : c.high_power.result ≡ option_and_then ten_high c.args.a.hi =
    c.high_power.ensures ∙ ap high_value c.exponent-high.ensures.value ∙ high_value-end c.high.result ∙ ap (λ e. option_and_then ten_high e) c.high.ensures.end in
    let made = made-is c.args.a c.low_power.result c.high_power.result low high in
    rw (c.of_ends.ensures ∙ made) (ten_of-low c.args.a)

pub returns-clause-high : goal.returns-clause-high
returns-clause-high c =
    let low : c.low_power.result ≡ Some (pos (option_map_or ten_low c.args.a.lo 0)) =
    c.low_power.ensures ∙ ap (λ s. Some (pos (low_value s))) c.exponent-low.ensures.value ∙ ap (λ n. Some (pos n)) (low_value-end c.low.result) ∙ ap (λ e. Some (pos (option_map_or ten_low e 0))) c.low.ensures.end in
    let high : c.high_power.result ≡ option_and_then ten_high c.args.a.hi =
    c.high_power.ensures ∙ ap high_value c.exponent-high.ensures.value ∙ high_value-end c.high.result ∙ ap (λ e. option_and_then ten_high e) c.high.ensures.end in
    let made = made-is c.args.a c.low_power.result c.high_power.result low high in
    rw (c.of_ends.ensures ∙ made) (ten_of-high c.args.a)
