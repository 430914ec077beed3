use Rattle.std.proofs.Common.{◌∙◌, rules}
use Rattle.enclose_log.proofs.LgInterval.{low_end-is, high_end-is, made-bounded, made-open, lg_of-interval, lg_of-low, lg_of-high, lg_of-from_one}
use Rattle.enclose_log.proofs.logarithm.lg.Goals as goal

pub of_ends-requires : goal.of_ends-requires
of_ends-requires c =
    let low = low_end-is c.in-Some.low _ _ _ c.end.result (search rules) c.of-from.ensures.decade c.of-from.ensures.low c.digits-down.ensures.low c.end.ensures in
    let high = high_end-is c.in-Some-high.high _ _ _ c.end-in-Some-high.result (search rules) c.of-to.ensures.decade c.of-to.ensures.high c.digits-down.ensures.high c.end-in-Some-high.ensures in
    let made = made-bounded c.args.a c.in-Some.low c.in-Some-high.high _ _ c.in-Some.ensures.end c.in-Some-high.ensures.end c.requires low high in
    rw made (lg_of-interval c.args.a c.in-Some.ensures.interval c.requires)

pub returns-in-Some-high-clause-value : goal.returns-in-Some-high-clause-value
returns-in-Some-high-clause-value c =
    let low = low_end-is c.in-Some.low _ _ _ c.end.result (search rules) c.of-from.ensures.decade c.of-from.ensures.low c.digits-down.ensures.low c.end.ensures in
    let high = high_end-is c.in-Some-high.high _ _ _ c.end-in-Some-high.result (search rules) c.of-to.ensures.decade c.of-to.ensures.high c.digits-down.ensures.high c.end-in-Some-high.ensures in
    let made = made-bounded c.args.a c.in-Some.low c.in-Some-high.high _ _ c.in-Some.ensures.end c.in-Some-high.ensures.end c.requires low high in
    c.of_ends.ensures ∙ made

pub returns-in-Some-high-clause-low : goal.returns-in-Some-high-clause-low
returns-in-Some-high-clause-low c =
    let low = low_end-is c.in-Some.low _ _ _ c.end.result (search rules) c.of-from.ensures.decade c.of-from.ensures.low c.digits-down.ensures.low c.end.ensures in
    let high = high_end-is c.in-Some-high.high _ _ _ c.end-in-Some-high.result (search rules) c.of-to.ensures.decade c.of-to.ensures.high c.digits-down.ensures.high c.end-in-Some-high.ensures in
    let made = made-bounded c.args.a c.in-Some.low c.in-Some-high.high _ _ c.in-Some.ensures.end c.in-Some-high.ensures.end c.requires low high in
    rw (c.of_ends.ensures ∙ made) (lg_of-low c.args.a c.in-Some.ensures.interval c.requires)

pub returns-in-Some-high-clause-high : goal.returns-in-Some-high-clause-high
returns-in-Some-high-clause-high c =
    let low = low_end-is c.in-Some.low _ _ _ c.end.result (search rules) c.of-from.ensures.decade c.of-from.ensures.low c.digits-down.ensures.low c.end.ensures in
    let high = high_end-is c.in-Some-high.high _ _ _ c.end-in-Some-high.result (search rules) c.of-to.ensures.decade c.of-to.ensures.high c.digits-down.ensures.high c.end-in-Some-high.ensures in
    let made = made-bounded c.args.a c.in-Some.low c.in-Some-high.high _ _ c.in-Some.ensures.end c.in-Some-high.ensures.end c.requires low high in
    rw (c.of_ends.ensures ∙ made) (lg_of-high c.args.a c.in-Some.ensures.interval c.requires)

pub returns-in-Some-high-clause-from_one : goal.returns-in-Some-high-clause-from_one
returns-in-Some-high-clause-from_one c =
    let low = low_end-is c.in-Some.low _ _ _ c.end.result (search rules) c.of-from.ensures.decade c.of-from.ensures.low c.digits-down.ensures.low c.end.ensures in
    let high = high_end-is c.in-Some-high.high _ _ _ c.end-in-Some-high.result (search rules) c.of-to.ensures.decade c.of-to.ensures.high c.digits-down.ensures.high c.end-in-Some-high.ensures in
    let made = made-bounded c.args.a c.in-Some.low c.in-Some-high.high _ _ c.in-Some.ensures.end c.in-Some-high.ensures.end c.requires low high in
    λ from. rw (c.of_ends.ensures ∙ made) (lg_of-from_one c.args.a c.in-Some.ensures.interval c.requires from)

pub of_ends-requires-in-None : goal.of_ends-requires-in-None
of_ends-requires-in-None c =
    let low = low_end-is c.in-Some.low _ _ _ c.end-in-None.result (search rules) c.of-from.ensures.decade c.of-from.ensures.low c.digits-down-in-None.ensures.low c.end-in-None.ensures in
    let made = made-open c.args.a c.in-Some.low _ c.in-Some.ensures.end c.in-None.ensures.end c.requires low in
    rw made (lg_of-interval c.args.a c.in-Some.ensures.interval c.requires)

pub returns-in-None-clause-value : goal.returns-in-None-clause-value
returns-in-None-clause-value c =
    let low = low_end-is c.in-Some.low _ _ _ c.end-in-None.result (search rules) c.of-from.ensures.decade c.of-from.ensures.low c.digits-down-in-None.ensures.low c.end-in-None.ensures in
    let made = made-open c.args.a c.in-Some.low _ c.in-Some.ensures.end c.in-None.ensures.end c.requires low in
    c.of_ends-in-None.ensures ∙ made

pub returns-in-None-clause-low : goal.returns-in-None-clause-low
returns-in-None-clause-low c =
    let low = low_end-is c.in-Some.low _ _ _ c.end-in-None.result (search rules) c.of-from.ensures.decade c.of-from.ensures.low c.digits-down-in-None.ensures.low c.end-in-None.ensures in
    let made = made-open c.args.a c.in-Some.low _ c.in-Some.ensures.end c.in-None.ensures.end c.requires low in
    rw (c.of_ends-in-None.ensures ∙ made) (lg_of-low c.args.a c.in-Some.ensures.interval c.requires)

pub returns-in-None-clause-from_one : goal.returns-in-None-clause-from_one
returns-in-None-clause-from_one c =
    let low = low_end-is c.in-Some.low _ _ _ c.end-in-None.result (search rules) c.of-from.ensures.decade c.of-from.ensures.low c.digits-down-in-None.ensures.low c.end-in-None.ensures in
    let made = made-open c.args.a c.in-Some.low _ c.in-Some.ensures.end c.in-None.ensures.end c.requires low in
    λ from. rw (c.of_ends-in-None.ensures ∙ made) (lg_of-from_one c.args.a c.in-Some.ensures.interval c.requires from)
