use Rattle.std.proofs.Common.{◌≡◌, ◌∙◌, ap, Some, pos, unsigned_abs}
use Rattle.std.specs.Option.{option_map, option_map_or}
use Rattle.fix_interval.specs.ExpNeg.{exp_neg_low, exp_neg_high, exp_neg_of}
use Rattle.enclose_exp.proofs.DecayInterval.{made-is, low-kept, high-kept, exp_neg_of-interval, exp_neg_of-low, exp_neg_of-high}
use Rattle.enclose_exp.proofs.decay.exp_neg.Goals as goal
use Rattle.enclose_exp.proofs.decay.exp_neg.Goals.{After-high_decay}

-- both ends together are the definition's
made : (c : After-high_decay) → record { lo = c.low_decay.result; hi = c.high_decay.result } ≡ exp_neg_of c.args.a
made c =
    let low : c.low_decay.result ≡ Some (pos (option_map_or (λ z. exp_neg_low (unsigned_abs z)) c.args.a.hi 0)) =
    c.low_decay.ensures ∙ ap (λ s. Some (pos (exp_neg_low s))) c.exponent-high.ensures.value ∙ ap (λ n. Some (pos n)) (low-kept c.high.result)
    ∙ ap (λ e. Some (pos (option_map_or (λ z. exp_neg_low (unsigned_abs z)) e 0))) c.high.ensures.end in
    let start = rw (← c.low.ensures.end) at c.requires in
    let high : c.high_decay.result ≡ option_map (λ z. pos (exp_neg_high (unsigned_abs z))) c.args.a.lo =
    c.high_decay.ensures ∙ ap (λ s. Some (pos (exp_neg_high s))) c.exponent-low.ensures.value ∙ high-kept c.low.result start
    ∙ ap (λ e. option_map (λ z. pos (exp_neg_high (unsigned_abs z))) e) c.low.ensures.end in
    made-is c.args.a c.low_decay.result c.high_decay.result c.requires low high

pub of_ends-requires : goal.of_ends-requires
of_ends-requires c = rw (made (goal.at.of_ends-requires c).After-high_decay) (exp_neg_of-interval c.args.a c.low.ensures.interval c.requires)

pub returns-clause-value : goal.returns-clause-value
returns-clause-value c = c.of_ends.ensures ∙ made (goal.at.returns-clause-value c).After-high_decay

pub returns-clause-low : goal.returns-clause-low
returns-clause-low c = rw (c.of_ends.ensures ∙ made (goal.at.returns-clause-low c).After-high_decay) (exp_neg_of-low c.args.a c.requires)

pub returns-clause-high : goal.returns-clause-high
returns-clause-high c = rw (c.of_ends.ensures ∙ made (goal.at.returns-clause-high c).After-high_decay) (exp_neg_of-high c.args.a c.requires)
