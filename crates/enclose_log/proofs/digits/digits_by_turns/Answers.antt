use Rattle.std.proofs.Common.{◌≡◌, ◌+◌, ◌-◌, ℕ, sym, ap, ◌∙◌, arith, add-one}
use Rattle.fix_interval.specs.Lg.{turn_low, turn_high, turns, digits_low, digits_high, rounded_up}
use Rattle.enclose_log.proofs.Turns.{turns-zero, turns-suc, turns_low-in_range, turns_high-in_range, within_32}
use Rattle.enclose_log.proofs.Law.{rounded_up-le}
use Rattle.enclose_log.proofs.digits.digits_by_turns.Goals as goal

pub loop-turn-init : goal.loop-turn-init
loop-turn-init c =
    let start : c.args.high - 1 + 1 ≡ c.args.high = omega (arith, c.requires.high_least) in
    record {
      down = sym (turns-zero turn_low _);
      up = ap (λ (m : ℕ). record { mantissa = m; digits = 0 }) start ∙ sym (turns-zero turn_high _);
    }

pub loop-turn-preserved : goal.loop-turn-preserved
loop-turn-preserved c = record {
  down = rw (add-one, turns-suc) (c.next-down.ensures ∙ ap turn_low c.loop-turn.invariant.down);
  up = rw (add-one, turns-suc) (c.next-up.ensures ∙ ap turn_high c.loop-turn.invariant.up);
}

pub next-down-requires-clause-mantissa : goal.next-down-requires-clause-mantissa
next-down-requires-clause-mantissa c =
    rw c.loop-turn.invariant.down (turns_low-in_range c.args.low c.loop-turn._turn c.requires.low_least c.requires.low_below).below

pub next-down-requires-clause-digits : goal.next-down-requires-clause-digits
next-down-requires-clause-digits c =
    rw c.loop-turn.invariant.down (within_32 _ c.loop-turn._turn (omega arith) (turns_low-in_range c.args.low c.loop-turn._turn c.requires.low_least c.requires.low_below).digits)

pub next-up-requires-clause-mantissa : goal.next-up-requires-clause-mantissa
next-up-requires-clause-mantissa c =
    rw c.loop-turn.invariant.up (turns_high-in_range c.args.high c.loop-turn._turn c.requires.high_least c.requires.high_most).most

pub next-up-requires-clause-digits : goal.next-up-requires-clause-digits
next-up-requires-clause-digits c =
    rw c.loop-turn.invariant.up (within_32 _ c.loop-turn._turn (omega arith) (turns_high-in_range c.args.high c.loop-turn._turn c.requires.high_least c.requires.high_most).digits)

-- after the loop there have been 32 turns
pub returns-clause-low : goal.returns-clause-low
unfolding digits_low
returns-clause-low c =
    let count : c.loop-turn._turn ≡ 32 = omega arith in
    ap (λ t. t.digits) (c.down.view_is ∙ c.loop-turn.invariant.down ∙ ap (λ i. turns turn_low i (record { mantissa = c.args.low; digits = 0 })) count)

pub returns-clause-low_bound : goal.returns-clause-low_bound
returns-clause-low_bound c =
    let count : c.loop-turn._turn ≡ 32 = omega arith in
    let end = ap (λ t. t.digits) (c.down.view_is ∙ c.loop-turn.invariant.down ∙ ap (λ i. turns turn_low i (record { mantissa = c.args.low; digits = 0 })) count) in
    omega (arith, end, (turns_low-in_range c.args.low 32 c.requires.low_least c.requires.low_below).digits)

pub rounded_up-requires : goal.rounded_up-requires
rounded_up-requires c =
    let count : c.loop-turn._turn ≡ 32 = omega arith in
    rw (c.loop-turn.invariant.up, count) (turns_high-in_range c.args.high 32 c.requires.high_least c.requires.high_most).digits

pub returns-clause-high : goal.returns-clause-high
unfolding digits_high
returns-clause-high c =
    let count : c.loop-turn._turn ≡ 32 = omega arith in
    c.rounded_up.ensures ∙ ap rounded_up (c.loop-turn.invariant.up ∙ ap (λ i. turns turn_high i (record { mantissa = c.args.high; digits = 0 })) count)

pub returns-clause-high_bound : goal.returns-clause-high_bound
returns-clause-high_bound c =
    let count : c.loop-turn._turn ≡ 32 = omega arith in
    let last = rounded_up-le (turns turn_high 32 (record { mantissa = c.args.high; digits = 0 })) in
    rw (c.rounded_up.ensures, c.loop-turn.invariant.up, count) (omega (arith, last, (turns_high-in_range c.args.high 32 c.requires.high_least c.requires.high_most).digits))
