use Rattle.std.proofs.Common.{◌≡◌}
use Rattle.fix_interval.specs.Lg.{turn_low, turn_high, turns}
use Rattle.enclose_log.proofs.digits.digits_by_turns.Given as goal

abbrev pub invariant-loop-turn : goal.invariant-loop-turn
invariant-loop-turn l = record {
  down : l.down ≡ turns turn_low l._turn (record { mantissa = l.low; digits = 0 });
  up : l.up ≡ turns turn_high l._turn (record { mantissa = l.high; digits = 0 });
}
