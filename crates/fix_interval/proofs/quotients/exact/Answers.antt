use Rattle.std.proofs.Common.{◌≡◌, ◌<◌, ◌^◌, ℤ, pos, ◌*ℤ◌, arith, ap, sym, ◌∙◌}
use Rattle.std.specs.Prelude.{unsigned_abs, Some}
use Rattle.std.proofs.lemmas.Int.{ints}
use Rattle.fix_interval.specs.Interval.{Interval}
use Rattle.fix_interval.specs.Units.{unit-is}
use Rattle.fix_interval.specs.Values.{ratio_of}
use Rattle.fix_interval.proofs.Ratios.{ratio_of-one}
use Rattle.fix_interval.proofs.quotients.exact.Goals as goal

point : ℤ → Interval
point z = record { lo = Some z; hi = Some z }

point_is : (n : ℤ) → unsigned_abs n < 2 ^ 94 → point (n *ℤ pos (2 ^ 32)) ≡ ratio_of n 1
unfolding point
point_is n h = sym (rw (ratio_of-one n h, unit-is))

pub returns : goal.returns
unfolding point
returns c =
    let h : unsigned_abs c.args.n < 2 ^ 94 = omega (arith, ints) in
    c.of_ends.ensures ∙ ap point (omega (arith, ints)) ∙ point_is c.args.n h
