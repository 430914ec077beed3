-- The ends of energies and of levels are bounded.
use Rattle.std.proofs.Common.{◌*◌, ◌-◌, ◌^◌, pos, neg_ℤ, refl, lit<}
use Rattle.fix_interval.specs.Units.{unit}
use Rattle.fix_interval.specs.Interval.{Interval}
use Rattle.fix_interval.specs.Bounds.{AreBetween}
use Rattle.fix_interval.specs.Values.{ratio_of, mul_of, div_of, max_of}
use Rattle.fix_interval.specs.Lg.{greatest, decade_of}
use Rattle.fix_interval.specs.Tree.{Known, enc}
use Rattle.fix_interval.specs.Ranges.{product, quotient, greater, logarithm, ten_power, constant, quotient_range, logarithm_range, power_limit, power_range}
use Rattle.fix_interval.proofs.RangedFormulas.{between, part-between}
use Rattle.enclose_log.proofs.LgRange.{logarithm-ranged}
use Rattle.enclose_exp.proofs.PowerRanges.{power-ranged}
use Rattle.energy_sum.specs.Energies.{energy_form, level_form}

pub energy-between : (level : Interval) → AreBetween (neg_ℤ (pos (2 ^ 61))) (pos (189 * 2 ^ 32)) level → AreBetween (pos 0) (pos (2 ^ 96)) (enc (energy_form (Known level)))
unfolding unit ratio_of div_of quotient_range power_limit power_range
energy-between level h = between _ _ {t = energy_form (Known level)} (ten_power power-ranged (quotient (part-between _ _ h) (constant (lit< tt)))) refl

pub level-between : (sum : Interval) → AreBetween (pos 0) (pos (2 ^ 126 - 1)) sum → AreBetween (pos 0) (pos (290 * 2 ^ 32)) (enc (level_form (Known sum)))
unfolding unit ratio_of mul_of max_of greatest decade_of logarithm_range
level-between sum h =
    between _ _ {t = level_form (Known sum)} (product (constant (lit< tt)) (logarithm logarithm-ranged (greater (constant (lit< tt)) (part-between _ _ h)))) refl
