-- The ends of the attenuations are bounded.
use Rattle.std.proofs.Common.{ℕ, ◌*◌, ◌<◌, ◌^◌, pos, refl, arith, lit<}
use Rattle.std.proofs.lemmas.Int.{ints}
use Rattle.fix_interval.specs.Units.{unit}
use Rattle.fix_interval.specs.Interval.{Interval}
use Rattle.fix_interval.specs.Bounds.{AreBetween}
use Rattle.fix_interval.specs.Values.{ratio_of, mul_of, div_of, max_of}
use Rattle.fix_interval.specs.Lg.{greatest, decade_of}
use Rattle.fix_interval.specs.Tree.{Tree, Known, Const, enc}
use Rattle.fix_interval.specs.Ranges.{from_to, sum, product, quotient, greater, logarithm, constant, sum_range, quotient_range, logarithm_range}
use Rattle.fix_interval.proofs.Ratios.{ratio_of-one}
use Rattle.fix_interval.proofs.Spans.{units-is}
use Rattle.fix_interval.proofs.RangedFormulas.{between, part-between}
use Rattle.enclose_log.proofs.LgRange.{logarithm-ranged}
use Rattle.term_div_atm.specs.Terms.{divergence, absorption}

-- up to 2^28 m
abbrev distances : Tree
distances = Known (from_to (pos 0) (pos (2 ^ 60)))

pub divergence-between : (d : Interval) → AreBetween (pos 0) (pos (2 ^ 60)) d → AreBetween (pos (11 * 2 ^ 32)) (pos (191 * 2 ^ 32)) (enc (divergence (Known d)))
unfolding unit ratio_of mul_of max_of greatest decade_of sum_range logarithm_range
divergence-between d h =
    between _ _ {t = divergence (Known d)} {r = divergence distances}
    (sum (product (constant (lit< tt)) (logarithm logarithm-ranged (greater (constant (lit< tt)) (part-between _ _ h)))) (constant (lit< tt))) refl

-- a coefficient below 4096
coefficient-between : (alpha10 : ℕ) → alpha10 < 4096 → AreBetween (pos 0) (pos (4096 * 2 ^ 32)) (ratio_of (pos alpha10) 1)
coefficient-between alpha10 h =
    rw (ratio_of-one (pos alpha10) (omega (arith, h)), units-is alpha10) (record { lo = (omega (arith, ints), omega (arith, ints, h)); hi = (omega (arith, ints), omega (arith, ints, h)) })

pub absorption-between : (d : Interval) (alpha10 : ℕ) → alpha10 < 4096 → AreBetween (pos 0) (pos (2 ^ 60)) d → AreBetween (pos 0) (pos (2 ^ 59)) (enc (absorption (Known d) alpha10))
unfolding unit ratio_of mul_of div_of max_of quotient_range
absorption-between d alpha10 few h =
    between _ _ {t = absorption (Known d) alpha10}
    (quotient (product (greater (constant (lit< tt)) (part-between _ _ h)) (part-between (pos 0) (pos (4096 * 2 ^ 32)) {t = Const (pos alpha10) 1} (coefficient-between alpha10 few))) (constant (lit< tt))) refl
