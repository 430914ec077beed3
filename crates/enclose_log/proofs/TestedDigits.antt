-- The digits of a mantissa that stands between two estimates of powers of ten.
use Rattle.std.proofs.Common.{◌≡◌, ℕ, suc, ◌+◌, ◌-◌, ◌*◌, ◌^◌, ◌<◌, ◌≤◌, arith}
use Rattle.fix_interval.specs.Units.{unit, unit-is}
use Rattle.fix_interval.specs.Lg.{one_mantissa, digits_low, digits_high, rounded_up}
use Rattle.fix_interval.specs.Roots.{one_factor}
use Rattle.fix_interval.specs.Ten.{fraction_low, fraction_high}
use Rattle.fix_interval.proofs.Spans.{unit-pos}
use Rattle.fix_interval.proofs.TenLaw.{fraction_low-law, fraction_high-law}
use Rattle.enclose_log.proofs.Between.{low-is, high-is, from-power, past-power, to-power, before-power}

-- h is the power of ten with the exponent g, and l that with one more
pub low-tested : (m g h l : ℕ) → h ≡ fraction_high g → l ≡ fraction_low (suc g) → suc g < 2 ^ 32 → h ≤ 2 ^ 64 → h + 64 ≤ 4 * m → 4 * m < l →
    one_mantissa ≤ m → m < 10 * one_mantissa → (digits_low m).digits ≡ g
unfolding digits_low
low-tested m g h l high low small fits from to least below =
    low-is m g 32 unit unit-is least below
    (from-power unit (10 ^ g) h (one_mantissa + 1) m one_factor (omega arith) (rw high (fraction_high-law g (omega arith))) (omega arith))
    (before-power unit (10 ^ suc g) l one_mantissa m one_factor unit-pos (omega arith) (rw low (fraction_low-law (suc g) small)) (omega arith))

pub high-tested : (m g h l : ℕ) → h ≡ fraction_high g → l ≡ fraction_low (suc g) → suc g < 2 ^ 32 → l ≤ 2 ^ 64 → h < 4 * m → 4 * m + 64 ≤ l →
    one_mantissa ≤ m → m ≤ 10 * one_mantissa → rounded_up (digits_high m) ≡ g + 1
unfolding digits_high
high-tested m g h l high low small fits from to least most =
    high-is m g 32 unit unit-is least most
    (past-power unit (10 ^ g) h one_mantissa m one_factor unit-pos (omega arith) (rw high (fraction_high-law g (omega arith))) (omega arith))
    (to-power unit (10 ^ suc g) l (one_mantissa - 1) m one_factor (omega arith) (rw low (fraction_low-law (suc g) small)) (omega arith))
