-- One turn of the digits by a product of two mantissas: that of a low end with itself, or of the numbers beside the
-- mantissa of a high end.
use Rattle.std.specs.Prelude.{ℕ, ◌*◌, ◌/◌, nat_le, Bool, if◌then◌else◌}
use Rattle.fix_interval.specs.Lg.{one_mantissa}

-- the product reaches ten, so the next digit is 1
abbrev pub reaches_ten : ℕ → Bool
reaches_ten product = nat_le (10 * one_mantissa) (product / one_mantissa)

-- the product as a mantissa, rounded down, over 10 where it reaches that
abbrev pub mantissa_over : ℕ → ℕ
mantissa_over product = if reaches_ten product then product / one_mantissa / 10 else product / one_mantissa
