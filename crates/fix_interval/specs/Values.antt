-- The table of enclosures: the one interval that each operation gives for the intervals of its parts.
-- Sums, products, quotients and roots are exact and are then rounded outward, the low end down and the
-- high end up. A result end whose absolute value would reach 2^126 is unbounded.
use Rattle.std.specs.Prelude.{ℕ, ◌*◌, ◌-◌, ◌^◌, min, Bool, false, ◌&&◌, ◌||◌, not, ℤ, pos, negsuc, ◌+ℤ◌, ◌*ℤ◌, neg_ℤ, unsigned_abs, int_lt, int_le, nat_lt, if◌then◌else◌, Option, Some, None}
use Rattle.std.specs.Option.{option_map}
use Rattle.std.specs.Int.{int_min, int_max}
use Rattle.fix_interval.specs.Interval.{Interval, All}
use Rattle.fix_interval.specs.Units.{unit}
use Rattle.fix_interval.specs.Round.{floor_of, ceil_of, floor_quotient, ceil_quotient, floor_root, ceil_root}
use Rattle.fix_interval.specs.declared.truth.Truth.{Truth}
use Rattle.fix_interval.specs.declared.truth.Truth.TheVariants.{Sure, Never, Unsure}

-- an absolute value below 2^126
abbrev pub is_small : ℤ → Bool
is_small z = nat_lt (unsigned_abs z) (2 ^ 126)

-- z units as an end: unbounded where its absolute value reaches 2^126
abbrev pub end_of : ℤ → Option ℤ
end_of z = if is_small z then Some z else None

-- ---- constants

-- the fraction p / q, where q is above 0; nothing is known where p reaches 2^94
unfoldable pub ratio_of : ℤ → ℕ → Interval
ratio_of p q =
    if nat_lt (unsigned_abs p) (2 ^ 94)
    then (record { lo = Some (floor_of (p *ℤ pos unit) q); hi = Some (ceil_of (p *ℤ pos unit) q) })
    else All

-- ---- sums and differences

-- the sum of two ends of one side is unbounded where one of them is
abbrev pub sum_of_ends : Option ℤ → Option ℤ → Option ℤ
sum_of_ends (Some x) (Some y) = end_of (x +ℤ y)
sum_of_ends (Some x) None = None
sum_of_ends None y = None

unfoldable pub add_of : Interval → Interval → Interval
add_of a b = record { lo = sum_of_ends a.lo b.lo; hi = sum_of_ends a.hi b.hi }

-- the ends negated and exchanged
unfoldable pub neg_of : Interval → Interval
neg_of a = record { lo = option_map neg_ℤ a.hi; hi = option_map neg_ℤ a.lo }

abbrev pub sub_of : Interval → Interval → Interval
sub_of a b = add_of a (neg_of b)

-- ---- the greater, the lesser and the hull

-- of two low ends, where unbounded is minus infinity
abbrev pub greater_low : Option ℤ → Option ℤ → Option ℤ
greater_low None y = y
greater_low (Some x) None = Some x
greater_low (Some x) (Some y) = Some (int_max x y)

abbrev pub lesser_low : Option ℤ → Option ℤ → Option ℤ
lesser_low None y = None
lesser_low (Some x) None = None
lesser_low (Some x) (Some y) = Some (int_min x y)

-- of two high ends, where unbounded is plus infinity
abbrev pub greater_high : Option ℤ → Option ℤ → Option ℤ
greater_high None y = None
greater_high (Some x) None = None
greater_high (Some x) (Some y) = Some (int_max x y)

abbrev pub lesser_high : Option ℤ → Option ℤ → Option ℤ
lesser_high None y = y
lesser_high (Some x) None = Some x
lesser_high (Some x) (Some y) = Some (int_min x y)

unfoldable pub max_of : Interval → Interval → Interval
max_of a b = record { lo = greater_low a.lo b.lo; hi = greater_high a.hi b.hi }

unfoldable pub min_of : Interval → Interval → Interval
min_of a b = record { lo = lesser_low a.lo b.lo; hi = lesser_high a.hi b.hi }

-- the least interval that holds both
unfoldable pub hull_of : Interval → Interval → Interval
hull_of a b = record { lo = lesser_low a.lo b.lo; hi = greater_high a.hi b.hi }

-- ---- products and quotients

abbrev pub least_of : ℤ → ℤ → ℤ → ℤ → ℤ
least_of p q r s = int_min (int_min p q) (int_min r s)

abbrev pub greatest_of : ℤ → ℤ → ℤ → ℤ → ℤ
greatest_of p q r s = int_max (int_max p q) (int_max r s)

-- what f gives for the four ends of two intervals; nothing is known where one of them is unbounded
abbrev pub on_ends : (ℤ → ℤ → ℤ → ℤ → Interval) → Option ℤ → Option ℤ → Option ℤ → Option ℤ → Interval
on_ends f (Some al) (Some ah) (Some bl) (Some bh) = f al ah bl bh
on_ends f (Some al) (Some ah) (Some bl) None = All
on_ends f (Some al) (Some ah) None bh = All
on_ends f (Some al) None bl bh = All
on_ends f None ah bl bh = All

-- two ends in units of 2^-64, rounded outward to units of 2^-32; nothing is known where one is unbounded
abbrev pub rounded_outward : Option ℤ → Option ℤ → Interval
rounded_outward (Some least) (Some greatest) =
    record { lo = Some (floor_of least unit); hi = Some (ceil_of greatest unit) }
rounded_outward (Some least) None = All
rounded_outward None greatest = All

-- the least and the greatest of the four products of ends
abbrev pub least_product : ℤ → ℤ → ℤ → ℤ → ℤ
least_product al ah bl bh = least_of (al *ℤ bl) (al *ℤ bh) (ah *ℤ bl) (ah *ℤ bh)

abbrev pub greatest_product : ℤ → ℤ → ℤ → ℤ → ℤ
greatest_product al ah bl bh = greatest_of (al *ℤ bl) (al *ℤ bh) (ah *ℤ bl) (ah *ℤ bh)

-- one of the four products reaches 2^126 exactly where the least or the greatest does
abbrev pub product_of_ends : ℤ → ℤ → ℤ → ℤ → Interval
product_of_ends al ah bl bh =
    rounded_outward (end_of (least_product al ah bl bh)) (end_of (greatest_product al ah bl bh))

unfoldable pub mul_of : Interval → Interval → Interval
mul_of a b = on_ends product_of_ends a.lo a.hi b.lo b.hi

-- 0 lies between two ends
abbrev pub holds_zero : ℤ → ℤ → Bool
holds_zero lo hi = int_le lo (pos 0) && int_le (pos 0) hi

-- from the least to the greatest of four quotients of ends. Rounding keeps order, so the least quotient
-- rounded down is the least of those rounded down
abbrev pub quotient_of_ends : ℤ → ℤ → ℤ → ℤ → Interval
quotient_of_ends al ah bl bh =
    if holds_zero bl bh || not (nat_lt (unsigned_abs al) (2 ^ 94) && nat_lt (unsigned_abs ah) (2 ^ 94))
    then All
    else (let low = al *ℤ pos unit in let high = ah *ℤ pos unit in
    record {
      lo = Some (least_of (floor_quotient low bl) (floor_quotient low bh)
          (floor_quotient high bl) (floor_quotient high bh));
      hi = Some (greatest_of (ceil_quotient low bl) (ceil_quotient low bh)
          (ceil_quotient high bl) (ceil_quotient high bh));
    })

unfoldable pub div_of : Interval → Interval → Interval
div_of a b = on_ends quotient_of_ends a.lo a.hi b.lo b.hi

-- ---- roots

-- what the root of a low end is taken of: at least 0, and at most 2^95 - 1
abbrev pub low_radicand : Option ℤ → ℕ
low_radicand None = 0
low_radicand (Some (negsuc n)) = 0
low_radicand (Some (pos n)) = min n (2 ^ 95 - 1)

-- the root of a high end, unbounded from 2^95 on
abbrev pub root_of_high : Option ℤ → Option ℤ
root_of_high None = None
root_of_high (Some (negsuc n)) = None
root_of_high (Some (pos n)) = if nat_lt n (2 ^ 95) then Some (pos (ceil_root (n * unit))) else None

-- a high end below 0
abbrev pub is_below_zero : Option ℤ → Bool
is_below_zero None = false
is_below_zero (Some z) = int_lt z (pos 0)

unfoldable pub root_of : Interval → Interval
root_of a =
    if is_below_zero a.hi
    then All
    else (record { lo = Some (pos (floor_root (low_radicand a.lo * unit))); hi = root_of_high a.hi })

-- ---- comparisons and choices

-- a high end lies below a low end
abbrev pub is_before : Option ℤ → Option ℤ → Bool
is_before (Some x) (Some y) = int_lt x y
is_before (Some x) None = false
is_before None y = false

-- a high end is at most a low end
abbrev pub is_up_to : Option ℤ → Option ℤ → Bool
is_up_to (Some x) (Some y) = int_le x y
is_up_to (Some x) None = false
is_up_to None y = false

-- whether a is less than b: sure where all of a is before all of b, never where all of b is up to all of a
unfoldable pub less_of : Interval → Interval → Truth
less_of a b = if is_before a.hi b.lo then Sure else (if is_up_to b.hi a.lo then Never else Unsure)

-- the value that a comparison picks, and the hull of both where it isn't decided
unfoldable pub pick_of : Truth → Interval → Interval → Interval
pick_of Sure a b = a
pick_of Never a b = b
pick_of Unsure a b = hull_of a b
