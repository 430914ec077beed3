-- The middle of a piece lies between the ends of its leg.
use Rattle.std.proofs.Common.{◌≡◌, ℕ, suc, ◌+◌, ◌*◌, ◌/◌, ◌<◌, ◌≤◌, arith, ℤ, pos, negsuc, neg_ℤ, ◌+ℤ◌, ◌-ℤ◌, ◌*ℤ◌, ◌≤ℤ◌, ◌<ℤ◌, unsigned_abs}
use Rattle.std.specs.Int.{div_ceil}
use Rattle.std.proofs.lemmas.Int.{ints, clamps, unsigned_abs-mul, by_lt_z}
use Rattle.std.proofs.lemmas.Grind.{div_ceil_times}
use Rattle.std.proofs.Math.Nat.{mul-le-mul_right, lt_of_mul-lt-mul_right, div-le_of_le-mul, div-lt_iff_lt-mul, lt-div-mul-add, div-mul-le_self}
use Rattle.fix_interval.specs.Round.{floor_of}
use Rattle.fix_interval.proofs.Rounding.{floor_of-negative, floor_of-times, neg_ℤ-*ℤ}
use Rattle.scene_geom.specs.Plan.{InPlan, nearest}
use Rattle.line_sources.specs.Legs.{middle_of}
use Rattle.line_sources.specs.Tiles.{IsMiddle}

-- a part of a way, where n of d are taken, lies between nothing and the whole way
record IsPart (way part : ℤ) : Type 0 where
  east : pos 0 ≤ℤ way → (pos 0 ≤ℤ part) × (part ≤ℤ way)
  west : way ≤ℤ pos 0 → (way ≤ℤ part) × (part ≤ℤ pos 0)

part : (way : ℤ) (n d : ℕ) → 0 < n → n < d → IsPart way (floor_of (pos n *ℤ way) d)
part (pos a) n d some less =
    let scaled = mul-le-mul_right a (let le : n ≤ d = omega (arith, less) in le) in
    let most : n * a / d ≤ a = div-le_of_le-mul d (omega (arith, scaled)) in
    record {
      east = λ h. (omega (arith, ints), omega (arith, ints, most));
      west = λ h. (omega (arith, ints, most, h), omega (arith, ints, most, h));
    }
part (negsuc a) n d some less =
    let size : unsigned_abs (pos n *ℤ negsuc a) ≡ n * suc a = unsigned_abs-mul (pos n) (negsuc a) in
    let scaled = mul-le-mul_right (suc a) less in
    let negative : (pos n *ℤ negsuc a) <ℤ pos 0 = omega (arith, ints, mul-le-mul_right (suc a) some) in
    let positive : 0 < d = omega (arith, less) in
    let is = floor_of-negative (pos n *ℤ negsuc a) d positive negative in
    let up = div_ceil_times (n * suc a) d positive in
    let below : div_ceil (n * suc a) d < suc a + 1 = lt_of_mul-lt-mul_right d (omega (arith, up.1, scaled)) in
    rw (is, size) (record {
      east = λ h. absurd (omega (arith, ints, h));
      west = λ h. (omega (arith, ints, below), omega (arith, ints));
    })

pub middle_of-in_plan : (from to : ℤ) (i count : ℕ) → InPlan from → InPlan to → i < count → InPlan (middle_of from to i count)
middle_of-in_plan from to i count f t less =
    between from to (floor_of (pos (2 * i + 1) *ℤ (to -ℤ from)) (2 * count)) f t (part (to -ℤ from) (2 * i + 1) (2 * count) (omega arith) (omega (arith, less)))
  where
    between : (from to part : ℤ) → InPlan from → InPlan to → IsPart (to -ℤ from) part → InPlan (from +ℤ part)
    between from to part f t p = by_lt_z from to (λ up. east f t (p.east (omega (arith, ints, up)))) (λ down. west f t (p.west (omega (arith, ints, down))))
      where
        east : InPlan from → InPlan to → (pos 0 ≤ℤ part) × (part ≤ℤ (to -ℤ from)) → InPlan (from +ℤ part)
        east f t p = record { low = omega (arith, ints, f.low, p.0); high = omega (arith, ints, t.high, p.1) }

        west : InPlan from → InPlan to → ((to -ℤ from) ≤ℤ part) × (part ≤ℤ pos 0) → InPlan (from +ℤ part)
        west f t p = record { low = omega (arith, ints, t.low, p.0); high = omega (arith, ints, f.high, p.1) }

-- a quotient between whole numbers
pub floor_of-bounds : (z : ℤ) (d low high : ℕ) → 0 < d → neg_ℤ (pos (low * d)) ≤ℤ z → z ≤ℤ pos (high * d) → (neg_ℤ (pos low) ≤ℤ floor_of z d) × (floor_of z d ≤ℤ pos high)
floor_of-bounds (pos a) d low high positive from to =
    let most : a / d ≤ high = div-le_of_le-mul d (omega (arith, ints, to)) in
    (omega (arith, ints), omega (arith, ints, most))
floor_of-bounds (negsuc a) d low high positive from to =
    let least : a / d < low = (div-lt_iff_lt-mul positive).1 (omega (arith, ints, from)) in
    (omega (arith, ints, least), omega (arith, ints))

-- a quotient rounded down, and the next number
floor_of-next : (z : ℤ) (d : ℕ) → 0 < d → z <ℤ ((floor_of z d +ℤ pos 1) *ℤ pos d)
floor_of-next (pos a) d positive = omega (arith, ints, lt-div-mul-add {a = a} {b = d} positive)
floor_of-next (negsuc a) d positive =
    let next : negsuc (a / d) +ℤ pos 1 ≡ neg_ℤ (pos (a / d)) = omega (arith, ints) in
    rw (next, neg_ℤ-*ℤ (pos (a / d)) d) (omega (arith, ints, div-mul-le_self a d))

-- a coordinate of the plan is the nearest to itself
nearest-same : (z : ℤ) → InPlan z → nearest z ≡ z
nearest-same z h = omega (arith, ints, clamps, h.low, h.high)

-- a piece's place is its middle
pub place-middle : (from to : ℤ) (i count : ℕ) → InPlan from → InPlan to → i < count → IsMiddle from to i count (nearest (middle_of from to i count))
place-middle from to i count f t less =
    rw (nearest-same (middle_of from to i count) (middle_of-in_plan from to i count f t less)) (middle (floor_of way (2 * count)) (floor_of-times way (2 * count) positive) (floor_of-next way (2 * count) positive))
  where
    way : ℤ
    way = pos (2 * i + 1) *ℤ (to -ℤ from)

    positive : 0 < 2 * count
    positive = omega (arith, less)

    middle : (part : ℤ) → (part *ℤ pos (2 * count)) ≤ℤ way → way <ℤ ((part +ℤ pos 1) *ℤ pos (2 * count)) → IsMiddle from to i count (from +ℤ part)
    middle part low high =
        let same : (from +ℤ part) -ℤ from ≡ part = omega (arith, ints) in
        let next : ((from +ℤ part) +ℤ pos 1) -ℤ from ≡ part +ℤ pos 1 = omega (arith, ints) in
        record { not_above = rw same low; near = rw next high }
