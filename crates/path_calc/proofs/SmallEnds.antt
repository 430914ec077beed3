-- Sums and differences of intervals with small ends.
use Rattle.std.proofs.Common.{◌≡◌, ◌<◌, ◌≤◌, ◌^◌, ℤ, neg_ℤ, ◌+ℤ◌, ◌-ℤ◌, unsigned_abs, to_z, of_z, arith}
use Rattle.std.specs.Prelude.{Some}
use Rattle.std.specs.Int.{w128}
use Rattle.std.proofs.lemmas.Int.{ints}
use Rattle.fix_interval.specs.Interval.{Interval}
use Rattle.fix_interval.specs.Values.{add_of, neg_of}
use Rattle.fix_interval.proofs.Ratios.{passed}
use Rattle.fix_interval.proofs.Multiplying.{end_of-small}

-- ---- sums and differences

small-sum : (x y : ℤ) → unsigned_abs x ≤ 2 ^ 120 → unsigned_abs y ≤ 2 ^ 120 → unsigned_abs (x +ℤ y) < 2 ^ 126
small-sum x y h k = omega (arith, ints, h, k)

minus-is : (x y : ℤ) → x -ℤ y ≡ x +ℤ neg_ℤ y
minus-is x y = omega (arith, ints)

abs-turned : (y : ℤ) → unsigned_abs y ≤ 2 ^ 120 → unsigned_abs (neg_ℤ y) ≤ 2 ^ 120
abs-turned y h = omega (arith, ints, h)

sum-found : (x y : ℤ) → unsigned_abs x ≤ 2 ^ 120 → unsigned_abs y ≤ 2 ^ 120 → to_z w128 (of_z w128 (to_z w128 (of_z w128 x) +ℤ to_z w128 (of_z w128 y))) ≡ x +ℤ y
sum-found x y h k = rw (passed x (omega (arith, h)), passed y (omega (arith, k)), passed (x +ℤ y) (small-sum x y h k))

difference-found : (x y : ℤ) → unsigned_abs x ≤ 2 ^ 120 → unsigned_abs y ≤ 2 ^ 120 → to_z w128 (of_z w128 (to_z w128 (of_z w128 x) -ℤ to_z w128 (of_z w128 y))) ≡ x +ℤ neg_ℤ y
difference-found x y h k =
    rw (passed x (omega (arith, h)), passed y (omega (arith, k)), minus-is x y, passed (x +ℤ neg_ℤ y) (small-sum x (neg_ℤ y) h (abs-turned y k)))

pub plus-found : (a b : Interval) (al ah bl bh : ℤ) → a.lo ≡ Some al → a.hi ≡ Some ah → b.lo ≡ Some bl → b.hi ≡ Some bh
    → unsigned_abs al ≤ 2 ^ 120 → unsigned_abs ah ≤ 2 ^ 120 → unsigned_abs bl ≤ 2 ^ 120 → unsigned_abs bh ≤ 2 ^ 120
    → record { lo = Some (to_z w128 (of_z w128 (to_z w128 (of_z w128 al) +ℤ to_z w128 (of_z w128 bl)))); hi = Some (to_z w128 (of_z w128 (to_z w128 (of_z w128 ah) +ℤ to_z w128 (of_z w128 bh)))) } ≡ add_of a b
unfolding add_of
plus-found a b al ah bl bh al_is ah_is bl_is bh_is p q r s =
    rw (al_is, ah_is, bl_is, bh_is, sum-found al bl p r, sum-found ah bh q s, end_of-small (al +ℤ bl) (small-sum al bl p r), end_of-small (ah +ℤ bh) (small-sum ah bh q s))

pub minus-found : (a b : Interval) (al ah bl bh : ℤ) → a.lo ≡ Some al → a.hi ≡ Some ah → b.lo ≡ Some bl → b.hi ≡ Some bh
    → unsigned_abs al ≤ 2 ^ 120 → unsigned_abs ah ≤ 2 ^ 120 → unsigned_abs bl ≤ 2 ^ 120 → unsigned_abs bh ≤ 2 ^ 120
    → record { lo = Some (to_z w128 (of_z w128 (to_z w128 (of_z w128 al) -ℤ to_z w128 (of_z w128 bh)))); hi = Some (to_z w128 (of_z w128 (to_z w128 (of_z w128 ah) -ℤ to_z w128 (of_z w128 bl)))) } ≡ add_of a (neg_of b)
unfolding add_of neg_of
minus-found a b al ah bl bh al_is ah_is bl_is bh_is p q r s =
    rw (al_is, ah_is, bl_is, bh_is, difference-found al bh p s, difference-found ah bl q r, end_of-small (al +ℤ neg_ℤ bh) (small-sum al (neg_ℤ bh) p (abs-turned bh s)), end_of-small (ah +ℤ neg_ℤ bl) (small-sum ah (neg_ℤ bl) q (abs-turned bl r)))
