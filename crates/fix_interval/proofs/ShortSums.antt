-- Sums of short ends, as the code passes them, are those of the table of enclosures.
use Rattle.std.proofs.Common.{◌≡◌, ◌<◌, ◌^◌, ℤ, ◌+ℤ◌, ◌≤ℤ◌, unsigned_abs, to_z, of_z, arith}
use Rattle.std.specs.Prelude.{Some}
use Rattle.std.specs.Int.{w64, w128}
use Rattle.std.proofs.lemmas.Int.{ints}
use Rattle.fix_interval.specs.Interval.{IsInterval}
use Rattle.fix_interval.specs.Values.{add_of}
use Rattle.fix_interval.proofs.Multiplying.{end_of-small}
use Rattle.fix_interval.proofs.Ratios.{passed}
use Rattle.fix_interval.proofs.WholeFactors.{within-64}

small-sum : (x y : ℤ) → unsigned_abs x < 2 ^ 62 → unsigned_abs y < 2 ^ 62 → unsigned_abs (x +ℤ y) < 2 ^ 63
small-sum x y h k = omega (arith, ints)

pub sum-found : (x y e : ℤ) → unsigned_abs x < 2 ^ 62 → unsigned_abs y < 2 ^ 62 → e ≡ to_z w64 (of_z w64 (to_z w64 (of_z w64 x) +ℤ to_z w64 (of_z w64 y)))
    → to_z w128 (of_z w128 e) ≡ x +ℤ y
sum-found x y e h k is =
    rw (is, within-64 x (omega (arith, h)), within-64 y (omega (arith, k)), within-64 (x +ℤ y) (small-sum x y h k), passed (x +ℤ y) (omega (arith, small-sum x y h k)))

module _ (al ah bl bh : ℤ) (a : unsigned_abs al < 2 ^ 62) (a' : unsigned_abs ah < 2 ^ 62) (b : unsigned_abs bl < 2 ^ 62) (b' : unsigned_abs bh < 2 ^ 62) (ordered : al ≤ℤ ah) (ordered' : bl ≤ℤ bh) where
  pub sum-interval : IsInterval (record { lo = Some (al +ℤ bl); hi = Some (ah +ℤ bh) })
  sum-interval = record {
    low_end = omega (arith, small-sum al bl a b);
    high_end = omega (arith, small-sum ah bh a' b');
    ordered = omega (arith, ints);
  }

  pub sum-short : add_of (record { lo = Some al; hi = Some ah }) (record { lo = Some bl; hi = Some bh }) ≡ record { lo = Some (al +ℤ bl); hi = Some (ah +ℤ bh) }
  unfolding add_of
  sum-short = rw (end_of-small (al +ℤ bl) (omega (arith, small-sum al bl a b)), end_of-small (ah +ℤ bh) (omega (arith, small-sum ah bh a' b')))
